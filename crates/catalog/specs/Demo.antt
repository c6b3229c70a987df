-- the catalogue that is used where none is given
use Rattle.std.specs.Prelude.{ℕ, [], ◌∷◌, None, codes, pos}
use Rattle.catalog.specs.declared.catalogue.Catalogue.{Catalogue}
use Rattle.catalog.specs.declared.catalogue.Policy.TheVariants.{Lru}
use Rattle.catalog.specs.declared.grid.Grid.{Grid}
use Rattle.catalog.specs.declared.layer.Layer.{Layer}
use Rattle.catalog.specs.declared.demo.TheConstants.{EMPTY_DIGEST}
use Rattle.exact_ratio.specs.declared.ratio.Ratio.{Ratio}
use Rattle.matrix_geometry.specs.declared.matrix.Matrix.{Matrix}

-- the span of so many whole units
abbrev pub units : ℕ → Ratio
units n = record { n = pos n; d = pos 1 }

-- a matrix of n by n tiles of 2 by 2 pixels, with its corner at 0, 16
abbrev pub square : Ratio → ℕ → Matrix
square span n = record { span = span; left = pos 0; top = pos 16000000000; tile_w = 2; tile_h = 2; cols = n; rows = n }

abbrev pub tiny : Grid
tiny =
    record {
      id = codes "tiny";
      names = codes "0" ∷ codes "1" ∷ codes "2" ∷ [];
      matrices = square (units 8) 1 ∷ square (units 4) 2 ∷ square (units 2) 4 ∷ [];
    }

abbrev pub demo_layer : Layer
demo_layer =
    record {
      id = codes "demo";
      grids = 0 ∷ [];
      styles = record { id = codes "grey"; breaks = [] } ∷ [];
      dims = [];
      meta_x = 1;
      meta_y = 1;
      gutter = 0;
      cell = 1;
      quota = None;
      ages = [];
    }

abbrev pub demo : Catalogue
demo =
    record {
      digest = EMPTY_DIGEST;
      source = 0;
      kept_limit = 64;
      cut_limit = 16;
      blob_bytes = 4096;
      quota = None;
      policy = Lru;
      grids = tiny ∷ [];
      layers = demo_layer ∷ [];
    }
