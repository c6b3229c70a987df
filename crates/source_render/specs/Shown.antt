-- what a painter paints
use Rattle.std.specs.Prelude.{ℕ, ◌≡◌, ◌+◌, ◌*◌, ◌%◌, ◌<◌, List, get_or}
use Rattle.catalog.specs.declared.layer.Break.{Break}
use Rattle.exact_ratio.specs.Values.{Fraction}
use Rattle.raster_field.specs.declared.colour.Colour.{Colour}
use Rattle.raster_field.specs.Picture.{Scene, cell_at, colour_of}
use Rattle.source_render.specs.declared.painter.Painter.{Painter}

abbrev pub shown : Painter → Scene
shown p = record { source = p.source; number = p.number; theme = p.theme; matrix = p.matrix; layer = p.layer.now; style = p.style.now }

-- the table has the colour of each value
abbrev pub IsPalette : List Break → List Colour → Type 0
IsPalette breaks palette = (v : ℕ) (d : Colour) → v < 256 → get_or palette v d ≡ colour_of breaks v

-- what a column adds to a value, of so many columns from `first` on
abbrev pub AreShares : Fraction → ℕ → ℕ → ℕ → List ℕ → Type 0
AreShares span cell first count shares = (i : ℕ) → i < count → get_or shares i 0 ≡ (17 * cell_at span cell (first + i)) % 256
