-- what every catalogue in use meets
use Rattle.std.specs.Prelude.{ℕ, ◌≡◌, ◌≢◌, ◌+◌, ◌*◌, ◌^◌, ◌<◌, ◌≤◌, List, map, length, IfSome, IsTrue, IsFalse, slice_get}
use Rattle.std.specs.List.{AllByRecursion}
use Rattle.std.specs.Char.{to_ascii_lowercase}
use Rattle.catalog.specs.declared.catalogue.Catalogue.{Catalogue}
use Rattle.catalog.specs.declared.grid.Grid.{Grid}
use Rattle.catalog.specs.declared.layer.Dimension.{Dimension}
use Rattle.catalog.specs.declared.layer.Layer.{Layer}
use Rattle.catalog.specs.declared.layer.Style.{Style}
use Rattle.catalog.specs.FirstFault.{rise_from_zero, matrices_at, zooms_rise}
use Rattle.catalog.specs.Names.{is_name, is_parameter}
use Rattle.matrix_geometry.specs.declared.matrix.Matrix.{Matrix}
use Rattle.matrix_geometry.specs.Limits.{IsWithinLimits}

-- 1 to 64 letters, digits and _ - . :
pub record IsName (text : List ℕ) : Type 0 where
  pub bytes : IsTrue (is_name text)
  pub most : length text ≤ 64

-- no two places have the same
abbrev pub AreDistinct : {A : Type 0} → List A → Type 0
AreDistinct xs = (i j : ℕ) → i < j → j < length xs → slice_get xs i ≢ slice_get xs j

abbrev pub IsGrid : Grid → Type 0
IsGrid g = AllByRecursion IsWithinLimits g.matrices

-- 1 to 30 matrices, each with a name of its own
pub record IsNamedGrid (g : Grid) : Type 0 where
  pub id : IsName g.id
  pub same : length g.names ≡ length g.matrices
  pub least : 1 ≤ length g.matrices
  pub most : length g.matrices ≤ 30
  pub names : AllByRecursion IsName g.names
  pub own_names : AreDistinct g.names

pub record IsStyle (s : Style) : Type 0 where
  pub id : IsName s.id
  pub breaks_most : length s.breaks ≤ 256
  pub breaks_rise : IsTrue (rise_from_zero s.breaks)

pub record IsDimension (d : Dimension) : Type 0 where
  pub id : IsName d.id
  pub no_parameter : IsFalse (is_parameter d.id)
  pub values : AllByRecursion IsName d.values
  pub values_least : 1 ≤ length d.values
  pub values_most : length d.values ≤ 1024
  pub own_values : AreDistinct d.values
  pub default : IfSome d.default (λ n. n < length d.values)

-- a layer by itself
pub record IsLayer (l : Layer) : Type 0 where
  pub id : IsName l.id
  pub grids_least : 1 ≤ length l.grids
  pub grids_most : length l.grids ≤ 16
  pub own_grids : AreDistinct l.grids
  pub styles : AllByRecursion IsStyle l.styles
  pub styles_least : 1 ≤ length l.styles
  pub styles_most : length l.styles ≤ 32
  pub own_styles : AreDistinct (map (λ s. s.id) l.styles)
  pub dims : AllByRecursion IsDimension l.dims
  pub dims_most : length l.dims ≤ 4
  pub own_dims : AreDistinct (map (λ d. map to_ascii_lowercase d.id) l.dims)
  pub meta_x : 1 ≤ l.meta_x
  pub meta_x_most : l.meta_x ≤ 8
  pub meta_y : 1 ≤ l.meta_y
  pub meta_y_most : l.meta_y ≤ 8
  pub gutter_most : l.gutter ≤ 64
  pub cell : 1 ≤ l.cell
  pub cell_most : l.cell ≤ 10 ^ 9
  pub quota : IfSome l.quota (λ bytes. bytes ≤ 2 ^ 50)
  pub ages_most : length l.ages ≤ 30
  pub ages_rise : IsTrue (zooms_rise 0 l.ages)

-- a metatile of the layer has few enough pixels on this matrix, with its gutter
abbrev pub IsSmallOn : Layer → Matrix → Type 0
IsSmallOn l m = (l.meta_x * m.tile_w + 2 * l.gutter) * (l.meta_y * m.tile_h + 2 * l.gutter) ≤ 4500000

-- a layer is served on grids that are there, and its metatiles are small on each of them
pub record IsServed (grids : List Grid) (l : Layer) : Type 0 where
  pub there : AllByRecursion (λ n. n < length grids) l.grids
  pub small : AllByRecursion (λ n. AllByRecursion (IsSmallOn l) (matrices_at (slice_get grids n))) l.grids

pub record IsValid (c : Catalogue) : Type 0 where
  pub kept_limit : 1 ≤ c.kept_limit
  pub kept_limit_most : c.kept_limit ≤ 1048576
  pub cut_limit : 1 ≤ c.cut_limit
  pub cut_limit_most : c.cut_limit ≤ 65536
  pub blob_bytes : 1 ≤ c.blob_bytes
  pub blob_bytes_most : c.blob_bytes ≤ 2 ^ 40
  pub quota : IfSome c.quota (λ bytes. bytes ≤ 2 ^ 50)
  pub grids : AllByRecursion IsGrid c.grids
  pub named_grids : AllByRecursion IsNamedGrid c.grids
  pub grids_least : 1 ≤ length c.grids
  pub grids_most : length c.grids ≤ 16
  pub own_grids : AreDistinct (map (λ g. g.id) c.grids)
  pub layers : AllByRecursion IsLayer c.layers
  pub served : AllByRecursion (IsServed c.grids) c.layers
  pub layers_least : 1 ≤ length c.layers
  pub layers_most : length c.layers ≤ 64
  pub own_layers : AreDistinct (map (λ l. l.id) c.layers)
