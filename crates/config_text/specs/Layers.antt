-- The layers, their styles and their dimensions.
use Rattle.std.specs.Prelude.{ℕ, ◌^◌, ◌&&◌, ◌==◌, List, [], ◌∷◌, length, map, min, Bool, not, nat_le, Result, Ok, Err, codes}
use Rattle.std.specs.List.{list_all, list_any}
use Rattle.serde_json.specs.Data.{Data}
use Rattle.serde_json.specs.Find.{get, as_str}
use Rattle.catalog.specs.declared.grid.Grid.{Grid}
use Rattle.catalog.specs.declared.layer.Break.{Break}
use Rattle.catalog.specs.declared.layer.Dimension.{Dimension}
use Rattle.catalog.specs.declared.layer.Layer.{Layer}
use Rattle.catalog.specs.declared.layer.Style.{Style}
use Rattle.catalog.specs.declared.fault.Field.{Field}
use Rattle.catalog.specs.declared.fault.Field.TheVariants as field
use Rattle.catalog.specs.declared.fault.CatalogueFault.{CatalogueFault}
use Rattle.catalog.specs.declared.fault.CatalogueFault.TheVariants.{Bad, Duplicate, Limit}
use Rattle.catalog.specs.FirstFault.{unless, dimension_name_test, rise_from_zero, are_factors, are_small}
use Rattle.catalog.specs.Names.{place_named}
use Rattle.matrix_geometry.specs.declared.matrix.Size.{Size}
use Rattle.config_text.specs.declared.row.Row.{Row}
use Rattle.json_forms.specs.Forms.{number_of}
use Rattle.config_text.specs.Reading.{◌>>=◌, tested, entries}
use Rattle.config_text.specs.Member.{Form, required, or, if_any, of_kind, items, objects, name_beside, names, own_names, whole}
use Rattle.config_text.specs.Shape.{size}
use Rattle.config_text.specs.Ages.{ages}

-- ---- styles

-- a row of four whole numbers: from, red, green and blue
abbrev pub four_of : ℕ → List Data → Result Row CatalogueFault
four_of at [] = Err (Bad field.Breaks at)
four_of at (a ∷ []) = Err (Bad field.Breaks at)
four_of at (a ∷ b ∷ []) = Err (Bad field.Breaks at)
four_of at (a ∷ b ∷ c ∷ []) = Err (Bad field.Breaks at)
four_of at (a ∷ b ∷ c ∷ d ∷ []) = do
  from ← of_kind (number_of a) field.Breaks at
  red ← of_kind (number_of b) field.Breaks at
  green ← of_kind (number_of c) field.Breaks at
  blue ← of_kind (number_of d) field.Breaks at
  Ok (record { from = from; r = red; g = green; b = blue })
four_of at (a ∷ b ∷ c ∷ d ∷ e ∷ ds) = Err (Bad field.Breaks at)

unfoldable pub row_of : ℕ → Data → Result Row CatalogueFault
row_of at d = do
  ds ← items field.Breaks at d
  four_of at ds

abbrev pub is_byte_row : Row → Bool
is_byte_row row = nat_le row.from 255 && nat_le row.r 255 && nat_le row.g 255 && nat_le row.b 255

-- at most 256 rows of bytes
abbrev pub are_breaks : List Row → Bool
are_breaks rows = nat_le (length rows) 256 && list_all is_byte_row rows

abbrev pub break_of : Row → Break
break_of row = record { from = min row.from 255; r = min row.r 255; g = min row.g 255; b = min row.b 255 }

-- the limits of rows, then their order
unfoldable pub breaks_in : List Row → Field → ℕ → Result (List Break) CatalogueFault
breaks_in rows f at = do
  few ← tested (unless (are_breaks rows) (Limit f at)) (map break_of rows)
  tested (unless (rise_from_zero few) (Bad f at)) few

-- the form of every row comes first
unfoldable pub breaks : Form (List Break)
breaks f at d = do
  ds ← items f at d
  rows ← entries (λ before. row_of at) [] ds
  breaks_in rows f at

unfoldable pub style_of : List Style → Data → Result Style CatalogueFault
style_of before d = do
  id ← required (name_beside (λ s. s.id) before) field.StyleId (length before) (get (codes "id") d)
  rows ← required breaks field.Breaks (length before) (get (codes "breaks") d)
  Ok (record { id = id; breaks = rows })

-- ---- dimensions

-- an identifier that is told from the parameters of a query and from the dimensions before without regard to case
unfoldable pub name_apart : List Dimension → Form (List ℕ)
name_apart before f at d = do
  text ← of_kind (as_str d) f at
  tested (dimension_name_test before at text) text

-- one of the values, by its number
unfoldable pub one_of : List (List ℕ) → Form ℕ
one_of values f at d = do
  text ← of_kind (as_str d) f at
  of_kind (place_named (λ v. v) values text) f at

unfoldable pub dimension_of : List Dimension → Data → Result Dimension CatalogueFault
dimension_of before d = do
  id ← required (name_apart before) field.DimensionId (length before) (get (codes "id") d)
  values ← required (own_names 1 1024) field.Values (length before) (get (codes "values") d)
  standard ← if_any (one_of values) field.Default (length before) (get (codes "default") d)
  Ok (record { id = id; values = values; default = standard })

-- ---- layers

-- the number of the grid of a name, beside the numbers before it
unfoldable pub grid_number : ℕ → List Grid → List ℕ → List ℕ → Result ℕ CatalogueFault
grid_number at grids before text = do
  number ← of_kind (place_named (λ g. g.id) grids text) field.LayerGrids at
  tested (unless (not (list_any (λ n. n == number) before)) (Duplicate field.LayerGrids at)) number

unfoldable pub factors : Form Size
factors f at d = do
  meta ← size f at d
  tested (unless (are_factors meta.w meta.h) (Limit f at)) meta

-- a layer over these grids, after the layers before it
unfoldable pub layer_of : List Grid → List Layer → Data → Result Layer CatalogueFault
layer_of grids before d = do
  id ← required (name_beside (λ l. l.id) before) field.LayerId (length before) (get (codes "id") d)
  grid_names ← required (names 1 16) field.LayerGrids (length before) (get (codes "grids") d)
  numbers ← entries (grid_number (length before) grids) [] grid_names
  ss ← required (objects 1 32) field.Styles (length before) (get (codes "styles") d)
  styles ← entries style_of [] ss
  ds ← or [] (objects 0 4) field.Dimensions (length before) (get (codes "dimensions") d)
  dims ← entries dimension_of [] ds
  meta ← or (record { w = 4; h = 4 }) factors field.Meta (length before) (get (codes "meta") d)
  gutter ← or 0 (whole 0 64) field.Gutter (length before) (get (codes "gutter") d)
  cell ← or 1 (whole 1 1000000000) field.Cell (length before) (get (codes "cell") d)
  quota ← if_any (whole 0 (2 ^ 50)) field.LayerQuota (length before) (get (codes "quota") d)
  ages ← or [] ages field.Ages (length before) (get (codes "ages") d)
  tested (unless (are_small grids numbers meta.w meta.h gutter) (Limit field.Meta (length before))) (record { id = id; grids = numbers; styles = styles; dims = dims; meta_x = meta.w; meta_y = meta.h; gutter = gutter; cell = cell; quota = quota; ages = ages })

unfoldable pub layers_of : List Grid → Data → Result (List Layer) CatalogueFault
layers_of grids d = do
  ds ← required (objects 1 64) field.Layers 0 (get (codes "layers") d)
  entries (layer_of grids) [] ds
