-- A line for a metatile that is kept, in columns that blanks part. Identifiers, names and values are letters, digits and _ - . : and need no quotation marks.
use Rattle.std.specs.Prelude.{ℕ, ◌==◌, if◌then◌else◌, List, [], ◌∷◌, ◌++◌, Option, slice_get, codes, decimal}
use Rattle.std.specs.List.{join_with_byte}
use Rattle.std.specs.Option.{option_map_or}
use Rattle.cabinet.specs.declared.kept.Kept.{Kept}
use Rattle.catalog.specs.declared.catalogue.Catalogue.{Catalogue}
use Rattle.catalog.specs.declared.layer.Dimension.{Dimension}
use Rattle.catalog.specs.LookUp.{dimensions_of, layer_of, style_of}
use Rattle.metatile_plan.specs.declared.metatile.MetaKey.{MetaKey}
use Rattle.raster_field.specs.Blocks.{first_tile}

-- COLUMNS behind the first

abbrev pub word_column : List ℕ → List ℕ
word_column word = codes " " ++ word

abbrev pub number_column : ℕ → List ℕ
number_column n = codes " " ++ decimal n

-- NAMES of the parts of a metatile

abbrev pub layer_id : Catalogue → MetaKey → List ℕ
layer_id c m = option_map_or (λ l. l.id) (layer_of c m.theme) []

abbrev pub style_id : Catalogue → MetaKey → List ℕ
style_id c m = option_map_or (λ s. s.id) (style_of c m.theme) []

abbrev pub grid_id : Catalogue → MetaKey → List ℕ
grid_id c m = option_map_or (λ g. g.id) (slice_get c.grids m.grid) []

abbrev pub matrix_name : Catalogue → MetaKey → List ℕ
matrix_name c m = option_map_or (λ g. option_map_or (λ n. n) (slice_get g.names m.z) []) (slice_get c.grids m.grid) []

-- VALUES

-- a dimension and its value at a number, as time=2026
abbrev pub value_text : Dimension → ℕ → List ℕ
value_text d n = d.id ++ codes "=" ++ option_map_or (λ v. v) (slice_get d.values n) []

-- a comma before each but the first
abbrev pub comma_before : ℕ → List ℕ
comma_before place = if place == 0 then [] else codes ","

-- those of dimensions, each at its number
abbrev pub value_texts : List Dimension → List ℕ → List (List ℕ)
value_texts [] numbers = []
value_texts (d ∷ dims) [] = []
value_texts (d ∷ dims) (n ∷ numbers) = value_text d n ∷ value_texts dims numbers

-- in the order of the layer's dimensions, with a comma (44 in ASCII) between each two; a dash where the layer has none
abbrev pub values_column : List Dimension → List ℕ → List ℕ
values_column [] numbers = codes " -"
values_column (d ∷ dims) numbers = codes " " ++ join_with_byte 44 (value_texts (d ∷ dims) numbers)

-- THE LINE

-- style, values, grid and matrix
unfoldable pub names : Catalogue → MetaKey → List ℕ
names c m = word_column (style_id c m) ++ values_column (dimensions_of c m.theme.layer) m.theme.dims ++ word_column (grid_id c m) ++ word_column (matrix_name c m)

-- the row and the column of the first tile
abbrev pub place_columns : Catalogue → MetaKey → List ℕ
place_columns c m = number_column (first_tile c m).row ++ number_column (first_tile c m).col

-- the number of the render, the moment at which it was begun in seconds, the uses, and the bytes
abbrev pub figures : Kept → List ℕ
figures t = number_column t.number ++ number_column t.moment ++ number_column t.uses ++ number_column t.length ++ codes "\n"

-- the layer, and all of these
unfoldable pub line_of : Catalogue → Kept → List ℕ
line_of c t = layer_id c t.meta ++ names c t.meta ++ place_columns c t.meta ++ figures t
