-- The texts of commands: what is kept, as lines of words, and what an expiry came to, as JSON texts (RFC 8259). Identifiers and
-- values are letters, digits and _ - . : and need no escape.
use Rattle.std.specs.Prelude.{ℕ, ◌+◌, ◌==◌, if◌then◌else◌, List, [], ◌∷◌, ◌++◌, Option, Some, None, slice_get, codes, decimal}
use Rattle.std.specs.List.{join_with_byte}
use Rattle.std.specs.Option.{option_map_or}
use Rattle.cabinet.specs.State.{State}
use Rattle.cabinet_chest.specs.Counts.{counts_in_all, counts_in_layer}
use Rattle.cabinet_chest.specs.declared.command.Counts.{Counts}
use Rattle.catalog.specs.declared.catalogue.Catalogue.{Catalogue}
use Rattle.catalog.specs.declared.layer.Dimension.{Dimension}
use Rattle.catalog.specs.declared.layer.Layer.{Layer}
use Rattle.catalog.specs.LookUp.{dimensions_of, layer_of, style_of}
use Rattle.metatile_plan.specs.declared.metatile.MetaKey.{MetaKey}

-- WHAT IS KEPT

-- a quota in bytes, or - where there is none
abbrev pub quota_text : Option ℕ → List ℕ
quota_text None = codes "-"
quota_text (Some bytes) = decimal bytes

-- how many metatiles are kept, their bytes, and the quota
abbrev pub kept_counts_text : ℕ → ℕ → Option ℕ → List ℕ
kept_counts_text metatiles bytes quota = codes " " ++ decimal metatiles ++ codes " " ++ decimal bytes ++ codes " " ++ quota_text quota ++ codes "\n"

-- the line of a layer, of which this is kept
abbrev pub layer_line : Layer → Counts → List ℕ
layer_line l n = codes "layer " ++ l.id ++ kept_counts_text n.metatiles n.bytes l.quota

-- a line for each layer, in their order
abbrev pub layer_lines : List Layer → List Counts → List ℕ
layer_lines [] ns = []
layer_lines (l ∷ ls) [] = []
layer_lines (l ∷ ls) (n ∷ ns) = layer_line l n ++ layer_lines ls ns

-- the line of all layers, and that of the truncations in force
abbrev pub totals_text : Option ℕ → Counts → Counts → List ℕ
totals_text quota all cuts = codes "total" ++ kept_counts_text all.metatiles all.bytes quota ++ codes "cuts " ++ decimal cuts.cuts ++ codes "\n"

-- the text of what is kept: a line for each layer, and these two
abbrev pub counted_text : Catalogue → List Counts → Counts → Counts → List ℕ
counted_text c ns all cuts = layer_lines c.layers ns ++ totals_text c.quota all cuts

-- what is kept of each of these layers, of which the first has this number
abbrev pub layer_counts : State → ℕ → List Layer → List Counts
layer_counts s n [] = []
layer_counts s n (l ∷ ls) = counts_in_layer s n ∷ layer_counts s (n + 1) ls

-- the text of what one cabinet keeps
abbrev pub usage_text : State → List ℕ
usage_text s = counted_text s.catalogue (layer_counts s 0 s.catalogue.layers) (counts_in_all s) (counts_in_all s)

-- WHAT AN EXPIRY CAME TO

-- the value of a dimension at a number, in quotation marks
abbrev pub value_text : Dimension → ℕ → List ℕ
value_text d n = codes "\"" ++ option_map_or (λ v. v) (slice_get d.values n) [] ++ codes "\""

-- a comma before each but the first
abbrev pub comma_before : ℕ → List ℕ
comma_before place = if place == 0 then [] else codes ","

-- those of dimensions, each at its number
abbrev pub value_texts : List Dimension → List ℕ → List (List ℕ)
value_texts [] numbers = []
value_texts (d ∷ dims) [] = []
value_texts (d ∷ dims) (n ∷ numbers) = value_text d n ∷ value_texts dims numbers

-- the names of a metatile's parts
abbrev pub layer_id : Catalogue → MetaKey → List ℕ
layer_id c m = option_map_or (λ l. l.id) (layer_of c m.theme) []

abbrev pub style_id : Catalogue → MetaKey → List ℕ
style_id c m = option_map_or (λ s. s.id) (style_of c m.theme) []

abbrev pub grid_id : Catalogue → MetaKey → List ℕ
grid_id c m = option_map_or (λ g. g.id) (slice_get c.grids m.grid) []

-- its values in the order of its layer's dimensions, with a comma (44 in ASCII) between each two
abbrev pub values_text : Catalogue → MetaKey → List ℕ
values_text c m = join_with_byte 44 (value_texts (dimensions_of c m.theme.layer) m.theme.dims)

-- where it lies in its grid, up to the end of the text
abbrev pub place_text : MetaKey → List ℕ
place_text m = codes "\",\"z\":" ++ decimal m.z ++ codes ",\"row\":" ++ decimal m.row ++ codes ",\"col\":" ++ decimal m.col ++ codes "}}\n"

-- the metatile that was dropped
abbrev pub dropped_text : Catalogue → MetaKey → List ℕ
dropped_text c m =
    codes "{\"dropped\":{\"layer\":\"" ++ layer_id c m ++ codes "\",\"style\":\"" ++ style_id c m ++ codes "\",\"dimensions\":[" ++ values_text c m ++ codes "],\"grid\":\"" ++ grid_id c m ++ place_text m

-- no quota is exceeded
abbrev pub within_text : List ℕ
within_text = codes "{\"within\":true}\n"
