-- The members of a catalogue's text that nobody knows, a line a path.
use Rattle.std.specs.Prelude.{ℕ, suc, Bool, bytes_eq, if◌then◌else◌, List, [], ◌∷◌, ◌++◌, codes, Option, option_and_then}
use Rattle.std.specs.List.{list_any}
use Rattle.std.specs.Option.{option_map_or}
use Rattle.json_forms.specs.Forms.{object_of, values_of}
use Rattle.serde_json.specs.Data.{Data, Members, member, no_members}
use Rattle.serde_json.specs.Find.{as_object, get}
use Rattle.fault_paths.specs.Paths.{path_of}
use Rattle.fault_paths.specs.declared.fields.Owner.{Owner}
use Rattle.fault_paths.specs.declared.fields.Owner.TheVariants as owner

-- MEMBERS that are known

abbrev pub is_among : List (List ℕ) → List ℕ → Bool
is_among names name = list_any (λ n. bytes_eq n name) names

unfoldable pub is_of_outermost : List ℕ → Bool
is_of_outermost name = is_among (codes "source" ∷ codes "keptLimit" ∷ codes "cutLimit" ∷ codes "blobBytes" ∷ codes "quota" ∷ codes "policy" ∷ codes "grids" ∷ codes "layers" ∷ []) name

unfoldable pub is_of_grid : List ℕ → Bool
is_of_grid name = is_among (codes "id" ∷ codes "metersPerUnit" ∷ codes "corner" ∷ codes "matrices" ∷ []) name

unfoldable pub is_of_matrix : List ℕ → Bool
is_of_matrix name = is_among (codes "id" ∷ codes "corner" ∷ codes "span" ∷ codes "scale" ∷ codes "tile" ∷ codes "size" ∷ []) name

unfoldable pub is_of_layer : List ℕ → Bool
is_of_layer name = is_among (codes "id" ∷ codes "grids" ∷ codes "styles" ∷ codes "dimensions" ∷ codes "meta" ∷ codes "gutter" ∷ codes "cell" ∷ codes "quota" ∷ codes "ages" ∷ []) name

unfoldable pub is_of_style : List ℕ → Bool
is_of_style name = is_among (codes "id" ∷ codes "breaks" ∷ []) name

unfoldable pub is_of_dimension : List ℕ → Bool
is_of_dimension name = is_among (codes "id" ∷ codes "values" ∷ codes "default" ∷ []) name

abbrev pub is_known : Owner → List ℕ → Bool
is_known owner.Outermost name = is_of_outermost name
is_known owner.Grid name = is_of_grid name
is_known owner.Matrix name = is_of_matrix name
is_known owner.Layer name = is_of_layer name
is_known owner.Style name = is_of_style name
is_known owner.Dimension name = is_of_dimension name

-- LINES

-- those of an object, in the order of its members
abbrev pub name_line : Owner → ℕ → ℕ → List ℕ → List ℕ
name_line o outer i name = if is_known o name then [] else path_of o outer i ++ codes "." ++ name ++ codes "\n"

abbrev pub names_lines : Owner → ℕ → ℕ → Members → List ℕ
names_lines o outer i no_members = []
names_lines o outer i (member name holder ms) = name_line o outer i name ++ names_lines o outer i ms

abbrev pub own_lines : Owner → ℕ → ℕ → Data → List ℕ
own_lines o outer i holder = option_map_or (λ ms. names_lines o outer i ms) (as_object holder) []

-- a line for each object of a list, by its place, from a place on
abbrev pub by_place : (ℕ → Data → List ℕ) → ℕ → List Data → List ℕ
by_place line i [] = []
by_place line i (holder ∷ holders) = line i holder ++ by_place line (suc i) holders

-- those of a list that is a member of an object
abbrev pub list_lines : (ℕ → Data → List ℕ) → List ℕ → Data → List ℕ
list_lines line list holder = option_map_or (λ holders. by_place line 0 holders) (option_and_then values_of (get list holder)) []

abbrev pub grid_lines : ℕ → Data → List ℕ
grid_lines i grid = own_lines owner.Grid 0 i grid ++ list_lines (own_lines owner.Matrix i) (codes "matrices") grid

abbrev pub layer_lines : ℕ → Data → List ℕ
layer_lines i layer = own_lines owner.Layer 0 i layer ++ (list_lines (own_lines owner.Style i) (codes "styles") layer ++ list_lines (own_lines owner.Dimension i) (codes "dimensions") layer)

-- those of a catalogue: of the outermost object, of its grids with their matrices, and of its layers with their styles and dimensions
abbrev pub unknown_lines : Data → List ℕ
unknown_lines whole = own_lines owner.Outermost 0 0 whole ++ (list_lines grid_lines (codes "grids") whole ++ list_lines layer_lines (codes "layers") whole)

-- so it is of the catalogue's text; one that is no object has none
abbrev pub unknown_in : List ℕ → List ℕ
unknown_in text = option_map_or (λ whole. unknown_lines whole) (object_of text) []
