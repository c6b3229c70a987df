-- The values of a layer's dimensions that a part names: an object from the identifiers of the dimensions to their values.
use Rattle.std.specs.Prelude.{ℕ, ◌&&◌, Bool, true, if◌then◌else◌, List, [], ◌∷◌, Option, Some, None, is_some, option_and_then, ok_or, Result, Ok, Err}
use Rattle.serde_json.specs.Data.{Data, Members, no_members, member}
use Rattle.serde_json.specs.Find.{get, as_str, as_object}
use Rattle.catalog.specs.declared.catalogue.Catalogue.{Catalogue}
use Rattle.catalog.specs.declared.layer.Dimension.{Dimension}
use Rattle.catalog.specs.LookUp.{dimensions_of}
use Rattle.catalog.specs.Names.{is_taken}
use Rattle.dimension_key.specs.declared.draft.DimFault.{DimFault}
use Rattle.dimension_key.specs.declared.draft.DimFault.TheVariants as dim
use Rattle.dimension_key.specs.declared.draft.ThemeDraft.{ThemeDraft}
use Rattle.dimension_key.specs.Draft.{draft_of, drafted}
use Rattle.matrix_geometry.specs.declared.theme.Theme.{Theme}
use Rattle.layer_recipes.specs.declared.fault.RecipeField.TheVariants as field
use Rattle.layer_recipes.specs.declared.fault.RecipeFault.TheVariants.{Missing, Bad}
use Rattle.layer_recipes.specs.Outcome.{Outcome, ◌>>=◌}

-- a text under the identifier of a dimension
abbrev pub is_value : List Dimension → List ℕ → Data → Bool
is_value ds name d = is_taken (λ x. x.id) ds name && is_some (as_str d)

abbrev pub are_values : List Dimension → Members → Bool
are_values ds no_members = true
are_values ds (member name d ms) = is_value ds name d && are_values ds ms

abbrev pub if_values : List Dimension → Members → Option (Unit {0})
if_values ds ms = if are_values ds ms then Some tt else None

-- The form of the whole member: an object of such texts, or no member at all.
abbrev pub formed : List Dimension → ℕ → Option Data → Outcome (Unit {0})
formed ds part None = Ok tt
formed ds part (Some d) = ok_or (option_and_then (if_values ds) (as_object d)) (Bad field.Dimensions part)

-- the text that is given to the dimension of this identifier
abbrev pub given : Option Data → List ℕ → Option (List ℕ)
given object id = option_and_then as_str (option_and_then (get id) object)

-- which fault of the part a fault of a dimension is
abbrev pub or_fault : ℕ → Result ThemeDraft DimFault → Outcome ThemeDraft
or_fault part (Ok draft) = Ok draft
or_fault part (Err dim.Missing) = Err (Missing field.Dimensions part)
or_fault part (Err dim.Invalid) = Err (Bad field.Dimensions part)

-- each dimension in turn: the number of its value, or of its default, joins the theme
abbrev pub dimensions : Catalogue → ℕ → Option Data → List Dimension → ThemeDraft → Outcome ThemeDraft
dimensions c part object [] draft = Ok draft
dimensions c part object (d ∷ ds) draft = or_fault part (drafted c (given object d.id) draft) >>= dimensions c part object ds

-- the theme of a layer and a style, with these values
unfoldable pub theme_in : Catalogue → ℕ → ℕ → ℕ → Option Data → Outcome Theme
theme_in c part layer style object = do
  formed ← formed (dimensions_of c layer) part object
  draft ← dimensions c part object (dimensions_of c layer) (draft_of layer style)
  Ok draft.theme
