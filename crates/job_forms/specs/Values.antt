-- The values that a cover is for: an object from the identifiers of the layer's dimensions to their values.
use Rattle.std.specs.Prelude.{ℕ, if◌then◌else◌, List, [], ◌∷◌, Bool, Option, Some, None, option_and_then, ok_or, Ok}
use Rattle.std.specs.List.{list_all}
use Rattle.serde_json.specs.Data.{Data, Members, no_members, member}
use Rattle.serde_json.specs.Find.{get, as_str, as_object}
use Rattle.catalog.specs.declared.catalogue.Catalogue.{Catalogue}
use Rattle.catalog.specs.declared.layer.Dimension.{Dimension}
use Rattle.catalog.specs.LookUp.{dimension_at, dimensions_of}
use Rattle.catalog.specs.Names.{is_taken, place_named}
use Rattle.job_forms.specs.declared.fault.JobField.TheVariants as field
use Rattle.job_forms.specs.declared.fault.JobFault.TheVariants.{Bad}
use Rattle.job_forms.specs.Outcome.{Outcome, ◌>>=◌}
use Rattle.job_forms.specs.Members.{Form, if_any}

-- the names of an object's members
abbrev pub names_in : Members → List (List ℕ)
names_in no_members = []
names_in (member name d ms) = name ∷ names_in ms

-- each name is that of a dimension
abbrev pub are_known : List Dimension → List (List ℕ) → Bool
are_known ds names = list_all (is_taken (λ d. d.id) ds) names

-- the members, where each name is that of a dimension
abbrev pub known : List Dimension → Form Members
known ds d = option_and_then (λ ms. if are_known ds (names_in ms) then Some ms else None) (as_object d)

-- the number of a value of a dimension
abbrev pub value : Dimension → Form ℕ
value dimension d = option_and_then (place_named (λ v. v) dimension.values) (as_str d)

-- the value that an object gives to a dimension: any where it gives none, or where there is no such dimension
abbrev pub wanted : Option Dimension → Data → Outcome (Option ℕ)
wanted None d = Ok None
wanted (Some dimension) d = if_any (value dimension) field.Dimensions (get dimension.id d)

unfoldable pub values : Catalogue → ℕ → Data → Outcome (List (Option ℕ))
values c layer d = do
  members ← ok_or (known (dimensions_of c layer) d) (Bad field.Dimensions)
  first ← wanted (dimension_at c layer 0) d
  second ← wanted (dimension_at c layer 1) d
  third ← wanted (dimension_at c layer 2) d
  fourth ← wanted (dimension_at c layer 3) d
  Ok (first ∷ second ∷ third ∷ fourth ∷ [])

-- any value of each dimension where the member is absent
abbrev pub values_or_any : Catalogue → ℕ → Option Data → Outcome (List (Option ℕ))
values_or_any c layer None = Ok (None ∷ None ∷ None ∷ None ∷ [])
values_or_any c layer (Some d) = values c layer d
