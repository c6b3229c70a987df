-- What a member of an object may be. Of a member the form is tested first, then its limits, then what it names.
use Rattle.std.specs.Prelude.{ℕ, List, [], length, map, Bool, Result, Ok, Err, Option, Some, None, is_some, unwrap_or, if◌then◌else◌}
use Rattle.std.specs.List.{list_all}
use Rattle.serde_json.specs.Data.{Data}
use Rattle.serde_json.specs.Find.{as_str, as_object}
use Rattle.json_forms.specs.Forms.{number_of, values_of}
use Rattle.catalog.specs.declared.fault.Field.{Field}
use Rattle.catalog.specs.declared.fault.CatalogueFault.{CatalogueFault}
use Rattle.catalog.specs.declared.fault.CatalogueFault.TheVariants.{Missing, Bad, Duplicate, Limit}
use Rattle.catalog.specs.FirstFault.{unless, name_test, names_test}
use Rattle.catalog.specs.Names.{within, are_distinct}
use Rattle.config_text.specs.Reading.{◌>>=◌, tested}

-- a form says what value a member has, or which fault; the field and the place are for the fault
abbrev pub Form : Type 0 → Type 0
Form A = Field → ℕ → Data → Result A CatalogueFault

-- a member that has to be there, one with a default, and one that may be absent
abbrev pub required : {A : Type 0} → Form A → Field → ℕ → Option Data → Result A CatalogueFault
required form f at None = Err (Missing f at)
required form f at (Some d) = form f at d

abbrev pub or : {A : Type 0} → A → Form A → Field → ℕ → Option Data → Result A CatalogueFault
or x form f at None = Ok x
or x form f at (Some d) = form f at d

abbrev pub if_any : {A : Type 0} → Form A → Field → ℕ → Option Data → Result (Option A) CatalogueFault
if_any form f at None = Ok None
if_any form f at (Some d) = form f at d >>= λ x. Ok (Some x)

-- a member of another kind is bad
abbrev pub of_kind : {A : Type 0} → Option A → Field → ℕ → Result A CatalogueFault
of_kind None f at = Err (Bad f at)
of_kind (Some x) f at = Ok x

-- a whole number from low to high
unfoldable pub whole : ℕ → ℕ → Form ℕ
whole low high f at d = do
  n ← of_kind (number_of d) f at
  tested (unless (within low high n) (Limit f at)) n

-- the values of a list
abbrev pub items : Form (List Data)
items f at d = of_kind (values_of d) f at

abbrev pub is_object : Data → Bool
is_object d = is_some (as_object d)

-- a list of objects, from low to high of them
unfoldable pub objects : ℕ → ℕ → Form (List Data)
objects low high f at d = do
  ds ← items f at d
  if list_all is_object ds then tested (unless (within low high (length ds)) (Limit f at)) ds else Err (Bad f at)

-- an identifier that none of those before has
unfoldable pub name_beside : {A : Type 0} → (A → List ℕ) → List A → Form (List ℕ)
name_beside name before f at d = do
  text ← of_kind (as_str d) f at
  tested (name_test name before f at text) text

abbrev pub is_text : Data → Bool
is_text d = is_some (as_str d)

abbrev pub text_of : Data → List ℕ
text_of d = unwrap_or (as_str d) []

-- a list of texts
unfoldable pub texts : Form (List (List ℕ))
texts f at d = do
  ds ← items f at d
  if list_all is_text ds then Ok (map text_of ds) else Err (Bad f at)

-- a list of names, from low to high of them
unfoldable pub names : ℕ → ℕ → Form (List (List ℕ))
names low high f at d = do
  all ← texts f at d
  tested (names_test low high f at all) all

-- the same, each of them once
unfoldable pub own_names : ℕ → ℕ → Form (List (List ℕ))
own_names low high f at d = do
  all ← names low high f at d
  tested (unless (are_distinct all) (Duplicate f at)) all
