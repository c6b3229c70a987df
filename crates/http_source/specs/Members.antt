-- What a member of an object may be.
use Rattle.std.specs.Prelude.{ℕ, nat_le, ◌&&◌, if◌then◌else◌, List, length, Bool, Ok, Err, Option, Some, None, is_some}
use Rattle.std.specs.List.{list_all}
use Rattle.serde_json.specs.Data.{Data}
use Rattle.serde_json.specs.Find.{as_str, as_object}
use Rattle.json_forms.specs.Forms.{number_of, values_of}
use Rattle.http_source.specs.declared.fault.RendererField.{RendererField}
use Rattle.http_source.specs.declared.fault.RendererFault.TheVariants.{Missing, Bad, Limit}
use Rattle.http_source.specs.Outcome.{Outcome, ◌>>=◌}

-- a form says what value a member has, or which fault; the field and the place are for the fault
abbrev pub Form : Type 0 → Type 0
Form A = RendererField → ℕ → Data → Outcome A

-- a member that has to be there, and one with a default
abbrev pub required : {A : Type 0} → Form A → RendererField → ℕ → Option Data → Outcome A
required form field at None = Err (Missing field at)
required form field at (Some d) = form field at d

abbrev pub or : {A : Type 0} → A → Form A → RendererField → ℕ → Option Data → Outcome A
or x form field at None = Ok x
or x form field at (Some d) = form field at d

-- a member of another kind is bad
abbrev pub of_kind : {A : Type 0} → Option A → RendererField → ℕ → Outcome A
of_kind None field at = Err (Bad field at)
of_kind (Some x) field at = Ok x

abbrev pub text : Form (List ℕ)
text field at d = of_kind (as_str d) field at

abbrev pub is_within : ℕ → ℕ → ℕ → Bool
is_within low high n = nat_le low n && nat_le n high

-- a whole number from low to high
unfoldable pub whole : ℕ → ℕ → Form ℕ
whole low high field at d = do
  n ← of_kind (number_of d) field at
  if is_within low high n then Ok n else Err (Limit field at)

abbrev pub is_object : Data → Bool
is_object d = is_some (as_object d)

-- a list of objects, of at most 64
unfoldable pub objects : Form (List Data)
objects field at d = do
  ds ← of_kind (values_of d) field at
  if list_all is_object ds then (if nat_le (length ds) 64 then Ok ds else Err (Limit field at)) else Err (Bad field at)
