-- What a member of a cover may be.
use Rattle.std.specs.Prelude.{ℕ, ◌&&◌, nat_le, nat_lt, if◌then◌else◌, List, length, Option, Some, None, option_and_then, option_map, unwrap_or, ok_or, Ok, Err, codes, bytes_eq, slice_get}
use Rattle.serde_json.specs.Data.{Data}
use Rattle.serde_json.specs.Find.{as_str}
use Rattle.json_forms.specs.Forms.{number_of}
use Rattle.catalog.specs.declared.catalogue.Catalogue.{Catalogue}
use Rattle.catalog.specs.LookUp.{layer_named, served_grid_named, style_named}
use Rattle.job_forms.specs.declared.fault.JobField.{JobField}
use Rattle.job_forms.specs.declared.fault.JobFault.TheVariants.{Missing, Bad}
use Rattle.job_forms.specs.Outcome.{Outcome}

-- what a value is by a form; none where it hasn't the form
abbrev pub Form : Type 0 → Type 0
Form A = Data → Option A

-- a member that has to be there
abbrev pub required : {A : Type 0} → Form A → JobField → Option Data → Outcome A
required form field None = Err (Missing field)
required form field (Some d) = ok_or (form d) (Bad field)

-- a member that may be absent
abbrev pub if_any : {A : Type 0} → Form A → JobField → Option Data → Outcome (Option A)
if_any form field None = Ok None
if_any form field (Some d) = ok_or (option_map (λ x. Some x) (form d)) (Bad field)

-- the identifier of a layer
abbrev pub layer : Catalogue → Form ℕ
layer c d = option_and_then (layer_named c) (as_str d)

-- the identifier of a grid, one of the layer's
abbrev pub grid : Catalogue → ℕ → Form ℕ
grid c layer d = option_and_then (served_grid_named c layer) (as_str d)

-- how many matrices a grid has
abbrev pub matrices_of : Catalogue → ℕ → ℕ
matrices_of c grid = unwrap_or (option_map (λ g. length g.matrices) (slice_get c.grids grid)) 0

-- a number from the first one on, below the number of matrices
abbrev pub if_within : ℕ → ℕ → ℕ → Option ℕ
if_within first matrices n = if nat_le first n && nat_lt n matrices then Some n else None

-- the number of a matrix
abbrev pub zoom : ℕ → ℕ → Form ℕ
zoom first matrices d = option_and_then (if_within first matrices) (number_of d)

abbrev pub if_pixmap : List ℕ → Option (Unit {0})
if_pixmap text = if bytes_eq text (codes "image/x-portable-pixmap") then Some tt else None

-- the one format of tiles
abbrev pub format : Form (Unit {0})
format d = option_and_then if_pixmap (as_str d)

-- the identifier of a style of the layer
abbrev pub style : Catalogue → ℕ → Form ℕ
style c layer d = option_and_then (style_named c layer) (as_str d)
