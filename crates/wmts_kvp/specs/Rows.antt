-- What a row of the table of parameters tests, and how it refuses.
use Rattle.std.specs.Prelude.{ℕ, Bool, ◌&&◌, ◌==◌, nat_lt, if◌then◌else◌, List, [], ◌∷◌, length, Option, Some, None, unwrap_or, option_map, Result, Ok, Err, codes}
use Rattle.std.specs.List.{list_all}
use Rattle.std.specs.Char.{is_ascii_digit}
use Rattle.std.specs.Str.{bytes_eq}
use Rattle.std.specs.Str.Parse.{digits_value}
use Rattle.catalog.specs.declared.catalogue.Catalogue.{Catalogue}
use Rattle.catalog.specs.declared.layer.Dimension.{Dimension}
use Rattle.catalog.specs.LookUp.{style_named, matrix_in}
use Rattle.dimension_key.specs.declared.draft.DimFault.{DimFault}
use Rattle.dimension_key.specs.declared.draft.DimFault.TheVariants.{Missing, Invalid}
use Rattle.dimension_key.specs.declared.draft.ThemeDraft.{ThemeDraft}
use Rattle.dimension_key.specs.Draft.{drafted}
use Rattle.exception_report.specs.declared.code.Code.{Code}
use Rattle.exception_report.specs.declared.code.Code.TheVariants.{OperationNotSupported, MissingParameterValue, InvalidParameterValue}
use Rattle.exception_report.specs.declared.code.Locator.TheVariants.{At}
use Rattle.wmts_kvp.specs.declared.query.Query.{Query}
use Rattle.wmts_kvp.specs.declared.query.Query.TheVariants.{Capabilities, Refused}
use Rattle.wmts_kvp.specs.Pairs.{value_of}

-- what a row gives to the rows after it, or else what ends the reading
abbrev pub Row : Type 0 → Type 0
Row A = Result A Query

infixl 10 ◌>>=◌
abbrev pub ◌>>=◌ : {A B : Type 0} → Row A → (A → Row B) → Row B
(Ok x) >>= rows = rows x
(Err end) >>= rows = Err end

abbrev pub some_or : {A : Type 0} → Code → List ℕ → Option A → Row A
some_or code name None = Err (Refused code (At name))
some_or code name (Some x) = Ok x

-- a parameter: refused where no pair has its name, and where its value is none of those that the test admits
abbrev pub parameter : {A : Type 0} → List (List ℕ × List ℕ) → List ℕ → Code → Code → (List ℕ → Option A) → Row A
parameter pairs name missing invalid test =
    some_or missing name (value_of pairs name) >>= λ value. some_or invalid name (test value)

-- the value is this text, byte for byte
abbrev pub equal : List ℕ → List ℕ → Option (Unit {0})
equal text value = if bytes_eq value text then Some tt else None

-- GetTile is read on, GetCapabilities ends the reading, and another operation is named in the refusal
abbrev pub operation : List ℕ → Row (Unit {0})
operation value =
    if bytes_eq value (codes "GetCapabilities") then Err Capabilities
    else if bytes_eq value (codes "GetTile") then Ok tt
    else Err (Refused OperationNotSupported (At value))

abbrev pub requested : List (List ℕ × List ℕ) → List ℕ → Code → Row (Unit {0})
requested pairs name missing = some_or missing name (value_of pairs name) >>= operation

-- the style of this name, the first one for the empty name
abbrev pub style_or_first : Catalogue → ℕ → List ℕ → Option ℕ
style_or_first c layer name = if length name == 0 then Some 0 else style_named c layer name

-- one or more ASCII digits
abbrev pub is_number : List ℕ → Bool
is_number text = nat_lt 0 (length text) && list_all is_ascii_digit text

-- the number that they spell
abbrev pub number : List ℕ → Option ℕ
number text = if is_number text then Some (digits_value 10 text) else None

-- which refusal a fault of a dimension of this name is
abbrev pub or_refusal : List ℕ → Result ThemeDraft DimFault → Row ThemeDraft
or_refusal name (Ok draft) = Ok draft
or_refusal name (Err Missing) = Err (Refused MissingParameterValue (At name))
or_refusal name (Err Invalid) = Err (Refused InvalidParameterValue (At name))

-- each dimension in turn: the number of its value joins the theme
abbrev pub dimensions : Catalogue → List (List ℕ × List ℕ) → List Dimension → ThemeDraft → Row ThemeDraft
dimensions c pairs [] draft = Ok draft
dimensions c pairs (d ∷ ds) draft =
    or_refusal d.id (drafted c (value_of pairs d.id) draft) >>= dimensions c pairs ds

-- how many rows and columns a matrix of a grid has
abbrev pub rows_of : Catalogue → ℕ → ℕ → ℕ
rows_of c grid z = unwrap_or (option_map (λ m. m.rows) (matrix_in c grid z)) 0

abbrev pub cols_of : Catalogue → ℕ → ℕ → ℕ
cols_of c grid z = unwrap_or (option_map (λ m. m.cols) (matrix_in c grid z)) 0

-- a number below a limit
abbrev pub below : ℕ → ℕ → Option ℕ
below limit n = if nat_lt n limit then Some n else None
