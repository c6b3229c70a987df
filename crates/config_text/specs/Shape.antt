-- Numbers of a matrix and of its grid: sizes, decimals, corners and spans.
use Rattle.std.specs.Prelude.{ℕ, ◌+◌, ◌&&◌, ◌==◌, List, [], ◌∷◌, length, take, drop, Bool, not, Result, Ok, Err, min, nat_lt, nat_le, int_lt, pos, codes, if◌then◌else◌}
use Rattle.std.specs.List.{list_all, list_any, position_or_len}
use Rattle.std.specs.Char.{is_ascii_digit}
use Rattle.std.specs.Str.Parse.{digits_value}
use Rattle.serde_json.specs.Data.{Data}
use Rattle.serde_json.specs.Find.{as_str}
use Rattle.catalog.specs.declared.fault.Field.{Field}
use Rattle.catalog.specs.declared.fault.CatalogueFault.{CatalogueFault}
use Rattle.catalog.specs.declared.fault.CatalogueFault.TheVariants.{Bad, Limit}
use Rattle.exact_ratio.specs.Lowest.{lowest_of}
use Rattle.exact_ratio.specs.Values.{Fraction, Scaled}
use Rattle.matrix_geometry.specs.declared.matrix.Corner.{Corner}
use Rattle.matrix_geometry.specs.declared.matrix.Size.{Size}
use Rattle.json_forms.specs.Decimals.{decimal_text}
use Rattle.json_forms.specs.Forms.{number_of}
use Rattle.json_forms.specs.declared.decimal.DecimalText.{DecimalText}
use Rattle.json_forms.specs.declared.decimal.DecimalText.TheVariants as texts
use Rattle.config_text.specs.Reading.{◌>>=◌}
use Rattle.config_text.specs.Member.{Form, of_kind, items}

-- a list of two values
abbrev pub two_of : List Data → Field → ℕ → Result (Data × Data) CatalogueFault
two_of [] f at = Err (Bad f at)
two_of (a ∷ []) f at = Err (Bad f at)
two_of (a ∷ b ∷ []) f at = Ok (a, b)
two_of (a ∷ b ∷ c ∷ ds) f at = Err (Bad f at)

unfoldable pub two : Form (Data × Data)
two f at d = do
  ds ← items f at d
  two_of ds f at

-- two whole numbers; one that fits no 32 bits is above every limit
abbrev pub wide : ℕ → ℕ
wide n = min n 4294967295

unfoldable pub size : Form Size
size f at d = do
  pair ← two f at d
  w ← of_kind (number_of pair.0) f at
  h ← of_kind (number_of pair.1) f at
  Ok (record { w = wide w; h = wide h })

-- the number of a decimal text that isn't too long
abbrev pub limited : DecimalText → Field → ℕ → Result Scaled CatalogueFault
limited (texts.Number x) f at = Ok x
limited texts.TooLong f at = Err (Limit f at)

-- a decimal number
unfoldable pub decimal : Form Scaled
decimal f at d = do
  text ← of_kind (decimal_text d) f at
  limited text f at

-- a decimal number above 0
unfoldable pub above_zero : Form Scaled
above_zero f at d = do
  x ← decimal f at d
  if int_lt (pos 0) x.units then Ok x else Err (Bad f at)

-- two decimal numbers, x and y: the form of both, then their limits
unfoldable pub corner : Form Corner
corner f at d = do
  pair ← two f at d
  left ← of_kind (decimal_text pair.0) f at
  top ← of_kind (decimal_text pair.1) f at
  x ← limited left f at
  y ← limited top f at
  Ok (record { x = x; y = y })

-- digits, not all of them 0
abbrev pub is_nonzero : List ℕ → Bool
is_nonzero text = list_all is_ascii_digit text && list_any (λ b. not (b == 48)) text

-- the place of the first `/`, or the text's length where none stands
abbrev pub slash_at : List ℕ → ℕ
slash_at text = position_or_len (λ b. b == 47) text

abbrev pub numerator : List ℕ → List ℕ
numerator text = take (slash_at text) text

-- what stands after the `/`, and 1 where none stands
abbrev pub denominator : List ℕ → List ℕ
denominator text = if nat_lt (slash_at text) (length text) then drop (slash_at text + 1) text else codes "1"

-- n / d in lowest terms, of digits
unfoldable pub span_of : List ℕ → List ℕ → Field → ℕ → Result Fraction CatalogueFault
span_of n d f at =
    if not (is_nonzero n && is_nonzero d) then Err (Bad f at) else
    (if not (nat_le (length n) 24 && nat_le (length d) 24) then Err (Limit f at) else
    of_kind (lowest_of (pos (digits_value 10 n)) (pos (digits_value 10 d))) f at)

-- a text n or n/d, whole numbers above 0 of at most 24 digits
unfoldable pub span : Form Fraction
span f at d = do
  text ← of_kind (as_str d) f at
  span_of (numerator text) (denominator text) f at
