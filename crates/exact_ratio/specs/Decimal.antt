-- What a text is as a decimal number, or its first fault. The form is an optional `-`, digits, and optionally a point and
-- digits.
use Rattle.std.specs.Prelude.{ℕ, ◌+◌, ◌<◌, ◌≤◌, ◌==◌, ◌||◌, ◌++◌, List, [], length, drop, slice_index, slice_range, Bool, not, nat_lt, if◌then◌else◌, ℤ, pos, neg_ℤ, Option, Some, None, Result, Ok, Err}
use Rattle.std.specs.List.{prefix_len}
use Rattle.std.specs.Char.{is_ascii_digit}
use Rattle.std.specs.Str.Parse.{digits_value, starts_with_minus}
use Rattle.exact_ratio.specs.Values.{Scaled}
use Rattle.exact_ratio.specs.declared.decimal.DecimalFault.{DecimalFault}
use Rattle.exact_ratio.specs.declared.decimal.DecimalFault.TheVariants.{Empty, NotADigit, TooLong}

-- where the digits end that stand at this place
abbrev pub digits_end : List ℕ → ℕ → ℕ
digits_end text from = from + prefix_len is_ascii_digit (drop from text)

abbrev pub sign_len : List ℕ → ℕ
sign_len text = if starts_with_minus text then 1 else 0

-- WHERE THE FORM IS LEFT: the first such place, the text's length where it ends too early; none where the form is met

-- none where the text ends at this place
abbrev pub unless_at_end : List ℕ → ℕ → Option ℕ
unless_at_end text place = if place == length text then None else Some place

-- the digits before the point (46) end at this place
abbrev pub left_behind : List ℕ → ℕ → Option ℕ
left_behind text point =
    if not (slice_index text point == 46) then unless_at_end text point else
    (if digits_end text (point + 1) == point + 1 then Some (point + 1) else
    unless_at_end text (digits_end text (point + 1)))

-- the sign ends at this place
abbrev pub left_at : List ℕ → ℕ → Option ℕ
left_at text start = if digits_end text start == start then Some start else left_behind text (digits_end text start)

-- THE NUMBER

-- the digits from this place on, which stand before the point, and those after the point that stands at this place
abbrev pub whole_digits : List ℕ → ℕ → List ℕ
whole_digits text start = slice_range text start (digits_end text start)

abbrev pub part_digits : List ℕ → ℕ → List ℕ
part_digits text point = if slice_index text point == 46 then slice_range text (point + 1) (digits_end text (point + 1)) else []

abbrev pub signed : Bool → ℕ → ℤ
signed negative n = if negative then neg_ℤ (pos n) else pos n

-- nothing but digits
pub record AreDigits (text : List ℕ) : Type 0 where
  pub at : (k : ℕ) → k < length text → (48 ≤ slice_index text k) × (slice_index text k ≤ 57)

-- at most 18 digits, of which at most 15 stand after the point
abbrev pub scaled_of : Bool → List ℕ → List ℕ → Result Scaled DecimalFault
scaled_of negative whole part =
    if nat_lt 18 (length whole + length part) || nat_lt 15 (length part) then Err TooLong else
    Ok (record { units = signed negative (digits_value 10 (whole ++ part)); places = length part })

abbrev pub unless_left : Option ℕ → Result Scaled DecimalFault → Result Scaled DecimalFault
unless_left (Some place) number = Err (NotADigit place)
unless_left None number = number

-- the text as a decimal number, or its first fault
unfoldable pub decimal_of : List ℕ → Result Scaled DecimalFault
decimal_of text =
    let start = sign_len text in
    if length text == start then Err Empty else
    unless_left (left_at text start) (scaled_of (starts_with_minus text) (whole_digits text start) (part_digits text (digits_end text start)))
