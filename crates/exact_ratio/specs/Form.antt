-- the texts of decimal numbers, and where a text leaves their form
use Rattle.std.specs.Prelude.{ℕ, ◌≡◌, ◌+◌, ◌<◌, ◌≤◌, ◌⊎◌, List, length, slice_index}
use Rattle.std.specs.Char.{IsAsciiDigit}
use Rattle.exact_ratio.specs.Decimal.{sign_len}
use Rattle.exact_ratio.specs.declared.decimal.DecimalFault.{DecimalFault}
use Rattle.exact_ratio.specs.declared.decimal.DecimalFault.TheVariants.{Empty, NotADigit, TooLong}

-- from one place up to another there are digits alone, and one at least
pub record AreDigitsBetween (text : List ℕ) (from to : ℕ) : Type 0 where
  pub some : from < to
  pub within : to ≤ length text
  pub digits : (k : ℕ) → from ≤ k → k < to → IsAsciiDigit (slice_index text k)

-- an optional `-`, digits up to `point`, and there the end or a point (46) and digits up to the end
pub record IsDecimalText (text : List ℕ) : Type 0 where
  pub point : ℕ
  pub whole : AreDigitsBetween text (sign_len text) point
  pub part : (point ≡ length text) ⊎ ((slice_index text point ≡ 46) × AreDigitsBetween text (point + 1) (length text))

-- a text of the form begins with the first so many bytes of this one
pub record GoesOn (text : List ℕ) (count : ℕ) : Type 0 where
  pub other : List ℕ
  pub longer : count ≤ length other
  pub same : (k : ℕ) → k < count → slice_index other k ≡ slice_index text k
  pub form : IsDecimalText other

-- the first place at which the form is left: what stands before it goes on, and with the byte that stands there it does not
pub record IsLeftAt (text : List ℕ) (place : ℕ) : Type 0 where
  pub within : place ≤ length text
  pub before : GoesOn text place
  pub there : place < length text → ¬ GoesOn text (place + 1)
  pub not_met : ¬ IsDecimalText text

-- what a fault says of a text
abbrev pub IsFaultOf : List ℕ → DecimalFault → Type 0
IsFaultOf text Empty = length text ≡ sign_len text
IsFaultOf text (NotADigit place) = IsLeftAt text place
IsFaultOf text TooLong = IsDecimalText text
