-- Fractions rounded to so many decimal places, and the texts of such numbers.
use Rattle.std.specs.Prelude.{ℕ, ◌≡◌, ◌+◌, ◌*◌, ◌<◌, ◌≤◌, ◌^◌, List, [], ◌∷◌, ◌++◌, length, Bool, pos, int_lt, if◌then◌else◌, unsigned_abs}
use Rattle.std.specs.Str.Parse.{AllDigits, digits_value}
use Rattle.exact_ratio.specs.Values.{Fraction}

-- n / d is nearest to units / 10^places: the halves go up
pub record IsRounded (n d places units : ℕ) : Type 0 where
  pub below : 2 * (units * d) ≤ 2 * (n * 10 ^ places) + d
  pub above : 2 * (n * 10 ^ places) < 2 * (units * d) + d

-- the text writes units / 10^places: a minus (45) where it is negative, digits, a point (46), and that many digits
pub record Writes (negative : Bool) (units places : ℕ) (text : List ℕ) : Type 0 where
  pub whole : List ℕ
  pub part : List ℕ
  pub is : text ≡ (if negative then 45 ∷ [] else []) ++ whole ++ 46 ∷ part
  pub some : 0 < length whole
  pub whole_digits : AllDigits 10 whole
  pub part_digits : AllDigits 10 part
  pub count : length part ≡ places
  pub value : digits_value 10 (whole ++ part) ≡ units

-- a fraction below 10^18, with a denominator up to 10^36, on either side of 0
pub record IsPrintable (f : Fraction) : Type 0 where
  pub size : unsigned_abs f.n < 10 ^ 18 * unsigned_abs f.d
  pub denominator : unsigned_abs f.d ≤ 10 ^ 36

-- the text writes the fraction, rounded to 12 places, with halves away from 0
pub record IsDecimalOf (f : Fraction) (text : List ℕ) : Type 0 where
  pub units : ℕ
  pub rounded : IsRounded (unsigned_abs f.n) (unsigned_abs f.d) 12 units
  pub writes : Writes (int_lt f.n (pos 0)) units 12 text

-- the bytes, and behind them so many digits of the number
pub record Pads (before : List ℕ) (number count : ℕ) (after : List ℕ) : Type 0 where
  pub part : List ℕ
  pub is : after ≡ before ++ part
  pub digits : AllDigits 10 part
  pub count_is : length part ≡ count
  pub value : digits_value 10 part ≡ number

-- the first so many digits, with units and a rest that are left
pub record PadsSoFar (before : List ℕ) (number count unit rest : ℕ) (after : List ℕ) : Type 0 where
  pub part : List ℕ
  pub is : after ≡ before ++ part
  pub digits : AllDigits 10 part
  pub count_is : length part ≡ count
  pub value : digits_value 10 part * unit + rest ≡ number
