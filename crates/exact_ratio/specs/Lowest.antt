-- fractions in lowest terms
use Rattle.std.specs.Prelude.{ℕ, zero, suc, ◌≡◌, ◌<ℤ◌, ◌^◌, ◌-◌, ◌%◌, ◌&&◌, ℤ, pos, negsuc, unsigned_abs, int_lt, int_div, if◌then◌else◌, Option, Some, None}
use Rattle.std.specs.Int.{◌∣◌, is_positive}
use Rattle.exact_ratio.specs.Values.{Fraction}

-- no number above 1 divides both
abbrev pub HasNoCommonPart : ℕ → ℕ → Type 0
HasNoCommonPart n d = (g : ℕ) → g ∣ n → g ∣ d → g ≡ 1

-- the denominator is positive, and no number above 1 divides both parts
pub record IsLowest (f : Fraction) : Type 0 where
  pub positive : pos 0 <ℤ f.d
  pub lowest : HasNoCommonPart (unsigned_abs f.n) (unsigned_abs f.d)

-- Euclid's algorithm (Elements, book VII, proposition 2), in at most so many steps
unfoldable pub gcd_within : ℕ → ℕ → ℕ → ℕ
gcd_within steps a zero = a
gcd_within zero a (suc b) = a
gcd_within (suc steps) a (suc b) = gcd_within steps (suc b) (a % suc b)

-- the greatest common divisor: the second number falls at each step, so its steps are enough
unfoldable pub gcd : ℕ → ℕ → ℕ
gcd a b = gcd_within b a b

-- n / d in lowest terms
unfoldable pub lowest : ℤ → ℤ → Fraction
lowest n d =
    let g = pos (gcd (unsigned_abs n) (unsigned_abs d)) in
    record { n = int_div n g; d = int_div d g }

abbrev pub least_i128 : ℤ
least_i128 = negsuc (2 ^ 127 - 1)

-- n / d in lowest terms, where d is positive and n is above the least number of 128 bits
unfoldable pub lowest_of : ℤ → ℤ → Option Fraction
lowest_of n d = if is_positive d && int_lt least_i128 n then Some (lowest n d) else None
