-- The number that digits write, one digit more.
use Rattle.std.proofs.Common.{◌≡◌, ℕ, ◌+◌, ◌-◌, ◌*◌, ◌^◌, ◌<◌, ◌≤◌, true, List, length, take, get_or, refl, ◌∙◌, arith, add-one, pow-suc, lit<}
use Rattle.std.proofs.lemmas.List.Folds.{list_all_more}
use Rattle.std.proofs.Math.Nat.{pow-le-pow_right}
use Rattle.std.proofs.lemmas.Int.Digits.{digits_value_more}
use Rattle.std.proofs.lemmas.Str.{digit_value_digit}
use Rattle.std.proofs.lemmas.Bool.Decides.{nat_tests}
use Rattle.std.specs.List.{list_all}
use Rattle.std.specs.Char.{is_ascii_digit}
use Rattle.std.specs.Str.Parse.{digits_value}

pub digit_range : (b : ℕ) → is_ascii_digit b ≡ true → (48 ≤ b) × (b ≤ 57)
digit_range b is = grind (arith, nat_tests)

-- one digit more
pub value_more : (text : List ℕ) (i number : ℕ) → i < length text → is_ascii_digit (get_or text i 0) ≡ true → number ≡ digits_value 10 (take i text)
    → number * 10 + (get_or text i 0 - 48) ≡ digits_value 10 (take (i + 1) text)
value_more text i number l is e =
    let range = digit_range (get_or text i 0) is in
    let value = digit_value_digit (get_or text i 0) range in
    let more = digits_value_more 10 text i l in
    omega (arith, value, more, range.0)

pub digits_more : (text : List ℕ) (i : ℕ) → i < length text → is_ascii_digit (get_or text i 0) ≡ true → list_all is_ascii_digit (take i text) ≡ true → list_all is_ascii_digit (take (i + 1) text) ≡ true
digits_more text i l is all = list_all_more is_ascii_digit text i 0 l ∙ rw (all, is) refl

power_more : (i : ℕ) → 10 ^ (i + 1) ≡ 10 ^ i * 10
power_more i = rw (add-one, pow-suc) (omega arith)

pub bound_more : (i number b : ℕ) → is_ascii_digit b ≡ true → number < 10 ^ i → number * 10 + (b - 48) < 10 ^ (i + 1)
bound_more i number b is l =
    let range = digit_range b is in
    rw power_more (omega (arith, range.0, range.1))

-- ten to a power below 18
pub small_power : (i : ℕ) → i < 18 → 10 ^ i ≤ 10 ^ 17
small_power i l = let ten : 0 < 10 = lit< tt in pow-le-pow_right {n = 10} ten {i = i} {j = 17} (omega arith)
