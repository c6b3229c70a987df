-- the number that digits write
use Rattle.std.proofs.Common.{◌≡◌, Bool, false, nat_lt, ℤ, Ok, ℕ, ◌+◌, ◌-◌, ◌*◌, ◌<◌, ◌≤◌, ◌^◌, List, [], ◌∷◌, ◌++◌, length, drop, get_or, refl, sym, ap, ◌∙◌, arith, add-one, drop-cons}
use Rattle.std.specs.Char.{digit_value}
use Rattle.std.specs.Str.Parse.{digits_value_after}
use Rattle.std.proofs.Math.Nat.{pow-suc, pow-le-pow_right}
use Rattle.std.proofs.lemmas.Bool.Decides.{nat_tests}
use Rattle.exact_ratio.specs.Decimal.{scaled_of, signed}

digit_worth : (b : ℕ) → 48 ≤ b → b ≤ 57 → digit_value b ≡ b - 48
digit_worth b l g = grind (arith, nat_tests)

pub number_goes_on : (xs : List ℕ) (i n whole : ℕ) → i < length xs → 48 ≤ get_or xs i 0 → get_or xs i 0 ≤ 57 → digits_value_after 10 n (drop i xs) ≡ whole → digits_value_after 10 (10 * n + (get_or xs i 0 - 48)) (drop (i + 1) xs) ≡ whole
number_goes_on xs i n whole h l g w =
    let worth = digit_worth (get_or xs i 0) l g in
    let same : 10 * n + (get_or xs i 0 - 48) ≡ n * 10 + digit_value (get_or xs i 0) = omega (arith, worth) in
    rw (same, add-one) (sym (ap (digits_value_after 10 n) (drop-cons xs i 0 h)) ∙ w)

pub number_small : (before i n b : ℕ) → n < 10 ^ (before + i) → b ≤ 57 → 10 * n + (b - 48) < 10 ^ (before + (i + 1))
number_small before i n b h d =
    let e : 10 ^ (before + (i + 1)) ≡ 10 ^ (before + i) * 10 = ap (λ (k : ℕ). 10 ^ k) (omega arith) ∙ pow-suc 10 (before + i) in
    rw e (omega arith)

pub tens_least : (i j : ℕ) → i ≤ j → 10 ^ i ≤ 10 ^ j
tens_least i j h = let some : 0 < 10 = omega arith in pow-le-pow_right some h

pub digits_value_after-append : (n : ℕ) (xs ys : List ℕ) → digits_value_after 10 n (xs ++ ys) ≡ digits_value_after 10 (digits_value_after 10 n xs) ys
digits_value_after-append n [] ys = refl
digits_value_after-append n (x ∷ xs) ys = digits_value_after-append (n * 10 + digit_value x) xs ys

-- few digits are a number, read one part after the other
pub scaled_of_few : (negative : Bool) (whole part : List ℕ) (n m : ℕ) (units : ℤ) → length part ≤ 15 → length whole + length part ≤ 18 → n ≡ digits_value_after 10 0 whole → m ≡ digits_value_after 10 n part → units ≡ signed negative m → Ok (record { units = units; places = length part }) ≡ scaled_of negative whole part
scaled_of_few negative whole part n m units few all is_n is_m is_units =
    let first : nat_lt 18 (length whole + length part) ≡ false = grind (arith, nat_tests) in
    let second : nat_lt 15 (length part) ≡ false = grind (arith, nat_tests) in
    rw (first, second, digits_value_after-append 0 whole part, ← is_n, ← is_m, ← is_units) refl
