-- Numbers in decimal digits, read one digit after the other.
use Rattle.std.proofs.Common.{◌≡◌, ℕ, ◌+◌, ◌-◌, ◌*◌, ◌<◌, ◌≤◌, ◌^◌, List, length, drop, get_or, sym, ap, ◌∙◌, arith, add-one, drop-cons}
use Rattle.std.specs.Char.{digit_value}
use Rattle.std.specs.Str.Parse.{digits_value_after}
use Rattle.std.proofs.Math.Nat.{pow-suc, pow-le-pow_right}
use Rattle.std.proofs.lemmas.Bool.Decides.{nat_tests}

worth : (b : ℕ) → 48 ≤ b → b ≤ 57 → digit_value b ≡ b - 48
worth b least most = grind (arith, nat_tests)

-- one digit more
pub value_goes_on : (xs : List ℕ) (i n whole : ℕ) → i < length xs → 48 ≤ get_or xs i 0 → get_or xs i 0 ≤ 57 → digits_value_after 10 n (drop i xs) ≡ whole → digits_value_after 10 (10 * n + (get_or xs i 0 - 48)) (drop (i + 1) xs) ≡ whole
value_goes_on xs i n whole inside least most e =
    let d = worth (get_or xs i 0) least most in
    let same : 10 * n + (get_or xs i 0 - 48) ≡ n * 10 + digit_value (get_or xs i 0) = omega (arith, d) in
    rw (same, add-one) (sym (ap (digits_value_after 10 n) (drop-cons xs i 0 inside)) ∙ e)

-- i digits write less than 10 to the i
pub value_small : (i n b : ℕ) → n < 10 ^ i → b ≤ 57 → 10 * n + (b - 48) < 10 ^ (i + 1)
value_small i n b less most =
    let e : 10 ^ (i + 1) ≡ 10 ^ i * 10 = ap (λ (k : ℕ). 10 ^ k) (add-one i) ∙ pow-suc 10 i in
    rw e (omega arith)

pub tens_least : (i j : ℕ) → i ≤ j → 10 ^ i ≤ 10 ^ j
tens_least i j less = let some : 0 < 10 = omega arith in pow-le-pow_right some less
