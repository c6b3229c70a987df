-- powers of ten, and a step of a long division
use Rattle.std.proofs.Common.{◌≡◌, ℕ, ◌+◌, ◌*◌, ◌/◌, ◌%◌, ◌<◌, ◌≤◌, ◌^◌, ap, ◌∙◌, arith, add-one}
use Rattle.std.proofs.Math.Nat.{pow-suc, pow-le-pow_right, div-add-mod, div-lt_iff_lt-mul}

pub tens_least : (i j : ℕ) → i ≤ j → 10 ^ i ≤ 10 ^ j
tens_least i j h = let some : 0 < 10 = omega arith in pow-le-pow_right some h

pub ten_more : (i : ℕ) → 10 ^ (i + 1) ≡ 10 * 10 ^ i
ten_more i = let e : 10 ^ (i + 1) ≡ 10 ^ i * 10 = ap (λ (k : ℕ). 10 ^ k) (add-one i) ∙ pow-suc 10 i in omega (arith, e)

pub digit_small : (rest d : ℕ) → 0 < d → rest < d → 10 * rest / d < 10
digit_small rest d some h = (div-lt_iff_lt-mul some).1 (omega arith)

pub longer : (n p d units rest : ℕ) → n * p ≡ units * d + rest → n * (10 * p) ≡ (10 * units + 10 * rest / d) * d + 10 * rest % d
longer n p d units rest h = grind (arith, div-add-mod (10 * rest) d)
