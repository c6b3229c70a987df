-- Euclid's algorithm gives the greatest common divisor, and by it a fraction comes to lowest terms.
use Rattle.std.proofs.Common.{◌≡◌, ℕ, zero, suc, ◌*◌, ◌/◌, ◌%◌, ◌^◌, ◌<◌, ◌≤◌, refl, sym, ap, subst, ◌∙◌, arith, ℤ, pos, negsuc, neg_ℤ, ◌*ℤ◌, ◌<ℤ◌, unsigned_abs, to_z, of_z}
use Rattle.std.specs.Prelude.{FitsSigned, int_div}
use Rattle.std.specs.Int.{IsGcd, ◌∣◌, w128}
use Rattle.std.proofs.Math.Nat.{mul-div_cancel', mul-dvd-mul_left, dvd_of_mul-dvd-mul_left, eq-one_of_dvd-one, mul-one}
use Rattle.std.proofs.lemmas.Int.{ints, to_z_pos, to_z-of_z, quot_is, quot_fits}
use Rattle.std.proofs.lemmas.Nat.Gcd.{IsGcd-from_zero, IsGcd-from_mod, same_from_IsGcd, le_of_dvd}
use Rattle.exact_ratio.specs.Lowest.{HasNoCommonPart, IsLowest, gcd, gcd_within, lowest}

gcd_within_is : (steps a b : ℕ) → b ≤ steps → IsGcd a b (gcd_within steps a b)
unfolding gcd_within
gcd_within_is steps a zero h = IsGcd-from_zero a zero refl
gcd_within_is zero a (suc b) h = absurd (omega arith)
gcd_within_is (suc steps) a (suc b) h =
    let below : a % suc b ≤ steps = omega arith in
    IsGcd-from_mod a (suc b) _ (gcd_within_is steps (suc b) (a % suc b) below)

pub gcd_is : (a b : ℕ) → IsGcd a b (gcd a b)
unfolding gcd
gcd_is a b = gcd_within_is b a b (omega arith)

pub gcd_step : (a b : ℕ) → gcd b (a % b) ≡ gcd a b
gcd_step a b = same_from_IsGcd a b _ _ (IsGcd-from_mod a b _ (gcd_is b (a % b))) (gcd_is a b)

pub gcd_end : (a b : ℕ) → b ≡ 0 → gcd a b ≡ a
gcd_end a b h = same_from_IsGcd a b _ _ (gcd_is a b) (IsGcd-from_zero a b h)

-- THE COMMON DIVISOR OF A FRACTION

pub divisor_least : (a b : ℕ) → 0 < b → 0 < gcd a b
divisor_least a b h = let whole = mul-div_cancel' (gcd a b) (gcd_is a b).1 in elim_zero (gcd a b) (b / gcd a b) b h whole where
  elim_zero : (g q b : ℕ) → 0 < b → g * q ≡ b → 0 < g
  elim_zero zero q b h e = absurd (omega arith)
  elim_zero (suc g) q b h e = omega arith

pub divisor_most : (a b : ℕ) → 0 < b → gcd a b ≤ b
divisor_most a b h = le_of_dvd h (gcd_is a b).1

no_common_part : (a b g : ℕ) → 0 < g → IsGcd a b g → HasNoCommonPart (a / g) (b / g)
no_common_part a b g h is = λ k in_a in_b.
    let of_a : g * k ∣ a = subst (λ (x : ℕ). g * k ∣ x) (mul-div_cancel' g is.0) (mul-dvd-mul_left k g in_a) in
    let of_b : g * k ∣ b = subst (λ (x : ℕ). g * k ∣ x) (mul-div_cancel' g is.1) (mul-dvd-mul_left k g in_b) in
    let of_g : g * k ∣ g * 1 = subst (λ (x : ℕ). g * k ∣ x) (sym (mul-one g)) (is.2 (g * k) of_a of_b) in
    eq-one_of_dvd-one (dvd_of_mul-dvd-mul_left k h of_g)

-- LOWEST TERMS

pub abs-neg : (n : ℕ) → unsigned_abs (neg_ℤ (pos n)) ≡ n
abs-neg zero = refl
abs-neg (suc n) = refl

pub abs-div : (n : ℤ) (g : ℕ) → unsigned_abs (int_div n (pos g)) ≡ unsigned_abs n / g
abs-div (pos n) g = refl
abs-div (negsuc n) g = abs-neg (suc n / g)

div_positive : (d : ℤ) (g : ℕ) → pos 0 <ℤ d → 0 < g → g ∣ unsigned_abs d → pos 0 <ℤ int_div d (pos g)
div_positive (pos d) g h some is =
    let whole = mul-div_cancel' g is in
    let least : 0 < d = omega (arith, ints) in
    positive_of (d / g) g d least whole where
      positive_of : (q g d : ℕ) → 0 < d → g * q ≡ d → pos 0 <ℤ pos q
      positive_of zero g d h e = absurd (omega arith)
      positive_of (suc q) g d h e = omega (arith, ints)
div_positive (negsuc d) g h some is = absurd (omega (arith, ints))

pub lowest_is : (n d : ℤ) → pos 0 <ℤ d → IsLowest (lowest n d)
unfolding lowest
lowest_is n d h =
    let least : 0 < unsigned_abs d = grind (arith, ints) in
    let some = divisor_least (unsigned_abs n) (unsigned_abs d) least in
    let is = gcd_is (unsigned_abs n) (unsigned_abs d) in
    record {
      positive = div_positive d _ h some is.1;
      lowest = rw (abs-div n (gcd (unsigned_abs n) (unsigned_abs d)), abs-div d (gcd (unsigned_abs n) (unsigned_abs d))) (no_common_part _ _ _ some is);
    }

pub lowest_positive : (n d : ℤ) → pos 0 <ℤ n → pos 0 <ℤ d → pos 0 <ℤ (lowest n d).n
unfolding lowest
lowest_positive n d h k =
    let least : 0 < unsigned_abs d = grind (arith, ints) in
    div_positive n _ h (divisor_least (unsigned_abs n) (unsigned_abs d) least) (gcd_is (unsigned_abs n) (unsigned_abs d)).0

crossed : (a b p q g : ℕ) → g * p ≡ a → g * q ≡ b → p * b ≡ a * q
crossed a b p q g e f = rw (← e, ← f) (grind arith)

pub lowest_same : (n d : ℤ) → pos 0 <ℤ d → (lowest n d).n *ℤ d ≡ n *ℤ (lowest n d).d
unfolding lowest
lowest_same (pos n) (pos d) h =
    let is = gcd_is n d in
    ap pos (crossed n d _ _ (gcd n d) (mul-div_cancel' (gcd n d) is.0) (mul-div_cancel' (gcd n d) is.1))
lowest_same (negsuc n) (pos d) h =
    let is = gcd_is (suc n) d in
    let e = crossed (suc n) d _ _ (gcd (suc n) d) (mul-div_cancel' (gcd (suc n) d) is.0) (mul-div_cancel' (gcd (suc n) d) is.1) in
    negated (suc n / gcd (suc n) d) d n (d / gcd (suc n) d) e where
      negated : (p d n q : ℕ) → p * d ≡ suc n * q → neg_ℤ (pos p) *ℤ pos d ≡ negsuc n *ℤ pos q
      negated p d n q e = grind (arith, ints)
lowest_same (pos n) (negsuc d) h = absurd (omega (arith, ints))
lowest_same (negsuc n) (negsuc d) h = absurd (omega (arith, ints))

-- a quotient as the code gives it
pub quotient_is : (n : ℤ) (g : ℕ) → FitsSigned w128 n → 0 < g → FitsSigned w128 (pos g) → to_z w128 (of_z w128 (int_div (to_z w128 (of_z w128 n)) (to_z w128 g))) ≡ int_div n (pos g)
quotient_is n g fits some small =
    let least : pos 0 <ℤ pos g = omega (arith, ints) in
    quot_is w128 n (pos g) fits small (quot_fits w128 n (pos g) fits least)

-- what the code makes of the two parts
pub record IsDivided (n d : ℤ) (g : ℕ) : Type 0 where
  pub some : 0 < g
  pub small : FitsSigned w128 (pos g)
  pub n_fits : FitsSigned w128 (int_div (to_z w128 (of_z w128 n)) (to_z w128 g))
  pub d_fits : FitsSigned w128 (int_div (to_z w128 (of_z w128 d)) (to_z w128 g))
  pub n_is : to_z w128 (of_z w128 (int_div (to_z w128 (of_z w128 n)) (to_z w128 g))) ≡ (lowest n d).n
  pub d_is : to_z w128 (of_z w128 (int_div (to_z w128 (of_z w128 d)) (to_z w128 g))) ≡ (lowest n d).d

small_divisor : (d : ℤ) (g : ℕ) → FitsSigned w128 d → pos 0 <ℤ d → g ≤ unsigned_abs d → g < 2 ^ 127
small_divisor (pos d) g fits h most = let small = fits.sfits in omega arith
small_divisor (negsuc d) g fits h most = absurd (omega (arith, ints))

pub divided : (n d : ℤ) (g : ℕ) → FitsSigned w128 n → FitsSigned w128 d → pos 0 <ℤ d → g ≡ gcd (unsigned_abs n) (unsigned_abs d) → IsDivided n d g
unfolding lowest
divided n d g n_fits d_fits h is =
    let least : 0 < unsigned_abs d = grind (arith, ints) in
    let some : 0 < g = rw is (divisor_least (unsigned_abs n) (unsigned_abs d) least) in
    let most : g ≤ unsigned_abs d = rw is (divisor_most (unsigned_abs n) (unsigned_abs d) least) in
    let below = small_divisor d g d_fits h most in
    let fits : FitsSigned w128 (pos g) = record { sfits = below } in
    let positive : pos 0 <ℤ pos g = omega (arith, ints) in
    let seen : to_z w128 g ≡ pos g = to_z_pos w128 g below in
    record {
      some = some;
      small = fits;
      n_fits = rw (to_z-of_z w128 n n_fits, seen) (quot_fits w128 n (pos g) n_fits positive);
      d_fits = rw (to_z-of_z w128 d d_fits, seen) (quot_fits w128 d (pos g) d_fits positive);
      n_is = quotient_is n g n_fits some fits ∙ ap (λ (k : ℕ). int_div n (pos k)) is;
      d_is = quotient_is d g d_fits some fits ∙ ap (λ (k : ℕ). int_div d (pos k)) is;
    }
