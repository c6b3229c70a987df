-- products of signed numbers, and how large they are
use Rattle.std.proofs.Common.{◌≡◌, ℕ, zero, suc, ◌+◌, ◌-◌, ◌*◌, ◌/◌, ◌^◌, ◌<◌, ◌≤◌, sym, ap, ◌∙◌, arith, ℤ, pos, negsuc, neg_ℤ, ◌+ℤ◌, ◌*ℤ◌, unsigned_abs, to_z, of_z}
use Rattle.std.specs.Prelude.{FitsSigned}
use Rattle.std.specs.Int.{int_div_euclid, w64, w128}
use Rattle.std.proofs.Math.Nat.{mul_assoc, mul-le-mul, mul-div-mul_right, div-div-eq-div-mul}
use Rattle.std.proofs.lemmas.Int.{ints, fits_signed_from_abs, to_z-of_z, unsigned_abs-mul}
use Rattle.std.proofs.lemmas.Nat.{div-mul-add}

-- LAWS

pub one-mul : (a : ℤ) → pos 1 *ℤ a ≡ a
one-mul a = grind (arith, ints)

pub neg-mul : (a b : ℤ) → neg_ℤ a *ℤ b ≡ neg_ℤ (a *ℤ b)
neg-mul a b = grind (arith, ints)

pub mul-mul_pos : (x : ℤ) (b c : ℕ) → (x *ℤ pos b) *ℤ pos c ≡ x *ℤ pos (b * c)
mul-mul_pos (pos a) b c = ap pos (mul_assoc a b c)
mul-mul_pos (negsuc a) b c =
    neg-mul (pos (suc a * b)) (pos c) ∙ ap (λ (n : ℕ). neg_ℤ (pos n)) (mul_assoc (suc a) b c)

-- SIZES

pub abs-add-le : (a b : ℤ) → unsigned_abs (a +ℤ b) ≤ unsigned_abs a + unsigned_abs b
abs-add-le a b = grind (arith, ints)

pub abs-mul-le : (a b : ℤ) (m n : ℕ) → unsigned_abs a ≤ m → unsigned_abs b ≤ n → unsigned_abs (a *ℤ b) ≤ m * n
abs-mul-le a b m n h k = rw (unsigned_abs-mul a b) (mul-le-mul h k)

pub fits_of_size : (z : ℤ) (m : ℕ) → unsigned_abs z ≤ m → m < 2 ^ 127 → FitsSigned w128 z
fits_of_size z m h k = let below : unsigned_abs z < 2 ^ 127 = omega arith in fits_signed_from_abs w128 z below

pub seen_of_size : (z : ℤ) (m : ℕ) → unsigned_abs z ≤ m → m < 2 ^ 127 → to_z w128 (of_z w128 z) ≡ z
seen_of_size z m h k = to_z-of_z w128 z (fits_of_size z m h k)

pub seen_64_of_size : (z : ℤ) → unsigned_abs z ≤ 10 ^ 17 → to_z w64 (of_z w64 z) ≡ z
seen_64_of_size z h = let below : unsigned_abs z < 2 ^ 63 = omega arith in to_z-of_z w64 z (fits_signed_from_abs w64 z below)

-- FLOORS

lowered : (a k : ℕ) → (suc a * suc k - 1) / suc k ≡ a
lowered a k =
    let parts : suc a * suc k - 1 ≡ a * suc k + k = grind arith in
    let below : k < suc k = omega arith in
    rw parts (div-mul-add a (suc k) k below)

negative : (a k : ℕ) → negsuc a *ℤ pos (suc k) ≡ negsuc (suc a * suc k - 1)
negative a k =
    let some : 0 < suc a * suc k = grind arith in
    below_zero (suc a * suc k) some where
      below_zero : (n : ℕ) → 0 < n → neg_ℤ (pos n) ≡ negsuc (n - 1)
      below_zero zero h = absurd (omega arith)
      below_zero (suc n) h = ap negsuc (omega arith)

-- a fraction has one floor, whatever its parts are multiplied by
pub floor-scaled : (n : ℤ) (d k : ℕ) → int_div_euclid (n *ℤ pos (suc k)) (pos (d * suc k)) ≡ int_div_euclid n (pos d)
floor-scaled (pos a) d k = let some : 0 < suc k = omega arith in ap pos (mul-div-mul_right a d some)
floor-scaled (negsuc a) d k =
    rw (negative a k)
    (ap negsuc (ap (λ (m : ℕ). (suc a * suc k - 1) / m) (grind arith) ∙ sym (div-div-eq-div-mul (suc a * suc k - 1) (suc k) d) ∙ ap (λ (m : ℕ). m / d) (lowered a k)))
