-- the numbers of a matrix from their parts
use Rattle.std.proofs.Common.{◌≡◌, true, ◌&&◌, Some, None, refl, ℕ, ◌*◌, ◌^◌, ◌≤◌, arith, ℤ, pos, negsuc, ◌*ℤ◌, ◌<ℤ◌, unsigned_abs, to_z, of_z}
use Rattle.std.specs.Prelude.{int_div, if◌then◌else◌}
use Rattle.std.specs.Int.{is_positive, w64, w128}
use Rattle.std.proofs.Math.Nat.{div-le_of_le-mul, mul-le-mul}
use Rattle.std.proofs.lemmas.Int.{ints}
use Rattle.exact_ratio.proofs.Divisors.{abs-div}
use Rattle.exact_ratio.specs.Lowest.{lowest}
use Rattle.exact_ratio.specs.Values.{Fraction, Scaled}
use Rattle.matrix_geometry.specs.Making.{span_of_scale}
use Rattle.matrix_geometry.proofs.Products.{abs-mul-le, seen_64_of_size, seen_of_size}

-- BILLIONTHS

-- how large the billionths of a coordinate are, and what the code sees of them
pub record IsCoordinatePart (units : ℤ) (power : ℕ) : Type 0 where
  pub product : to_z w128 (of_z w128 (units *ℤ pos (10 ^ 9))) ≡ units *ℤ pos (10 ^ 9)
  pub by_power : to_z w128 (of_z w128 (pos power)) ≡ pos power
  pub quotient : to_z w128 (of_z w128 (int_div (units *ℤ pos (10 ^ 9)) (pos power))) ≡ int_div (units *ℤ pos (10 ^ 9)) (pos power)
  pub narrowed : to_z w64 (of_z w64 (int_div (units *ℤ pos (10 ^ 9)) (pos power))) ≡ int_div (units *ℤ pos (10 ^ 9)) (pos power)
  pub small : unsigned_abs (int_div (units *ℤ pos (10 ^ 9)) (pos power)) ≤ 10 ^ 17

pub coordinate_part : (units : ℤ) (power : ℕ) → power ≤ 10 ^ 15 → unsigned_abs units ≤ 10 ^ 8 * power → IsCoordinatePart units power
coordinate_part units power h k =
    let nine : unsigned_abs (pos (10 ^ 9)) ≤ 10 ^ 9 = omega arith in
    let product = abs-mul-le units (pos (10 ^ 9)) (10 ^ 8 * power) (10 ^ 9) k nine in
    let most : unsigned_abs (units *ℤ pos (10 ^ 9)) ≤ power * 10 ^ 17 = omega arith in
    let small : unsigned_abs (int_div (units *ℤ pos (10 ^ 9)) (pos power)) ≤ 10 ^ 17 = rw (abs-div (units *ℤ pos (10 ^ 9)) power) (div-le_of_le-mul power most) in
    let wide : unsigned_abs (units *ℤ pos (10 ^ 9)) ≤ 10 ^ 32 = omega arith in
    record {
      product = seen_of_size (units *ℤ pos (10 ^ 9)) (10 ^ 32) wide (omega arith);
      by_power = seen_of_size (pos power) (10 ^ 15) h (omega arith);
      quotient = seen_of_size _ (10 ^ 17) small (omega arith);
      narrowed = seen_64_of_size _ small;
      small = small;
    }

-- THE SPAN OF A SCALE

-- what the code sees of the products
pub record IsScalePart (scale : ℤ) (scale_power : ℕ) (meters : ℤ) (meters_power : ℕ) : Type 0 where
  pub pixels : to_z w128 (of_z w128 (scale *ℤ pos 28)) ≡ scale *ℤ pos 28
  pub n : to_z w128 (of_z w128 ((scale *ℤ pos 28) *ℤ pos meters_power)) ≡ (scale *ℤ pos 28) *ℤ pos meters_power
  pub metric : to_z w128 (of_z w128 (pos (scale_power * 10 ^ 5))) ≡ pos (scale_power * 10 ^ 5)
  pub d : to_z w128 (of_z w128 (pos (scale_power * 10 ^ 5) *ℤ meters)) ≡ pos (scale_power * 10 ^ 5) *ℤ meters
  pub by_scale : to_z w128 (of_z w128 (pos scale_power)) ≡ pos scale_power
  pub by_meters : to_z w128 (of_z w128 (pos meters_power)) ≡ pos meters_power

pub scale_part : (scale : ℤ) (scale_power : ℕ) (meters : ℤ) (meters_power : ℕ) → unsigned_abs scale ≤ 10 ^ 18 → scale_power ≤ 10 ^ 15 → unsigned_abs meters ≤ 10 ^ 18 → meters_power ≤ 10 ^ 15 → IsScalePart scale scale_power meters meters_power
scale_part scale scale_power meters meters_power h i j k =
    let few : unsigned_abs (pos 28) ≤ 28 = omega arith in
    let pixels = abs-mul-le scale (pos 28) (10 ^ 18) 28 h few in
    let metric : unsigned_abs (pos (scale_power * 10 ^ 5)) ≤ 10 ^ 20 = omega arith in
    record {
      pixels = seen_of_size _ (10 ^ 18 * 28) pixels (omega arith);
      n = seen_of_size _ (10 ^ 18 * 28 * 10 ^ 15) (abs-mul-le (scale *ℤ pos 28) (pos meters_power) (10 ^ 18 * 28) (10 ^ 15) pixels k) (omega arith);
      metric = seen_of_size _ (10 ^ 20) metric (omega arith);
      d = seen_of_size _ (10 ^ 20 * 10 ^ 18) (abs-mul-le (pos (scale_power * 10 ^ 5)) meters (10 ^ 20) (10 ^ 18) metric j) (omega arith);
      by_scale = seen_of_size (pos scale_power) (10 ^ 15) i (omega arith);
      by_meters = seen_of_size (pos meters_power) (10 ^ 15) k (omega arith);
    }

pub positive_pixels : (scale : ℤ) (meters_power : ℕ) → pos 0 <ℤ scale → 1 ≤ meters_power → pos 0 <ℤ ((scale *ℤ pos 28) *ℤ pos meters_power)
positive_pixels (pos scale) meters_power h k =
    let some : 1 ≤ scale = omega (arith, ints) in
    let pixels : 1 ≤ scale * 28 * meters_power = product_least (scale * 28) meters_power (omega arith) k in
    omega (arith, ints) where
      product_least : (a b : ℕ) → 1 ≤ a → 1 ≤ b → 1 ≤ a * b
      product_least a b h k = mul-le-mul h k
positive_pixels (negsuc scale) meters_power h k = absurd (omega (arith, ints))

-- as the code makes it of the parts of two decimal numbers
pub span_is : (scale meters : Scaled) (span : Fraction) (scale_units meters_units : ℤ) (scale_power meters_power : ℕ) → true ≡ is_positive scale.units → true ≡ is_positive meters.units → span ≡ lowest ((scale_units *ℤ pos 28) *ℤ pos meters_power) (pos (scale_power * 10 ^ 5) *ℤ meters_units) → scale_units ≡ scale.units → meters_units ≡ meters.units → scale_power ≡ 10 ^ scale.places → meters_power ≡ 10 ^ meters.places → Some span ≡ (if is_positive scale.units && is_positive meters.units then Some (span_of_scale scale meters) else None)
unfolding span_of_scale
span_is scale meters span scale_units meters_units scale_power meters_power h k e is_scale is_meters by_scale by_meters =
    rw (← h, ← k, e, is_scale, is_meters, by_scale, by_meters) refl
