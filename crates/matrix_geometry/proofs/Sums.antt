-- the sums of products that the code makes fit 128 bits
use Rattle.std.proofs.Common.{◌≡◌, ℕ, ◌+◌, ◌*◌, ◌^◌, ◌<◌, ◌≤◌, arith, ℤ, pos, ◌+ℤ◌, ◌*ℤ◌, unsigned_abs, to_z, of_z}
use Rattle.std.specs.Prelude.{FitsSigned}
use Rattle.std.specs.Int.{w128}
use Rattle.std.proofs.lemmas.Int.{unsigned_abs-mul}
use Rattle.matrix_geometry.proofs.Products.{abs-add-le, abs-mul-le, fits_of_size, seen_of_size}

-- a sum of two numbers that fit, as the code gives them, and the sum itself
pub record IsSum (a b : ℤ) (m : ℕ) : Type 0 where
  pub first : to_z w128 (of_z w128 a) ≡ a
  pub second : to_z w128 (of_z w128 b) ≡ b
  pub fits : FitsSigned w128 (a +ℤ b)
  pub seen : to_z w128 (of_z w128 (a +ℤ b)) ≡ a +ℤ b
  pub small : unsigned_abs (a +ℤ b) ≤ m

pub sum_of : (a b : ℤ) (m : ℕ) → unsigned_abs a + unsigned_abs b ≤ m → m < 2 ^ 127 → IsSum a b m
sum_of a b m h k =
    let below : unsigned_abs (a +ℤ b) ≤ m = omega (arith, abs-add-le a b) in
    let of_a : unsigned_abs a ≤ m = omega arith in
    let of_b : unsigned_abs b ≤ m = omega arith in
    record {
      first = seen_of_size a m of_a k;
      second = seen_of_size b m of_b k;
      fits = fits_of_size (a +ℤ b) m below k;
      seen = seen_of_size (a +ℤ b) m below k;
      small = below;
    }

-- THE NUMERATOR OF AN EDGE

pub pixels_most : (pixels n d : ℤ) → unsigned_abs d ≤ 10 ^ 18 → unsigned_abs pixels * unsigned_abs n ≤ 10 ^ 9 * unsigned_abs d → unsigned_abs (pixels *ℤ n) ≤ 10 ^ 27
pixels_most pixels n d h k = rw (unsigned_abs-mul pixels n) (omega arith)

pub edge_sum : (corner pixels n d : ℤ) → unsigned_abs corner ≤ 10 ^ 17 → unsigned_abs d ≤ 10 ^ 18 → unsigned_abs pixels * unsigned_abs n ≤ 10 ^ 9 * unsigned_abs d → IsSum (corner *ℤ d) ((pixels *ℤ n) *ℤ pos (10 ^ 9)) (2 * 10 ^ 36)
edge_sum corner pixels n d in_corner in_d in_extent =
    let nine : unsigned_abs (pos (10 ^ 9)) ≤ 10 ^ 9 = omega arith in
    let first = abs-mul-le corner d (10 ^ 17) (10 ^ 18) in_corner in_d in
    let second = abs-mul-le (pixels *ℤ n) (pos (10 ^ 9)) (10 ^ 27) (10 ^ 9) (pixels_most pixels n d in_d in_extent) nine in
    sum_of _ _ _ (omega arith) (omega arith)

-- THE FLOOR

pub floor_sum : (distance tile d more : ℤ) → unsigned_abs distance ≤ 2 * 10 ^ 17 → unsigned_abs tile ≤ 10 ^ 23 → unsigned_abs d ≤ 10 ^ 18 → unsigned_abs more ≤ 1000 → IsSum (distance *ℤ d) (more *ℤ tile) (10 ^ 36)
floor_sum distance tile d more in_distance in_tile in_d in_more =
    let first = abs-mul-le distance d (2 * 10 ^ 17) (10 ^ 18) in_distance in_d in
    let second = abs-mul-le more tile 1000 (10 ^ 23) in_more in_tile in
    sum_of _ _ _ (omega arith) (omega arith)
