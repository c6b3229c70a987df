-- a matrix whose parts pass the tests is made, and is within the limits
use Rattle.std.proofs.Common.{◌≡◌, ℕ, ◌*◌, ◌^◌, ◌<◌, ◌≤◌, Bool, true, false, ◌&&◌, refl, sym, arith, ℤ, pos, ◌<ℤ◌, unsigned_abs, Option, Some, Ok, nat_lt, nat_le}
use Rattle.std.proofs.Math.Nat.{mul-le-mul}
use Rattle.std.proofs.lemmas.Bool.Decides.{nat_tests}
use Rattle.exact_ratio.specs.Values.{Fraction}
use Rattle.matrix_geometry.specs.declared.matrix.Corner.{Corner}
use Rattle.matrix_geometry.specs.declared.matrix.Matrix.{Matrix}
use Rattle.matrix_geometry.specs.declared.matrix.Size.{Size}
use Rattle.matrix_geometry.specs.Limits.{IsWithinLimits}
use Rattle.matrix_geometry.specs.Making.{billionths_of, is_corner, is_count, is_extent, is_fine_enough, is_matrix_size, is_side, is_tile_size, is_within_extent, made_of}

-- the parts pass the tests
pub record PassesTests (span : Fraction) (corner : Corner) (tile size : Size) : Type 0 where
  pub in_corner : true ≡ is_corner corner
  pub fine : true ≡ is_fine_enough span
  pub sides : true ≡ is_tile_size tile
  pub counts : true ≡ is_matrix_size size
  pub extent : true ≡ is_within_extent span tile size

abbrev pub the_matrix : Fraction → ℤ → ℤ → Size → Size → Matrix
the_matrix span left top tile size =
    record { span = span; left = left; top = top; tile_w = tile.w; tile_h = tile.h; cols = size.w; rows = size.h }

pub made_is : (given : Option Fraction) (span : Fraction) (corner : Corner) (tile size : Size) (left top : ℤ) → given ≡ Some span → PassesTests span corner tile size → left ≡ billionths_of corner.x → top ≡ billionths_of corner.y → Ok (the_matrix span left top tile size) ≡ made_of given corner tile size
made_is given span corner tile size left top is passes is_left is_top =
    rw (is, ← passes.in_corner, ← passes.fine, ← passes.sides, ← passes.counts, ← passes.extent, is_left, is_top) refl

-- LIMITS

both : (s t : Bool) → true ≡ (s && t) → (s ≡ true) × (t ≡ true)
both true t h = (refl, sym h)
both false t h = absurd (cc)

pub le_is : (x y : ℕ) → nat_le x y ≡ true → x ≤ y
le_is x y h = grind (arith, nat_tests)

lt_is : (x y : ℕ) → nat_lt x y ≡ true → x < y
lt_is x y h = grind (arith, nat_tests)

pub side_is : (n : ℕ) → is_side n ≡ true → (1 ≤ n) × (n ≤ 512)
side_is n h = let t = both (nat_lt 0 n) (nat_le n 512) (sym h) in (lt_is 0 n t.0, le_is n 512 t.1)

pub count_is : (n : ℕ) → is_count n ≡ true → (1 ≤ n) × (n ≤ 2 ^ 31)
count_is n h = let t = both (nat_lt 0 n) (nat_le n (2 ^ 31)) (sym h) in (lt_is 0 n t.0, le_is n (2 ^ 31) t.1)

pub fine_is : (f : Fraction) → is_fine_enough f ≡ true → (unsigned_abs f.n ≤ 10 ^ 20) × (unsigned_abs f.d ≤ 10 ^ 18)
fine_is f h =
    let t = both (nat_le (unsigned_abs f.n) (10 ^ 20)) (nat_le (unsigned_abs f.d) (10 ^ 18)) (sym h) in
    (le_is (unsigned_abs f.n) (10 ^ 20) t.0, le_is (unsigned_abs f.d) (10 ^ 18) t.1)

pub within_limits : (span : Fraction) (corner : Corner) (tile size : Size) (left top : ℤ) → pos 0 <ℤ span.n → pos 0 <ℤ span.d → PassesTests span corner tile size → unsigned_abs left ≤ 10 ^ 17 → unsigned_abs top ≤ 10 ^ 17 → IsWithinLimits (the_matrix span left top tile size)
within_limits span corner tile size left top n_positive d_positive passes in_left in_top =
    let fine = fine_is span (sym passes.fine) in
    let sides = both (is_side tile.w) (is_side tile.h) passes.sides in
    let counts = both (is_count size.w) (is_count size.h) passes.counts in
    let extents = both (is_extent span (size.w * tile.w)) (is_extent span (size.h * tile.h)) passes.extent in
    record {
      span_positive = n_positive;
      span_d_positive = d_positive;
      span_n = fine.0;
      span_d = fine.1;
      left = in_left;
      top = in_top;
      tile_w = (side_is tile.w sides.0).0;
      tile_w_most = (side_is tile.w sides.0).1;
      tile_h = (side_is tile.h sides.1).0;
      tile_h_most = (side_is tile.h sides.1).1;
      cols = (count_is size.w counts.0).0;
      cols_most = (count_is size.w counts.0).1;
      rows = (count_is size.h counts.1).0;
      rows_most = (count_is size.h counts.1).1;
      wide = le_is (size.w * tile.w * unsigned_abs span.n) (10 ^ 9 * unsigned_abs span.d) extents.0;
      high = le_is (size.h * tile.h * unsigned_abs span.n) (10 ^ 9 * unsigned_abs span.d) extents.1;
    }

pub extent_small : (tiles side n : ℕ) → tiles ≤ 2 ^ 31 → side ≤ 512 → n ≤ 10 ^ 20 → tiles * side * n ≤ 2 ^ 40 * 10 ^ 20
extent_small tiles side n h k l = mul-le-mul (mul-le-mul h k) l
