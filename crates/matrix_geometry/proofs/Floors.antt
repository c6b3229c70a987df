-- The four floors of a box, each over one common denominator: the parts of the exact fractions are those of the code,
-- each multiplied by 10^15.
use Rattle.std.proofs.Common.{◌≡◌, ℕ, ◌-◌, ◌*◌, ◌^◌, sym, ap, ◌∙◌, arith, ℤ, pos, negsuc, ◌+ℤ◌, ◌-ℤ◌, ◌*ℤ◌, ◌<ℤ◌, ◌≤◌, unsigned_abs, to_z, of_z}
use Rattle.std.specs.Prelude.{FitsSigned}
use Rattle.std.specs.Int.{w64, w128}
use Rattle.std.proofs.lemmas.Int.{ints, to_z-of_z}
use Rattle.exact_ratio.specs.Values.{Fraction}
use Rattle.exact_ratio.specs.Fractions.{whole, ◌+ℚ◌, ◌-ℚ◌, ◌*ℚ◌, ◌/ℚ◌, floor_of}
use Rattle.matrix_geometry.specs.declared.boxes.Box9.{Box9}
use Rattle.matrix_geometry.specs.declared.matrix.Matrix.{Matrix}
use Rattle.matrix_geometry.specs.Away.{tiles_away}
use Rattle.matrix_geometry.specs.Geometry.{billionths, cut_to, eps, greatest_col, greatest_row, least_col, least_row}
use Rattle.matrix_geometry.specs.Limits.{IsWithinLimits}
use Rattle.matrix_geometry.proofs.Products.{floor-scaled, mul-mul_pos, seen_64_of_size}

-- the distance of two places, by 10^15 in all
distance_scaled : (x y : ℤ) (d : ℕ) → (((x *ℤ pos (10 ^ 9)) -ℤ (y *ℤ pos (10 ^ 9))) *ℤ pos (1 * d)) *ℤ pos (10 ^ 6) ≡ ((x -ℤ y) *ℤ pos d) *ℤ pos (10 ^ 15)
distance_scaled x y d =
    let one : (x *ℤ pos (10 ^ 9)) -ℤ (y *ℤ pos (10 ^ 9)) ≡ (x -ℤ y) *ℤ pos (10 ^ 9) = omega (arith, ints) in
    rw one
    (mul-mul_pos ((x -ℤ y) *ℤ pos (10 ^ 9)) (1 * d) (10 ^ 6) ∙ mul-mul_pos (x -ℤ y) (10 ^ 9) (1 * d * 10 ^ 6) ∙ ap (λ (k : ℕ). (x -ℤ y) *ℤ pos k) (omega arith) ∙ sym (mul-mul_pos (x -ℤ y) d (10 ^ 15)))

more_scaled : (a : ℤ) (t : ℕ) → (a *ℤ pos (10 ^ 15)) +ℤ pos (1 * (10 ^ 18 * t)) ≡ (a +ℤ pos (1000 * t)) *ℤ pos (10 ^ 15)
more_scaled a t = omega (arith, ints)

less_scaled : (a : ℤ) (t : ℕ) → (a *ℤ pos (10 ^ 15)) -ℤ pos (1 * (10 ^ 18 * t)) ≡ (a +ℤ (negsuc 999 *ℤ pos t)) *ℤ pos (10 ^ 15)
less_scaled a t = omega (arith, ints)

denominator_scaled : (t : ℕ) → 10 ^ 18 * t * 10 ^ 6 ≡ 10 ^ 9 * t * 10 ^ 15
denominator_scaled t = omega arith

pub away_more : (x y : ℤ) (side : ℕ) (n d : ℤ) → pos 0 <ℤ n → pos 0 <ℤ d → floor_of (((billionths x -ℚ billionths y) /ℚ (whole (pos side) *ℚ record { n = n; d = d })) +ℚ eps) ≡ tiles_away (x -ℤ y) side (record { n = n; d = d }) (pos 1000)
unfolding tiles_away
away_more x y side (pos n) (pos d) h k =
    rw (distance_scaled x y d, more_scaled ((x -ℤ y) *ℤ pos d) (side * n), denominator_scaled (side * n))
    (floor-scaled (((x -ℤ y) *ℤ pos d) +ℤ pos (1000 * (side * n))) (10 ^ 9 * (side * n)) (10 ^ 15 - 1))
away_more x y side (negsuc n) d h k = absurd (omega (arith, ints))
away_more x y side (pos n) (negsuc d) h k = absurd (omega (arith, ints))

pub away_less : (x y : ℤ) (side : ℕ) (n d : ℤ) → pos 0 <ℤ n → pos 0 <ℤ d → floor_of (((billionths x -ℚ billionths y) /ℚ (whole (pos side) *ℚ record { n = n; d = d })) -ℚ eps) ≡ tiles_away (x -ℤ y) side (record { n = n; d = d }) (negsuc 999)
unfolding tiles_away
away_less x y side (pos n) (pos d) h k =
    rw (distance_scaled x y d, less_scaled ((x -ℤ y) *ℤ pos d) (side * n), denominator_scaled (side * n))
    (floor-scaled (((x -ℤ y) *ℤ pos d) +ℤ (negsuc 999 *ℤ pos (side * n))) (10 ^ 9 * (side * n)) (10 ^ 15 - 1))
away_less x y side (negsuc n) d h k = absurd (omega (arith, ints))
away_less x y side (pos n) (negsuc d) h k = absurd (omega (arith, ints))

pub least_col_is : (m : Matrix) (b : Box9) → IsWithinLimits m → least_col m b ≡ tiles_away (b.min_x -ℤ m.left) m.tile_w m.span (pos 1000)
unfolding least_col
least_col_is m b l = away_more b.min_x m.left m.tile_w m.span.n m.span.d l.span_positive l.span_d_positive

pub greatest_col_is : (m : Matrix) (b : Box9) → IsWithinLimits m → greatest_col m b ≡ tiles_away (b.max_x -ℤ m.left) m.tile_w m.span (negsuc 999)
unfolding greatest_col
greatest_col_is m b l = away_less b.max_x m.left m.tile_w m.span.n m.span.d l.span_positive l.span_d_positive

pub least_row_is : (m : Matrix) (b : Box9) → IsWithinLimits m → least_row m b ≡ tiles_away (m.top -ℤ b.max_y) m.tile_h m.span (pos 1000)
unfolding least_row
least_row_is m b l = away_more m.top b.max_y m.tile_h m.span.n m.span.d l.span_positive l.span_d_positive

pub greatest_row_is : (m : Matrix) (b : Box9) → IsWithinLimits m → greatest_row m b ≡ tiles_away (m.top -ℤ b.min_y) m.tile_h m.span (negsuc 999)
unfolding greatest_row
greatest_row_is m b l = away_less m.top b.min_y m.tile_h m.span.n m.span.d l.span_positive l.span_d_positive

-- AS THE CODE SEES THEM

pub difference_seen : (d x y : ℤ) → d ≡ to_z w64 (of_z w64 x) -ℤ to_z w64 (of_z w64 y) → unsigned_abs x ≤ 10 ^ 17 → unsigned_abs y ≤ 10 ^ 17 → d ≡ x -ℤ y
difference_seen d x y e h k = rw (← seen_64_of_size x h, ← seen_64_of_size y k) e

pub away_seen : (r d distance : ℤ) (side : ℕ) (span : Fraction) (more floor : ℤ) → FitsSigned w128 r → FitsSigned w128 d → r ≡ tiles_away (to_z w128 (of_z w128 d)) side span more → d ≡ distance → floor ≡ tiles_away distance side span more → to_z w128 (of_z w128 r) ≡ floor
away_seen r d distance side span more floor r_fits d_fits e same is =
    to_z-of_z w128 r r_fits ∙ e ∙ ap (λ (z : ℤ). tiles_away z side span more) (to_z-of_z w128 d d_fits ∙ same) ∙ sym is

pub cut_same : (least least' greatest greatest' : ℤ) (count : ℕ) → least ≡ least' → greatest ≡ greatest' → cut_to least greatest count ≡ cut_to least' greatest' count
cut_same least least' greatest greatest' count e f =
    ap (λ (z : ℤ). cut_to z greatest count) e ∙ ap (λ (z : ℤ). cut_to least' z count) f
