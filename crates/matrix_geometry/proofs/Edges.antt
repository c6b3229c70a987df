-- the edges of a tile over one denominator
use Rattle.std.proofs.Common.{◌≡◌, ℕ, ◌+◌, ◌*◌, ◌^◌, ◌≤◌, refl, ap, ◌∙◌, arith, ℤ, pos, negsuc, neg_ℤ, ◌+ℤ◌, ◌-ℤ◌, ◌*ℤ◌, ◌<ℤ◌, unsigned_abs, to_z, of_z}
use Rattle.std.specs.Int.{w128}
use Rattle.std.proofs.Math.Nat.{mul_assoc, mul-le-mul, mul-le-mul_right}
use Rattle.std.proofs.lemmas.Int.{ints}
use Rattle.exact_ratio.proofs.Divisors.{abs-neg}
use Rattle.exact_ratio.specs.Values.{Fraction}
use Rattle.exact_ratio.specs.Fractions.{whole, ◌+ℚ◌, ◌-ℚ◌, ◌*ℚ◌, lowest_terms}
use Rattle.exact_ratio.specs.Lowest.{lowest}
use Rattle.matrix_geometry.specs.declared.boxes.TileBox.{TileBox}
use Rattle.matrix_geometry.specs.declared.matrix.Matrix.{Matrix}
use Rattle.matrix_geometry.specs.Geometry.{billionths, box_of, left_edge, upper_edge}
use Rattle.matrix_geometry.proofs.Products.{neg-mul, seen_of_size}

pub left_is : (corner : ℤ) (col side : ℕ) (n d : ℤ) → pos 0 <ℤ n → pos 0 <ℤ d → lowest ((corner *ℤ d) +ℤ ((pos (col * side) *ℤ n) *ℤ pos (10 ^ 9))) (pos (10 ^ 9) *ℤ d) ≡ lowest_terms (billionths corner +ℚ (whole (pos col) *ℚ (whole (pos side) *ℚ record { n = n; d = d })))
left_is corner col side (pos a) (pos b) h k =
    let same : 1 * (1 * b) ≡ b = omega arith in
    rw (same, mul_assoc col side a) refl
left_is corner col side (negsuc a) d h k = absurd (omega (arith, ints))
left_is corner col side (pos a) (negsuc b) h k = absurd (omega (arith, ints))

zero-sub : (k : ℕ) → pos 0 -ℤ pos k ≡ neg_ℤ (pos k)
zero-sub k = omega (arith, ints)

negated : (k a : ℕ) → ((pos 0 -ℤ pos k) *ℤ pos a) *ℤ pos (10 ^ 9) ≡ neg_ℤ (pos (k * a) *ℤ pos (10 ^ 9))
negated k a = rw (zero-sub k, neg-mul (pos k) (pos a), neg-mul (pos (k * a)) (pos (10 ^ 9))) refl

pub upper_is : (corner : ℤ) (row side : ℕ) (n d : ℤ) → pos 0 <ℤ n → pos 0 <ℤ d → lowest ((corner *ℤ d) +ℤ (((pos 0 -ℤ pos (row * side)) *ℤ n) *ℤ pos (10 ^ 9))) (pos (10 ^ 9) *ℤ d) ≡ lowest_terms (billionths corner -ℚ (whole (pos row) *ℚ (whole (pos side) *ℚ record { n = n; d = d })))
upper_is corner row side (pos a) (pos b) h k =
    let same : 1 * (1 * b) ≡ b = omega arith in
    rw (negated (row * side) a, same, mul_assoc row side a) refl
upper_is corner row side (negsuc a) d h k = absurd (omega (arith, ints))
upper_is corner row side (pos a) (negsuc b) h k = absurd (omega (arith, ints))

-- PIXELS

pub pixels_within : (place count side n d : ℕ) → place ≤ count → count * side * n ≤ d → place * side * n ≤ d
pixels_within place count side n d h k =
    let sides = mul-le-mul_right side h in
    let spans = mul-le-mul_right n sides in
    omega arith

pub few_pixels : (place count side : ℕ) → place ≤ count → count ≤ 2 ^ 31 → side ≤ 512 → place * side ≤ 2 ^ 40
few_pixels place count side h k s = let tiles : place ≤ 2 ^ 31 = omega arith in mul-le-mul tiles s

pub seen_pixels : (k : ℕ) → k ≤ 2 ^ 40 → to_z w128 (of_z w128 (pos k)) ≡ pos k
seen_pixels k h = seen_of_size (pos k) (2 ^ 40) h (omega arith)

pub abs-zero-sub : (k : ℕ) → unsigned_abs (pos 0 -ℤ pos k) ≡ k
abs-zero-sub k = rw (zero-sub k) (abs-neg k)

pub seen_back : (k : ℕ) → k ≤ 2 ^ 40 → to_z w128 (of_z w128 (pos 0 -ℤ pos k)) ≡ pos 0 -ℤ pos k
seen_back k h = seen_of_size (pos 0 -ℤ pos k) (2 ^ 40) (rw (abs-zero-sub k) h) (omega arith)

-- THE BOX

abbrev pub the_box : Fraction → Fraction → Fraction → Fraction → TileBox
the_box left right upper lower = record { left = left; right = right; upper = upper; lower = lower }

pub box_is : (m : Matrix) (row col : ℕ) (left right upper lower : Fraction) (c c' r r' : ℕ) → c ≡ col → c' ≡ col → r ≡ row → r' ≡ row → left ≡ lowest_terms (left_edge m c) → right ≡ lowest_terms (left_edge m (c' + 1)) → upper ≡ lowest_terms (upper_edge m r) → lower ≡ lowest_terms (upper_edge m (r' + 1)) → the_box left right upper lower ≡ box_of m row col
unfolding box_of
box_is m row col left right upper lower c c' r r' is_c is_c' is_r is_r' is_left is_right is_upper is_lower =
    λ i. record {
      left = (is_left ∙ ap (λ (k : ℕ). lowest_terms (left_edge m k)) is_c) i;
      right = (is_right ∙ ap (λ (k : ℕ). lowest_terms (left_edge m (k + 1))) is_c') i;
      upper = (is_upper ∙ ap (λ (k : ℕ). lowest_terms (upper_edge m k)) is_r) i;
      lower = (is_lower ∙ ap (λ (k : ℕ). lowest_terms (upper_edge m (k + 1))) is_r') i;
    }
