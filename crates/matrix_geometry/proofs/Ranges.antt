-- a tile is in the cut range of a box exactly where it lies between the floors
use Rattle.std.proofs.Common.{◌≡◌, ℕ, ◌-◌, ◌<◌, ◌≤◌, Bool, true, false, refl, ap, ◌∙◌, arith, ℤ, pos, negsuc, ◌≤ℤ◌, unsigned_abs, Option, Some, None, IsTrue, ◌&&◌, nat_le}
use Rattle.std.specs.Prelude.{int_lt, if◌then◌else◌}
use Rattle.std.specs.Int.{int_max, int_min}
use Rattle.std.proofs.lemmas.Bool.Decides.{nat_tests}
use Rattle.std.proofs.lemmas.Int.{clamps, ints}
use Rattle.matrix_geometry.specs.declared.boxes.Box9.{Box9}
use Rattle.matrix_geometry.specs.declared.matrix.Matrix.{Matrix}
use Rattle.matrix_geometry.specs.Geometry.{IsTileOfBox, cut_to, greatest_col, greatest_row, least_col, least_row, range_between, range_of}
use Rattle.matrix_geometry.specs.Limits.{IsWithinLimits}
use Rattle.matrix_geometry.specs.Ranges.{IsRangeOf, is_in_range}
use Rattle.matrix_geometry.proofs.Made.{le_is}

abs_of_least : (z : ℤ) → pos 0 ≤ℤ z → pos (unsigned_abs z) ≡ z
abs_of_least (pos n) h = refl
abs_of_least (negsuc n) h = absurd (omega (arith, ints))

-- what a cut that is not empty gives
record IsCut (least greatest : ℤ) (count : ℕ) (ends : ℕ × ℕ) : Type 0 where
  first : pos ends.0 ≡ int_max (pos 0) least
  last : pos ends.1 ≡ int_min (pos (count - 1)) greatest
  order : ends.0 ≤ ends.1

ends_or : Option (ℕ × ℕ) → ℕ × ℕ → ℕ × ℕ
ends_or None d = d
ends_or (Some p) d = p

cut_by : (b : Bool) (first last : ℤ) (ends : ℕ × ℕ) → b ≡ int_lt last first → pos 0 ≤ℤ first → Some ends ≡ (if b then None else Some (unsigned_abs first, unsigned_abs last)) → (pos ends.0 ≡ first) × (pos ends.1 ≡ last) × (ends.0 ≤ ends.1)
unfolding ends_or
cut_by true first last ends t h e = absurd (cc)
cut_by false first last ends t h e =
    let same = ap (λ (o : Option (ℕ × ℕ)). ends_or o ends) e in
    let order : first ≤ℤ last = grind (arith, ints) in
    let some : pos 0 ≤ℤ last = omega (arith, ints) in
    let is_first : pos ends.0 ≡ first = ap (λ (p : ℕ × ℕ). pos p.0) same ∙ abs_of_least first h in
    let is_last : pos ends.1 ≡ last = ap (λ (p : ℕ × ℕ). pos p.1) same ∙ abs_of_least last some in
    (is_first, is_last, omega (arith, ints))

cut_is : (least greatest : ℤ) (count : ℕ) (ends : ℕ × ℕ) → Some ends ≡ cut_to least greatest count → IsCut least greatest count ends
cut_is least greatest count ends e =
    let h : pos 0 ≤ℤ int_max (pos 0) least = omega (arith, ints, clamps) in
    let both = cut_by (int_lt (int_min (pos (count - 1)) greatest) (int_max (pos 0) least)) (int_max (pos 0) least) (int_min (pos (count - 1)) greatest) ends refl h e in
    record { first = both.0; last = both.1; order = both.2 }

-- a place among so many is between the ends exactly where it is between the floors
between : (least greatest : ℤ) (count : ℕ) (ends : ℕ × ℕ) (x : ℕ) → Some ends ≡ cut_to least greatest count → x < count → ends.0 ≤ x → x ≤ ends.1 → (least ≤ℤ pos x) × (pos x ≤ℤ greatest)
between least greatest count ends x e h low high =
    let is = cut_is least greatest count ends e in
    let first = is.first in let last = is.last in
    (omega (arith, ints, clamps), omega (arith, ints, clamps))

within : (least greatest : ℤ) (count : ℕ) (ends : ℕ × ℕ) (x : ℕ) → Some ends ≡ cut_to least greatest count → x < count → least ≤ℤ pos x → pos x ≤ℤ greatest → (ends.0 ≤ x) × (x ≤ ends.1)
within least greatest count ends x e h low high =
    let is = cut_is least greatest count ends e in
    let first = is.first in let last = is.last in
    (omega (arith, ints, clamps), omega (arith, ints, clamps))

below : (least greatest : ℤ) (count : ℕ) (ends : ℕ × ℕ) → Some ends ≡ cut_to least greatest count → 1 ≤ count → (ends.0 ≤ ends.1) × (ends.1 < count)
below least greatest count ends e h =
    let is = cut_is least greatest count ends e in
    let last = is.last in
    (is.order, omega (arith, ints, clamps))

of_tests : (a b c d : Bool) → IsTrue (a && b && c && d) → (a ≡ true) × (b ≡ true) × (c ≡ true) × (d ≡ true)
of_tests true true true true h = (refl, refl, refl, refl)
of_tests false b c d h = absurd (cc)
of_tests true false c d h = absurd (cc)
of_tests true true false d h = absurd (cc)
of_tests true true true false h = absurd (cc)

tests_of : (a b c d : Bool) → a ≡ true → b ≡ true → c ≡ true → d ≡ true → IsTrue (a && b && c && d)
tests_of a b c d h i j k = rw (h, i, j, k) refl

is_le : (x y : ℕ) → x ≤ y → nat_le x y ≡ true
is_le x y h = grind (arith, nat_tests)

pub tile_of_range : (m : Matrix) (b : Box9) (rows cols : ℕ × ℕ) (row col : ℕ) → Some rows ≡ cut_to (least_row m b) (greatest_row m b) m.rows → Some cols ≡ cut_to (least_col m b) (greatest_col m b) m.cols → row < m.rows → col < m.cols → IsTrue (is_in_range (record { row_min = rows.0; row_max = rows.1; col_min = cols.0; col_max = cols.1 }) row col) → IsTileOfBox m b row col
tile_of_range m b rows cols row col of_rows of_cols in_rows in_cols h =
    let t = of_tests (nat_le rows.0 row) (nat_le row rows.1) (nat_le cols.0 col) (nat_le col cols.1) h in
    let r = between (least_row m b) (greatest_row m b) m.rows rows row of_rows in_rows (le_is rows.0 row t.0) (le_is row rows.1 t.1) in
    let c = between (least_col m b) (greatest_col m b) m.cols cols col of_cols in_cols (le_is cols.0 col t.2) (le_is col cols.1 t.3) in
    record { row_min = r.0; row_max = r.1; col_min = c.0; col_max = c.1 }

pub range_of_tile : (m : Matrix) (b : Box9) (rows cols : ℕ × ℕ) (row col : ℕ) → Some rows ≡ cut_to (least_row m b) (greatest_row m b) m.rows → Some cols ≡ cut_to (least_col m b) (greatest_col m b) m.cols → row < m.rows → col < m.cols → IsTileOfBox m b row col → IsTrue (is_in_range (record { row_min = rows.0; row_max = rows.1; col_min = cols.0; col_max = cols.1 }) row col)
range_of_tile m b rows cols row col of_rows of_cols in_rows in_cols t =
    let r = within (least_row m b) (greatest_row m b) m.rows rows row of_rows in_rows t.row_min t.row_max in
    let c = within (least_col m b) (greatest_col m b) m.cols cols col of_cols in_cols t.col_min t.col_max in
    tests_of _ _ _ _ (is_le rows.0 row r.0) (is_le row rows.1 r.1) (is_le cols.0 col c.0) (is_le col cols.1 c.1)

-- THE RANGE

pub range_inside : (m : Matrix) (b : Box9) (rows cols : ℕ × ℕ) → Some rows ≡ cut_to (least_row m b) (greatest_row m b) m.rows → Some cols ≡ cut_to (least_col m b) (greatest_col m b) m.cols → IsWithinLimits m → IsRangeOf m (record { row_min = rows.0; row_max = rows.1; col_min = cols.0; col_max = cols.1 })
range_inside m b rows cols of_rows of_cols limits =
    let r = below (least_row m b) (greatest_row m b) m.rows rows of_rows limits.rows in
    let c = below (least_col m b) (greatest_col m b) m.cols cols of_cols limits.cols in
    record { rows = r.0; row_max = r.1; cols = c.0; col_max = c.1 }

pub no_rows : (m : Matrix) (b : Box9) → None ≡ cut_to (least_row m b) (greatest_row m b) m.rows → None ≡ range_of m b
unfolding range_of
no_rows m b e = ap (λ (o : Option (ℕ × ℕ)). range_between o (cut_to (least_col m b) (greatest_col m b) m.cols)) e

pub no_cols : (m : Matrix) (b : Box9) (rows : ℕ × ℕ) → Some rows ≡ cut_to (least_row m b) (greatest_row m b) m.rows → None ≡ cut_to (least_col m b) (greatest_col m b) m.cols → None ≡ range_of m b
unfolding range_of
no_cols m b rows of_rows e = rw (← of_rows, ← e) refl

pub some_range : (m : Matrix) (b : Box9) (rows cols : ℕ × ℕ) → Some rows ≡ cut_to (least_row m b) (greatest_row m b) m.rows → Some cols ≡ cut_to (least_col m b) (greatest_col m b) m.cols → Some (record { row_min = rows.0; row_max = rows.1; col_min = cols.0; col_max = cols.1 }) ≡ range_of m b
unfolding range_of
some_range m b rows cols of_rows of_cols = rw (← of_rows, ← of_cols) refl
