-- a larger box has no fewer tiles, so a cover is for each tile that a cover which it contains is for
use Rattle.std.proofs.Common.{ℕ, ◌≡◌, ◌-◌, ◌*◌, ◌/◌, ◌<◌, ◌≤◌, ◌^◌, ◌==◌, refl, arith, suc, Bool, true, false, List, [], ◌∷◌, Option, Some, None, IsTrue, ℤ, pos, negsuc, ◌+ℤ◌, ◌-ℤ◌, ◌*ℤ◌, ◌≤ℤ◌, ◌<ℤ◌, unsigned_abs}
use Rattle.std.specs.Prelude.{int_lt, nat_le, if◌then◌else◌}
use Rattle.std.specs.Int.{int_div_euclid, int_max, int_min}
use Rattle.std.proofs.lemmas.Int.{clamps, ints}
use Rattle.std.proofs.Math.Nat.{div-mul-le_self, mul-le-mul}
use Rattle.std.proofs.lemmas.Nat.{le-div}
use Rattle.matrix_geometry.specs.declared.address.Address.{Address}
use Rattle.matrix_geometry.specs.declared.boxes.Box9.{Box9}
use Rattle.matrix_geometry.specs.declared.matrix.Matrix.{Matrix}
use Rattle.matrix_geometry.specs.Admits.{admits, admits_number, admits_values}
use Rattle.matrix_geometry.specs.Away.{tiles_away}
use Rattle.matrix_geometry.specs.Geometry.{IsTileOfBox, cut_to, greatest_col, greatest_row, least_col, least_row, range_between, range_of}
use Rattle.matrix_geometry.specs.Limits.{IsWithinLimits}
use Rattle.matrix_geometry.specs.Ranges.{is_in_some_range}
use Rattle.matrix_geometry.proofs.Floors.{greatest_col_is, greatest_row_is, least_col_is, least_row_is}
use Rattle.matrix_geometry.proofs.Ranges.{range_of_tile, some_range, tile_of_range}
use Rattle.truncation_list.specs.declared.cover.Cover.{Cover}
use Rattle.truncation_list.specs.Contains.{contains, contains_box, contains_number, contains_numbers}
use Rattle.truncation_list.specs.Covers.{covers, is_in_bounds, is_in_zoom}
use Rattle.truncation_list.proofs.Containment.{Holds, box_holds, contains_within}
use Rattle.truncation_list.proofs.Decided.{both, eq_through, five, int_le_is, join, join_five, le_through}

div_le : (a b d : ℕ) → 0 < d → a ≤ b → a / d ≤ b / d
div_le a b d some h = let whole = div-mul-le_self a d in le-div (a / d) b d some (omega arith)

floor_le : (x y : ℤ) (d : ℕ) → 0 < d → x ≤ℤ y → int_div_euclid x (pos d) ≤ℤ int_div_euclid y (pos d)
floor_le (pos a) (pos b) d some h = let le : a / d ≤ b / d = div_le a b d some (omega (arith, ints)) in omega (arith, ints)
floor_le (pos a) (negsuc b) d some h = absurd (omega (arith, ints))
floor_le (negsuc a) (pos b) d some h = omega (arith, ints)
floor_le (negsuc a) (negsuc b) d some h = let le : b / d ≤ a / d = div_le b a d some (omega (arith, ints)) in omega (arith, ints)

mul_le : (x y : ℤ) (d : ℕ) → x ≤ℤ y → (x *ℤ pos d) ≤ℤ (y *ℤ pos d)
mul_le (pos a) (pos b) d h = let le : a ≤ b = omega (arith, ints) in let more : a * d ≤ b * d = mul-le-mul le (omega arith) in omega (arith, ints)
mul_le (pos a) (negsuc b) d h = absurd (omega (arith, ints))
mul_le (negsuc a) (pos b) d h = grind (arith, ints)
mul_le (negsuc a) (negsuc b) d h = let le : suc b ≤ suc a = omega (arith, ints) in let more : suc b * d ≤ suc a * d = mul-le-mul le (omega arith) in grind (arith, ints)

away_le : (x y : ℤ) (side : ℕ) (n d more : ℤ) → 1 ≤ side → pos 0 <ℤ n → pos 0 <ℤ d → x ≤ℤ y → tiles_away x side (record { n = n; d = d }) more ≤ℤ tiles_away y side (record { n = n; d = d }) more
unfolding tiles_away
away_le x y side (pos n) (pos d) more some h k le =
    let product = mul_le x y d le in
    let one : 1 ≤ n = omega (arith, ints) in
    let tile : 1 * 1 ≤ side * n = mul-le-mul some one in
    floor_le ((x *ℤ pos d) +ℤ (more *ℤ pos (side * n))) ((y *ℤ pos d) +ℤ (more *ℤ pos (side * n))) (10 ^ 9 * (side * n)) (omega arith) (omega (arith, ints))
away_le x y side (negsuc n) d more some h k le = absurd (omega (arith, ints))
away_le x y side (pos n) (negsuc d) more some h k le = absurd (omega (arith, ints))

from_le : (p q x y : ℤ) → p ≡ x → q ≡ y → x ≤ℤ y → p ≤ℤ q
from_le p q x y e f h = rw (e, f) h

-- THE TILES OF A BOX

-- a place between the floors, and among so many, is in the cut
kept_by : (b : Bool) (first last : ℤ) → b ≡ false → (ends : ℕ × ℕ) × (Some ends ≡ (if b then None else Some (unsigned_abs first, unsigned_abs last)))
kept_by true first last e = absurd (cc)
kept_by false first last e = ((unsigned_abs first, unsigned_abs last), refl)

cut_some : (least greatest : ℤ) (count x : ℕ) → x < count → least ≤ℤ pos x → pos x ≤ℤ greatest → (ends : ℕ × ℕ) × (Some ends ≡ cut_to least greatest count)
cut_some least greatest count x l h k =
    let last : pos x ≤ℤ pos (count - 1) = omega (arith, ints) in
    let order : int_max (pos 0) least ≤ℤ int_min (pos (count - 1)) greatest = omega (arith, ints, clamps) in
    let test : int_lt (int_min (pos (count - 1)) greatest) (int_max (pos 0) least) ≡ false = grind (arith, ints) in
    kept_by (int_lt (int_min (pos (count - 1)) greatest) (int_max (pos 0) least)) (int_max (pos 0) least) (int_min (pos (count - 1)) greatest) test

in_range_of_tile : (m : Matrix) (b : Box9) (row col : ℕ) → row < m.rows → col < m.cols → IsTileOfBox m b row col → IsTrue (is_in_some_range (range_of m b) row col)
in_range_of_tile m b row col r c t =
    let rows = cut_some (least_row m b) (greatest_row m b) m.rows row r t.row_min t.row_max in
    let cols = cut_some (least_col m b) (greatest_col m b) m.cols col c t.col_min t.col_max in
    rw (← some_range m b rows.0 cols.0 rows.1 cols.1) (range_of_tile m b rows.0 cols.0 row col rows.1 cols.1 r c t)

tile_by : (m : Matrix) (b : Box9) (row col : ℕ) (rows cols : Option (ℕ × ℕ)) → rows ≡ cut_to (least_row m b) (greatest_row m b) m.rows → cols ≡ cut_to (least_col m b) (greatest_col m b) m.cols → row < m.rows → col < m.cols → IsTrue (is_in_some_range (range_between rows cols) row col) → IsTileOfBox m b row col
tile_by m b row col None cols e f r c h = absurd (cc)
tile_by m b row col (Some rows) None e f r c h = absurd (cc)
tile_by m b row col (Some rows) (Some cols) e f r c h = tile_of_range m b rows cols row col e f r c h

tile_of_some_range : (m : Matrix) (b : Box9) (row col : ℕ) → row < m.rows → col < m.cols → IsTrue (is_in_some_range (range_of m b) row col) → IsTileOfBox m b row col
unfolding range_of
tile_of_some_range m b row col r c h =
    tile_by m b row col (cut_to (least_row m b) (greatest_row m b) m.rows) (cut_to (least_col m b) (greatest_col m b) m.cols) refl refl r c h

-- A LARGER BOX

sub_le : (x y z : ℤ) → x ≤ℤ y → (x -ℤ z) ≤ℤ (y -ℤ z)
sub_le x y z h = omega (arith, ints)

sub_from_le : (x y z : ℤ) → x ≤ℤ y → (z -ℤ y) ≤ℤ (z -ℤ x)
sub_from_le x y z h = omega (arith, ints)

tile_of_larger : (m : Matrix) (o i : Box9) (row col : ℕ) → IsWithinLimits m → Holds o i → IsTileOfBox m i row col → IsTileOfBox m o row col
tile_of_larger m o i row col l h t =
    let left = from_le (least_col m o) (least_col m i) (tiles_away (o.min_x -ℤ m.left) m.tile_w m.span (pos 1000)) (tiles_away (i.min_x -ℤ m.left) m.tile_w m.span (pos 1000)) (least_col_is m o l) (least_col_is m i l) (away_le (o.min_x -ℤ m.left) (i.min_x -ℤ m.left) m.tile_w m.span.n m.span.d (pos 1000) l.tile_w l.span_positive l.span_d_positive (sub_le o.min_x i.min_x m.left (int_le_is o.min_x i.min_x h.min_x))) in
    let right = from_le (greatest_col m i) (greatest_col m o) (tiles_away (i.max_x -ℤ m.left) m.tile_w m.span (negsuc 999)) (tiles_away (o.max_x -ℤ m.left) m.tile_w m.span (negsuc 999)) (greatest_col_is m i l) (greatest_col_is m o l) (away_le (i.max_x -ℤ m.left) (o.max_x -ℤ m.left) m.tile_w m.span.n m.span.d (negsuc 999) l.tile_w l.span_positive l.span_d_positive (sub_le i.max_x o.max_x m.left (int_le_is i.max_x o.max_x h.max_x))) in
    let upper = from_le (least_row m o) (least_row m i) (tiles_away (m.top -ℤ o.max_y) m.tile_h m.span (pos 1000)) (tiles_away (m.top -ℤ i.max_y) m.tile_h m.span (pos 1000)) (least_row_is m o l) (least_row_is m i l) (away_le (m.top -ℤ o.max_y) (m.top -ℤ i.max_y) m.tile_h m.span.n m.span.d (pos 1000) l.tile_h l.span_positive l.span_d_positive (sub_from_le i.max_y o.max_y m.top (int_le_is i.max_y o.max_y h.max_y))) in
    let lower = from_le (greatest_row m i) (greatest_row m o) (tiles_away (m.top -ℤ i.min_y) m.tile_h m.span (negsuc 999)) (tiles_away (m.top -ℤ o.min_y) m.tile_h m.span (negsuc 999)) (greatest_row_is m i l) (greatest_row_is m o l) (away_le (m.top -ℤ i.min_y) (m.top -ℤ o.min_y) m.tile_h m.span.n m.span.d (negsuc 999) l.tile_h l.span_positive l.span_d_positive (sub_from_le o.min_y i.min_y m.top (int_le_is o.min_y i.min_y h.min_y))) in
    let a = t.row_min in let b = t.row_max in let c = t.col_min in let d = t.col_max in
    record { row_min = omega (arith, ints); row_max = omega (arith, ints); col_min = omega (arith, ints); col_max = omega (arith, ints) }

bounds_of_larger : (m : Matrix) (o i : Option Box9) (row col : ℕ) → IsWithinLimits m → row < m.rows → col < m.cols → IsTrue (contains_box o i) → IsTrue (is_in_bounds i m row col) → IsTrue (is_in_bounds o m row col)
bounds_of_larger m None i row col l r c h k = refl
bounds_of_larger m (Some o) None row col l r c h k = absurd (cc)
bounds_of_larger m (Some o) (Some i) row col l r c h k =
    in_range_of_tile m o row col r c (tile_of_larger m o i row col l (box_holds o i h) (tile_of_some_range m i row col r c k))

-- THE FILTERS

number_admits : (o i : Option ℕ) (n : ℕ) → IsTrue (contains_number o i) → IsTrue (admits_number i n) → IsTrue (admits_number o n)
number_admits None i n h k = refl
number_admits (Some o) None n h k = absurd (cc)
number_admits (Some o) (Some i) n h k = eq_through o i n h k

numbers_admit : (os is : List (Option ℕ)) (ns : List ℕ) → IsTrue (contains_numbers os is) → IsTrue (admits_values is ns) → IsTrue (admits_values os ns)
numbers_admit [] is ns h k = refl
numbers_admit (o ∷ os) [] ns h k = absurd (cc)
numbers_admit (o ∷ os) (i ∷ is) [] h k = refl
numbers_admit (o ∷ os) (i ∷ is) (n ∷ ns) h k =
    let p = both (contains_number o i) (contains_numbers os is) h in
    let q = both (admits_number i n) (admits_values is ns) k in
    join (admits_number o n) (admits_values os ns) (number_admits o i n p.0 q.0) (numbers_admit os is ns p.1 q.1)

-- THE COVERS

pub outer_covers : (o i : Cover) (m : Matrix) (a : Address) → IsWithinLimits m → a.row < m.rows → a.col < m.cols → IsTrue (contains o i) → IsTrue (covers i m a) → IsTrue (covers o m a)
outer_covers o i m a l r c h k =
    let w = contains_within o i h in
    let t = five (i.layer == a.theme.layer) (i.grid == a.grid) (is_in_zoom i a.z) (is_in_bounds i.bounds m a.row a.col) (admits i.filter a.theme) k in
    let z = both (nat_le i.z_start a.z) (nat_le a.z i.z_stop) t.2 in
    let f = both (admits_number i.filter.style a.theme.style) (admits_values i.filter.dims a.theme.dims) t.4 in
    join_five (o.layer == a.theme.layer) (o.grid == a.grid) (is_in_zoom o a.z) (is_in_bounds o.bounds m a.row a.col) (admits o.filter a.theme)
    (eq_through o.layer i.layer a.theme.layer w.layer t.0)
    (eq_through o.grid i.grid a.grid w.grid t.1)
    (join (nat_le o.z_start a.z) (nat_le a.z o.z_stop) (le_through o.z_start i.z_start a.z w.z_start z.0) (le_through a.z i.z_stop o.z_stop z.1 w.z_stop))
    (bounds_of_larger m o.bounds i.bounds a.row a.col l r c w.bounds t.3)
    (join (admits_number o.filter.style a.theme.style) (admits_values o.filter.dims a.theme.dims) (number_admits o.filter.style i.filter.style a.theme.style w.style f.0) (numbers_admit o.filter.dims i.filter.dims a.theme.dims w.dims f.1))
