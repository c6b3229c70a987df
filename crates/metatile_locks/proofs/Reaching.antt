-- A cover hits a metatile exactly where the metatile is one that it reaches.
use Rattle.std.proofs.Common.{ℕ, zero, suc, ◌≡◌, ◌+◌, ◌-◌, ◌*◌, ◌/◌, ◌<◌, ◌≤◌, ◌&&◌, ◌==◌, max, min, Bool, true, false, List, [], ◌∷◌, Option, Some, None, inl, inr, refl, sym, ap, subst, ◌∙◌, arith}
use Rattle.std.specs.Prelude.{nat_le, slice_get}
use Rattle.std.specs.List.{AllByRecursion}
use Rattle.std.specs.Option.{option_map, option_map_or}
use Rattle.std.proofs.lemmas.Bool.{cases_lt}
use Rattle.std.proofs.lemmas.Bool.Decides.{nat_tests}
use Rattle.std.proofs.Math.Nat.{div-mul-le_self, mul-le-mul_right}
use Rattle.catalog.specs.declared.grid.Grid.{Grid}
use Rattle.catalog.specs.Valid.{IsGrid}
use Rattle.matrix_geometry.specs.declared.boxes.Box9.{Box9}
use Rattle.matrix_geometry.specs.declared.boxes.Range.{Range}
use Rattle.matrix_geometry.specs.declared.matrix.Matrix.{Matrix}
use Rattle.matrix_geometry.specs.Admits.{admits}
use Rattle.matrix_geometry.specs.Geometry.{cols_of, range_between, range_of, rows_of}
use Rattle.matrix_geometry.specs.Limits.{IsWithinLimits}
use Rattle.matrix_geometry.specs.Ranges.{IsRangeOf, is_in_range, is_in_some_range}
use Rattle.matrix_geometry.proofs.Ranges.{range_inside}
use Rattle.metatile_plan.specs.declared.metatile.Factors.{Factors}
use Rattle.metatile_plan.specs.declared.metatile.MetaKey.{MetaKey}
use Rattle.metatile_plan.specs.Plan.{IsPlan, tiles_of}
use Rattle.truncation_list.specs.declared.cover.Cover.{Cover}
use Rattle.truncation_list.specs.Covers.{has_tile, hits, is_in_zoom, meets, meets_bounds, meets_some}
use Rattle.metatile_locks.specs.Reach.{gathered, is_reached, reach, reach_at, tiles_within, whole}
use Rattle.metatile_locks.specs.Running.{IsPlanOn, block, hits_in}

-- ROWS, OR COLUMNS

above : (x y : ℕ) → y < x → nat_le x y ≡ false
above x y l = grind (arith, nat_tests)

upto : (x y : ℕ) → x ≤ y → nat_le x y ≡ true
upto x y l = grind (arith, nat_tests)

-- the f places from k * f on, cut to r of them, meet those from a to b exactly where k is between the groups of these two
side : (f k a b r : ℕ) → 1 ≤ f → a ≤ b → b < r → nat_le (max a (k * f)) (min b (min (k * f + f) r - 1)) ≡ (nat_le (a / f) k && nat_le k (b / f))
side f k a b r some order within = elim (cases_lt k (a / f)) [
  | inl under ↦ let e : (k + 1) * f ≤ a / f * f = mul-le-mul_right f (omega (arith, under)) in let low = div-mul-le_self a f in
      let out : min b (min (k * f + f) r - 1) < max a (k * f) = omega arith in
      rw (above (max a (k * f)) (min b (min (k * f + f) r - 1)) out, above (a / f) k under) refl
  | inr from ↦ elim (cases_lt (b / f) k) [
    | inl over ↦ let e : (b / f + 1) * f ≤ k * f = mul-le-mul_right f (omega (arith, over)) in let d : b < b / f * f + f = omega arith in
        let out : min b (min (k * f + f) r - 1) < max a (k * f) = omega arith in
        rw (above (max a (k * f)) (min b (min (k * f + f) r - 1)) out, upto (a / f) k from, above k (b / f) over) refl
    | inr to ↦ let e : a / f * f ≤ k * f = mul-le-mul_right f from in let d : a < a / f * f + f = omega arith in
        let g : k * f ≤ b / f * f = mul-le-mul_right f to in let low = div-mul-le_self b f in
        let met : max a (k * f) ≤ min b (min (k * f + f) r - 1) = omega arith in
        rw (upto (max a (k * f)) (min b (min (k * f + f) r - 1)) met, upto (a / f) k from, upto k (b / f) to) refl
  ]
]

joined : (s c d : Bool) → (s && (c && d)) ≡ ((s && c) && d)
joined true c d = refl
joined false c d = refl

-- RANGES

meets_gathered : (f : Factors) (m : Matrix) (k : MetaKey) (r : Range) → IsPlan f m → IsRangeOf m r → meets r (tiles_of f m k) ≡ is_in_range (gathered f r) k.row k.col
meets_gathered f m k r plan is =
    (λ i. side f.y k.row r.row_min r.row_max m.rows plan.y is.rows is.row_max i && side f.x k.col r.col_min r.col_max m.cols plan.x is.cols is.col_max i)
    ∙ joined (nat_le (r.row_min / f.y) k.row && nat_le k.row (r.row_max / f.y)) (nat_le (r.col_min / f.x) k.col) (nat_le k.col (r.col_max / f.x))

whole_is : (m : Matrix) → IsWithinLimits m → IsRangeOf m (whole m)
whole_is m limits = let rows = limits.rows in let cols = limits.cols in record { rows = omega arith; row_max = omega arith; cols = omega arith; col_max = omega arith }

all_meet : (m : Matrix) (f : Factors) (k : MetaKey) → has_tile (tiles_of f m k) ≡ meets (whole m) (tiles_of f m k)
all_meet m f k =
    let a : k.row * f.y ≡ max 0 (k.row * f.y) = omega arith in
    let b : min (k.row * f.y + f.y) m.rows - 1 ≡ min (m.rows - 1) (min (k.row * f.y + f.y) m.rows - 1) = omega arith in
    let c : k.col * f.x ≡ max 0 (k.col * f.x) = omega arith in
    let d : min (k.col * f.x + f.x) m.cols - 1 ≡ min (m.cols - 1) (min (k.col * f.x + f.x) m.cols - 1) = omega arith in
    λ i. nat_le (a i) (b i) && nat_le (c i) (d i)

range_is : (m : Matrix) (b : Box9) (t : Range) (rows cols : Option (ℕ × ℕ)) → rows_of m b ≡ rows → cols_of m b ≡ cols → range_between rows cols ≡ Some t → IsWithinLimits m → IsRangeOf m t
range_is m b t None cols er ec e limits = absurd (cc)
range_is m b t (Some rows) None er ec e limits = absurd (cc)
range_is m b t (Some rows) (Some cols) er ec e limits =
    let d : record { row_min = rows.0; row_max = rows.1; col_min = cols.0; col_max = cols.1 } ≡ t = cc in
    subst (λ (r : Range). IsRangeOf m r) d (range_inside m b rows cols (sym er) (sym ec) limits)

box_is : (m : Matrix) (b : Box9) (t : Range) → range_of m b ≡ Some t → IsWithinLimits m → IsRangeOf m t
unfolding range_of
box_is m b t e limits = range_is m b t (rows_of m b) (cols_of m b) refl refl e limits

bounds_reached : (f : Factors) (m : Matrix) (k : MetaKey) (bounds : Option Box9) → IsPlan f m → IsWithinLimits m
    → meets_bounds bounds m (tiles_of f m k) ≡ is_in_some_range (option_map (gathered f) (tiles_within bounds m)) k.row k.col
bounds_reached f m k None plan limits = all_meet m f k ∙ meets_gathered f m k (whole m) plan (whole_is m limits)
bounds_reached f m k (Some b) plan limits = some (range_of m b) refl
  where
    some : (o : Option Range) → range_of m b ≡ o → meets_some o (tiles_of f m k) ≡ is_in_some_range (option_map (gathered f) o) k.row k.col
    some None e = refl
    some (Some r) e = meets_gathered f m k r plan (box_is m b r e limits)

-- COVERS

pub hits_reached : (f : Factors) (m : Matrix) (cover : Cover) (k : MetaKey) → IsPlan f m → IsWithinLimits m → hits cover m (block f m k) ≡ is_reached cover (reach f m cover) k
hits_reached f m cover k plan limits =
    ap (λ (b : Bool). (cover.layer == k.theme.layer) && (cover.grid == k.grid) && is_in_zoom cover k.z && b && admits cover.filter k.theme) (bounds_reached f m k cover.bounds plan limits)

off : (a b : Bool) → false ≡ (a && false && b)
off true b = refl
off false b = refl

at : (P : Matrix → Type 0) (ms : List Matrix) (i : ℕ) (m : Matrix) → AllByRecursion P ms → slice_get ms i ≡ Some m → P m
at P [] i m h e = absurd (cc)
at P (x ∷ ms) zero m h e = let same : x ≡ m = cc in subst P same h.0
at P (x ∷ ms) (suc i) m h e = at P ms i m h.1 e

pub hits_in_reached : (f : Factors) (grid : Grid) (cover : Cover) (k : MetaKey) → IsPlanOn f grid → IsGrid grid → hits_in f grid cover k ≡ is_reached cover (reach_at f grid cover k.z) k
hits_in_reached f grid cover k plan limits = found (slice_get grid.matrices k.z) refl
  where
    found : (o : Option Matrix) → slice_get grid.matrices k.z ≡ o → option_map_or (λ x. hits cover x (block f x k)) o false ≡ is_reached cover (option_map_or (λ m. reach f m cover) o None) k
    found None e = off ((cover.layer == k.theme.layer) && (cover.grid == k.grid) && is_in_zoom cover k.z) (admits cover.filter k.theme)
    found (Some m) e = hits_reached f m cover k (at (IsPlan f) grid.matrices k.z m plan e) (at IsWithinLimits grid.matrices k.z m limits e)
