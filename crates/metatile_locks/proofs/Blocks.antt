-- A metatile of which no tile lies in the matrix has an empty block, and no cover hits it.
use Rattle.std.proofs.Common.{ℕ, ◌≡◌, ◌*◌, ◌<◌, ◌&&◌, ◌==◌, max, min, Bool, true, false, Option, Some, None, ◌⊎◌, inl, inr, refl, arith}
use Rattle.std.specs.Prelude.{nat_le}
use Rattle.std.proofs.lemmas.Bool.{cases_lt}
use Rattle.std.proofs.lemmas.Bool.Decides.{nat_tests}
use Rattle.matrix_geometry.specs.declared.boxes.Box9.{Box9}
use Rattle.matrix_geometry.specs.declared.boxes.Range.{Range}
use Rattle.matrix_geometry.specs.declared.matrix.Matrix.{Matrix}
use Rattle.matrix_geometry.specs.Admits.{admits}
use Rattle.matrix_geometry.specs.Geometry.{range_of}
use Rattle.matrix_geometry.specs.Limits.{IsWithinLimits}
use Rattle.metatile_plan.specs.declared.metatile.Factors.{Factors}
use Rattle.metatile_plan.specs.declared.metatile.MetaKey.{MetaKey}
use Rattle.metatile_plan.specs.Plan.{IsMetaIn, tiles_of}
use Rattle.truncation_list.specs.declared.cover.Cover.{Cover}
use Rattle.truncation_list.specs.Covers.{hits, has_tile, is_in_zoom, meets_bounds, meets_some}
use Rattle.metatile_locks.specs.Running.{block}

more : (x y : ℕ) → y < x → nat_le x y ≡ false
more x y l = grind (arith, nat_tests)

right_off : (v : Bool) → (v && false) ≡ false
right_off true = refl
right_off false = refl

void_has_none : (r : Range) → (r.row_max < r.row_min) ⊎ (r.col_max < r.col_min) → has_tile r ≡ false
void_has_none r (inl l) = rw (more r.row_min r.row_max l) refl
void_has_none r (inr l) = rw (more r.col_min r.col_max l) (right_off (nat_le r.row_min r.row_max))

void_meets_none : (o : Option Range) (r : Range) → (r.row_max < r.row_min) ⊎ (r.col_max < r.col_min) → meets_some o r ≡ false
void_meets_none None r v = refl
void_meets_none (Some a) r (inl l) =
    void_has_none (record { row_min = max a.row_min r.row_min; row_max = min a.row_max r.row_max; col_min = max a.col_min r.col_min; col_max = min a.col_max r.col_max }) (inl (omega arith))
void_meets_none (Some a) r (inr l) =
    void_has_none (record { row_min = max a.row_min r.row_min; row_max = min a.row_max r.row_max; col_min = max a.col_min r.col_min; col_max = min a.col_max r.col_max }) (inr (omega arith))

void_bounds : (bounds : Option Box9) (m : Matrix) (r : Range) → (r.row_max < r.row_min) ⊎ (r.col_max < r.col_min) → meets_bounds bounds m r ≡ false
void_bounds None m r v = void_has_none r v
void_bounds (Some b) m r v = void_meets_none (range_of m b) r v

off : (a b : Bool) → (a && false && b) ≡ false
off true b = refl
off false b = refl

outside : (f : Factors) (m : Matrix) (k : MetaKey) → IsWithinLimits m → (IsMetaIn f m k → ⊥) → ((tiles_of f m k).row_max < (tiles_of f m k).row_min) ⊎ ((tiles_of f m k).col_max < (tiles_of f m k).col_min)
outside f m k limits not_in = elim (cases_lt (k.row * f.y) m.rows) [
  | inl row ↦ elim (cases_lt (k.col * f.x) m.cols) [
    | inl col ↦ absurd (not_in (record { row = row; col = col }))
    | inr over ↦ inr (let a = limits.cols in omega arith)
  ]
  | inr over ↦ inl (let a = limits.rows in omega arith)
]

pub hits_none : (cover : Cover) (f : Factors) (m : Matrix) (k : MetaKey) → IsWithinLimits m → (IsMetaIn f m k → ⊥) → hits cover m (block f m k) ≡ false
hits_none cover f m k limits not_in =
    rw (void_bounds cover.bounds m (tiles_of f m k) (outside f m k limits not_in)) (off ((cover.layer == k.theme.layer) && (cover.grid == k.grid) && is_in_zoom cover k.z) (admits cover.filter k.theme))
