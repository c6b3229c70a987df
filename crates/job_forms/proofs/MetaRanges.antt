-- How many metatiles stand in rows and columns, and which of them at a place.
use Rattle.std.proofs.Common.{◌≡◌, ℕ, ◌+◌, ◌-◌, ◌*◌, ◌/◌, ◌%◌, ◌≤◌, ◌<◌, length, Option, Some, slice_get, option_map, ap, subst, ◌∙◌, arith}
use Rattle.std.proofs.lemmas.Nat.{div-add-mod', div_below, le-div}
use Rattle.std.proofs.Math.Nat.{div-le_self, div-mul-le_self}
use Rattle.catalog.specs.declared.catalogue.Catalogue.{Catalogue}
use Rattle.catalog.specs.declared.layer.Layer.{Layer}
use Rattle.catalog.specs.LookUp.{matrix_in}
use Rattle.matrix_geometry.specs.declared.boxes.Range.{Range}
use Rattle.matrix_geometry.specs.declared.matrix.Matrix.{Matrix}
use Rattle.matrix_geometry.specs.declared.theme.Theme.{Theme}
use Rattle.matrix_geometry.specs.Limits.{IsWithinLimits}
use Rattle.matrix_geometry.specs.Ranges.{IsRangeOf}
use Rattle.metatile_plan.specs.declared.metatile.Factors.{Factors}
use Rattle.raster_field.specs.Blocks.{factors_of}
use Rattle.truncation_list.specs.declared.cover.Cover.{Cover}
use Rattle.job_forms.specs.Places.{from_to, gathered, metas_at, metas_in, metas_in_row, tiles_within}
use Rattle.job_forms.specs.Steps.{IsMetaRange}
use Rattle.job_forms.proofs.Pieces.{get_map, get_piece, get_range, map_length, pieces_length, range_length}

row_length : (theme : Theme) (grid z : ℕ) (r : Range) (row : ℕ) → length (metas_in_row theme grid z r row) ≡ r.col_max + 1 - r.col_min
row_length theme grid z r row =
    map_length (λ col. record { theme = theme; grid = grid; z = z; row = row; col = col }) (from_to r.col_min r.col_max) ∙ range_length r.col_min (r.col_max + 1 - r.col_min)

pub metas_length : (theme : Theme) (grid z : ℕ) (r : Range) → length (metas_in theme grid z r) ≡ (r.row_max + 1 - r.row_min) * (r.col_max + 1 - r.col_min)
unfolding metas_in
metas_length theme grid z r =
    pieces_length (metas_in_row theme grid z r) (r.col_max + 1 - r.col_min) (row_length theme grid z r) (from_to r.row_min r.row_max)
    ∙ ap (λ (n : ℕ). n * (r.col_max + 1 - r.col_min)) (range_length r.row_min (r.row_max + 1 - r.row_min))

-- so many rows down and columns across
metas_get : (theme : Theme) (grid z : ℕ) (r : Range) (down across : ℕ) → down < r.row_max + 1 - r.row_min → across < r.col_max + 1 - r.col_min
    → slice_get (metas_in theme grid z r) (down * (r.col_max + 1 - r.col_min) + across) ≡ Some (record { theme = theme; grid = grid; z = z; row = r.row_min + down; col = r.col_min + across })
unfolding metas_in
metas_get theme grid z r down across h k =
    get_piece (metas_in_row theme grid z r) (r.col_max + 1 - r.col_min) (row_length theme grid z r) (from_to r.row_min r.row_max) down across (r.row_min + down)
    (record { theme = theme; grid = grid; z = z; row = r.row_min + down; col = r.col_min + across })
    (get_range r.row_min (r.row_max + 1 - r.row_min) down h)
    (get_map (λ col. record { theme = theme; grid = grid; z = z; row = r.row_min + down; col = col }) (from_to r.col_min r.col_max) across (r.col_min + across) (get_range r.col_min (r.col_max + 1 - r.col_min) across k))

pub metas_place : (theme : Theme) (grid z : ℕ) (r : Range) (place cols : ℕ) → IsMetaRange r → place < length (metas_in theme grid z r) → cols ≡ r.col_max + 1 - r.col_min
    → slice_get (metas_in theme grid z r) place ≡ Some (record { theme = theme; grid = grid; z = z; row = r.row_min + place / cols; col = r.col_min + place % cols })
metas_place theme grid z r place cols is within e =
    let n = r.col_max + 1 - r.col_min in
    let some : 0 < n = omega (arith, is.cols) in
    let l : place < (r.row_max + 1 - r.row_min) * n = subst (λ (k : ℕ). place < k) (metas_length theme grid z r) within in
    let at = metas_get theme grid z r (place / n) (place % n) (div_below place n (r.row_max + 1 - r.row_min) some l) (omega arith) in
    rw e (subst (λ (k : ℕ). slice_get (metas_in theme grid z r) k ≡ Some (record { theme = theme; grid = grid; z = z; row = r.row_min + place / n; col = r.col_min + place % n })) (div-add-mod' place n) at)

-- the rows above a place are fewer than all
pub down_most : (theme : Theme) (grid z : ℕ) (r : Range) (place cols : ℕ) → IsMetaRange r → place < length (metas_in theme grid z r) → cols ≡ r.col_max + 1 - r.col_min
    → r.row_min + place / cols ≤ r.row_max
down_most theme grid z r place cols is within e =
    let n = r.col_max + 1 - r.col_min in
    let some : 0 < n = omega (arith, is.cols) in
    let l : place < (r.row_max + 1 - r.row_min) * n = subst (λ (k : ℕ). place < k) (metas_length theme grid z r) within in
    let d = div_below place n (r.row_max + 1 - r.row_min) some l in
    rw e (omega (arith, d, is.rows))

pub across_most : (r : Range) (place cols : ℕ) → IsMetaRange r → cols ≡ r.col_max + 1 - r.col_min → r.col_min + place % cols ≤ r.col_max
across_most r place cols is e =
    let n = r.col_max + 1 - r.col_min in
    let some : 0 < n = omega (arith, is.cols) in
    rw e (omega (arith, is.cols))

-- THOSE OF A COVER

pub quotients : (a b n : ℕ) → a ≤ b → 1 ≤ n → a / n ≤ b / n
quotients a b n h some = let low = div-mul-le_self a n in le-div (a / n) b n some (omega (arith, low, h))

pub gathered_range : (f : Factors) (m : Matrix) (r : Range) → IsWithinLimits m → IsRangeOf m r → 1 ≤ f.x → 1 ≤ f.y → IsMetaRange (gathered f r)
gathered_range f m r limits is x y =
    record {
      rows = quotients r.row_min r.row_max f.y is.rows y;
      rows_most = omega (arith, div-le_self r.row_max f.y, is.row_max, limits.rows_most);
      cols = quotients r.col_min r.col_max f.x is.cols x;
      cols_most = omega (arith, div-le_self r.col_max f.x, is.col_max, limits.cols_most);
    }

pub metas_are : (c : Catalogue) (cover : Cover) (z : ℕ) (l : Layer) (m : Matrix) (metas : Option Range) → slice_get c.layers cover.layer ≡ Some l → matrix_in c cover.grid z ≡ Some m
    → metas ≡ option_map (gathered (factors_of l)) (tiles_within cover.bounds m) → metas ≡ metas_at c cover z
unfolding metas_at
metas_are c cover z l m metas el em e = rw (em, el) e
