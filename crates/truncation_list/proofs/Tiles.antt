-- a cover hits a block exactly where it is for some tile of it
use Rattle.std.proofs.Common.{ℕ, ◌≤◌, max, min, ◌==◌, ◌↔◌, refl, arith, Option, Some, None, IsTrue}
use Rattle.std.specs.Prelude.{nat_le}
use Rattle.matrix_geometry.specs.declared.boxes.Box9.{Box9}
use Rattle.matrix_geometry.specs.declared.boxes.Range.{Range}
use Rattle.matrix_geometry.specs.declared.matrix.Matrix.{Matrix}
use Rattle.matrix_geometry.specs.Admits.{admits}
use Rattle.matrix_geometry.specs.Geometry.{range_of}
use Rattle.matrix_geometry.specs.Ranges.{is_in_range, is_in_some_range}
use Rattle.truncation_list.specs.declared.block.Block.{Block}
use Rattle.truncation_list.specs.declared.cover.Cover.{Cover}
use Rattle.truncation_list.specs.Covers.{CoversSome, has_tile, hits, is_in_bounds, is_in_zoom, meets_bounds, meets_some}
use Rattle.truncation_list.proofs.Decided.{both, five, four, is_le, join, join_five, join_four, le_is}

-- RANGES

-- the row and the column are in the range
pub record Lies (r : Range) (row col : ℕ) : Type 0 where
  pub row_min : r.row_min ≤ row
  pub row_max : row ≤ r.row_max
  pub col_min : r.col_min ≤ col
  pub col_max : col ≤ r.col_max

pub in_range_lies : (r : Range) (row col : ℕ) → IsTrue (is_in_range r row col) → Lies r row col
in_range_lies r row col h =
    let t = four (nat_le r.row_min row) (nat_le row r.row_max) (nat_le r.col_min col) (nat_le col r.col_max) h in
    record { row_min = le_is r.row_min row t.0; row_max = le_is row r.row_max t.1; col_min = le_is r.col_min col t.2; col_max = le_is col r.col_max t.3 }

pub lies_in_range : (r : Range) (row col : ℕ) → Lies r row col → IsTrue (is_in_range r row col)
lies_in_range r row col l =
    join_four (nat_le r.row_min row) (nat_le row r.row_max) (nat_le r.col_min col) (nat_le col r.col_max)
    (is_le r.row_min row l.row_min) (is_le row r.row_max l.row_max) (is_le r.col_min col l.col_min) (is_le col r.col_max l.col_max)

first_tile : (r : Range) → IsTrue (has_tile r) → Lies r r.row_min r.col_min
first_tile r h =
    let t = both (nat_le r.row_min r.row_max) (nat_le r.col_min r.col_max) h in
    record { row_min = omega arith; row_max = le_is r.row_min r.row_max t.0; col_min = omega arith; col_max = le_is r.col_min r.col_max t.1 }

some_tile : (r : Range) (row col : ℕ) → Lies r row col → IsTrue (has_tile r)
some_tile r row col l =
    let a = l.row_min in let b = l.row_max in let c = l.col_min in let d = l.col_max in
    join (nat_le r.row_min r.row_max) (nat_le r.col_min r.col_max) (is_le r.row_min r.row_max (omega arith)) (is_le r.col_min r.col_max (omega arith))

-- BOUNDS

in_both : (o : Option Range) (tiles : Range) → IsTrue (meets_some o tiles) → (row : ℕ) × (col : ℕ) × IsTrue (is_in_range tiles row col) × IsTrue (is_in_some_range o row col)
in_both None tiles h = absurd (cc)
in_both (Some r) tiles h =
    let l = first_tile (record { row_min = max r.row_min tiles.row_min; row_max = min r.row_max tiles.row_max; col_min = max r.col_min tiles.col_min; col_max = min r.col_max tiles.col_max }) h in
    let b = l.row_max in let d = l.col_max in (
      max r.row_min tiles.row_min,
      max r.col_min tiles.col_min,
      lies_in_range tiles (max r.row_min tiles.row_min) (max r.col_min tiles.col_min) (record { row_min = omega arith; row_max = omega arith; col_min = omega arith; col_max = omega arith }),
      lies_in_range r (max r.row_min tiles.row_min) (max r.col_min tiles.col_min) (record { row_min = omega arith; row_max = omega arith; col_min = omega arith; col_max = omega arith }),
    )

meets_at : (o : Option Range) (tiles : Range) (row col : ℕ) → IsTrue (is_in_range tiles row col) → IsTrue (is_in_some_range o row col) → IsTrue (meets_some o tiles)
meets_at None tiles row col h k = absurd (cc)
meets_at (Some r) tiles row col h k =
    let a = in_range_lies tiles row col h in
    let b = in_range_lies r row col k in
    let a1 = a.row_min in let a2 = a.row_max in let a3 = a.col_min in let a4 = a.col_max in
    let b1 = b.row_min in let b2 = b.row_max in let b3 = b.col_min in let b4 = b.col_max in
    some_tile (record { row_min = max r.row_min tiles.row_min; row_max = min r.row_max tiles.row_max; col_min = max r.col_min tiles.col_min; col_max = min r.col_max tiles.col_max }) row col
    (record { row_min = omega arith; row_max = omega arith; col_min = omega arith; col_max = omega arith })

in_bounds : (bounds : Option Box9) (m : Matrix) (tiles : Range) → IsTrue (meets_bounds bounds m tiles) → (row : ℕ) × (col : ℕ) × IsTrue (is_in_range tiles row col) × IsTrue (is_in_bounds bounds m row col)
in_bounds None m tiles h = (tiles.row_min, tiles.col_min, lies_in_range tiles tiles.row_min tiles.col_min (first_tile tiles h), refl)
in_bounds (Some b) m tiles h = in_both (range_of m b) tiles h

bounds_at : (bounds : Option Box9) (m : Matrix) (tiles : Range) (row col : ℕ) → IsTrue (is_in_range tiles row col) → IsTrue (is_in_bounds bounds m row col) → IsTrue (meets_bounds bounds m tiles)
bounds_at None m tiles row col h k = some_tile tiles row col (in_range_lies tiles row col h)
bounds_at (Some b) m tiles row col h k = meets_at (range_of m b) tiles row col h k

-- COVERS

hits_covers : (cover : Cover) (m : Matrix) (block : Block) → IsTrue (hits cover m block) → CoversSome cover m block
hits_covers cover m block h =
    let t = five (cover.layer == block.theme.layer) (cover.grid == block.grid) (is_in_zoom cover block.z) (meets_bounds cover.bounds m block.tiles) (admits cover.filter block.theme) h in
    let p = in_bounds cover.bounds m block.tiles t.3 in
    record {
      row = p.0;
      col = p.1;
      in_block = p.2;
      covered = join_five (cover.layer == block.theme.layer) (cover.grid == block.grid) (is_in_zoom cover block.z) (is_in_bounds cover.bounds m p.0 p.1) (admits cover.filter block.theme) t.0 t.1 t.2 p.3 t.4;
    }

covers_hits : (cover : Cover) (m : Matrix) (block : Block) → CoversSome cover m block → IsTrue (hits cover m block)
covers_hits cover m block s =
    let t = five (cover.layer == block.theme.layer) (cover.grid == block.grid) (is_in_zoom cover block.z) (is_in_bounds cover.bounds m s.row s.col) (admits cover.filter block.theme) s.covered in
    join_five (cover.layer == block.theme.layer) (cover.grid == block.grid) (is_in_zoom cover block.z) (meets_bounds cover.bounds m block.tiles) (admits cover.filter block.theme)
    t.0 t.1 t.2 (bounds_at cover.bounds m block.tiles s.row s.col s.in_block t.3) t.4

pub hits_is : (cover : Cover) (m : Matrix) (block : Block) → IsTrue (hits cover m block) ↔ CoversSome cover m block
hits_is cover m block = (hits_covers cover m block, covers_hits cover m block)
