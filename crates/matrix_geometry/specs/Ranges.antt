-- the tiles of a range
use Rattle.std.specs.Prelude.{ℕ, ◌<◌, ◌≤◌, ◌↔◌, IsTrue, ◌&&◌, Bool, false, nat_le, Option, Some, None}
use Rattle.matrix_geometry.specs.declared.boxes.Box9.{Box9}
use Rattle.matrix_geometry.specs.declared.boxes.Range.{Range}
use Rattle.matrix_geometry.specs.declared.matrix.Matrix.{Matrix}
use Rattle.matrix_geometry.specs.Geometry.{IsTileOfBox}

-- the row and the column are in the range
abbrev pub is_in_range : Range → ℕ → ℕ → Bool
is_in_range r row col = nat_le r.row_min row && nat_le row r.row_max && nat_le r.col_min col && nat_le col r.col_max

abbrev pub is_in_some_range : Option Range → ℕ → ℕ → Bool
is_in_some_range None row col = false
is_in_some_range (Some r) row col = is_in_range r row col

-- a range that has a tile, and has only tiles of the matrix
pub record IsRangeOf (m : Matrix) (r : Range) : Type 0 where
  pub rows : r.row_min ≤ r.row_max
  pub row_max : r.row_max < m.rows
  pub cols : r.col_min ≤ r.col_max
  pub col_max : r.col_max < m.cols

-- of the tiles of the matrix those in the range are those in the box
abbrev pub AreTilesOf : Matrix → Box9 → Option Range → Type 0
AreTilesOf m b range =
    (row col : ℕ) → row < m.rows → col < m.cols → IsTrue (is_in_some_range range row col) ↔ IsTileOfBox m b row col
