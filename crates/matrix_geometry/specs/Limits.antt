-- the limits of a tile matrix
use Rattle.std.specs.Prelude.{◌≤◌, ◌*◌, ◌^◌, ◌<ℤ◌, pos, unsigned_abs}
use Rattle.matrix_geometry.specs.declared.boxes.Box9.{Box9}
use Rattle.matrix_geometry.specs.declared.matrix.Matrix.{Matrix}

-- The side of a pixel is positive, a fraction of small numbers; the corner is at most 10^8 units away; a tile has 1 to 512
-- pixels each way, and the matrix 1 to 2^31 tiles each way, within 10^9 units.
pub record IsWithinLimits (m : Matrix) : Type 0 where
  pub span_positive : pos 0 <ℤ m.span.n
  pub span_d_positive : pos 0 <ℤ m.span.d
  pub span_n : unsigned_abs m.span.n ≤ 10 ^ 20
  pub span_d : unsigned_abs m.span.d ≤ 10 ^ 18
  pub left : unsigned_abs m.left ≤ 10 ^ 17
  pub top : unsigned_abs m.top ≤ 10 ^ 17
  pub tile_w : 1 ≤ m.tile_w
  pub tile_w_most : m.tile_w ≤ 512
  pub tile_h : 1 ≤ m.tile_h
  pub tile_h_most : m.tile_h ≤ 512
  pub cols : 1 ≤ m.cols
  pub cols_most : m.cols ≤ 2 ^ 31
  pub rows : 1 ≤ m.rows
  pub rows_most : m.rows ≤ 2 ^ 31
  pub wide : m.cols * m.tile_w * unsigned_abs m.span.n ≤ 10 ^ 9 * unsigned_abs m.span.d
  pub high : m.rows * m.tile_h * unsigned_abs m.span.n ≤ 10 ^ 9 * unsigned_abs m.span.d

-- each coordinate of the box is at most 10^8 units in size
pub record IsReachable (b : Box9) : Type 0 where
  pub min_x : unsigned_abs b.min_x ≤ 10 ^ 17
  pub min_y : unsigned_abs b.min_y ≤ 10 ^ 17
  pub max_x : unsigned_abs b.max_x ≤ 10 ^ 17
  pub max_y : unsigned_abs b.max_y ≤ 10 ^ 17
