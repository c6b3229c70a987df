-- Metatiles in the terms of a matrix: which tiles a metatile has, which pixels are rendered for it, and where its
-- encoded tiles stand in its blob.
use Rattle.std.specs.Prelude.{ℕ, ◌≤◌, ◌<◌, ◌+◌, ◌-◌, ◌*◌, ◌/◌, min}
use Rattle.matrix_geometry.specs.declared.address.Address.{Address}
use Rattle.matrix_geometry.specs.declared.boxes.Range.{Range}
use Rattle.matrix_geometry.specs.declared.matrix.Matrix.{Matrix}
use Rattle.metatile_plan.specs.declared.metatile.Factors.{Factors}
use Rattle.metatile_plan.specs.declared.metatile.MetaKey.{MetaKey}
use Rattle.metatile_plan.specs.declared.windows.Window.{Window}

-- THE BLOCK

-- the metatile that holds a tile
abbrev pub meta_of : Factors → Address → MetaKey
meta_of f a = record { theme = a.theme; grid = a.grid; z = a.z; row = a.row / f.y; col = a.col / f.x }

-- the tiles of a metatile: its block, cut to the matrix
abbrev pub tiles_of : Factors → Matrix → MetaKey → Range
tiles_of f m k =
    record { row_min = k.row * f.y; row_max = min (k.row * f.y + f.y) m.rows - 1; col_min = k.col * f.x; col_max = min (k.col * f.x + f.x) m.cols - 1 }

-- the factors are within the limits, and a whole metatile with its gutter has few enough pixels
pub record IsPlan (f : Factors) (m : Matrix) : Type 0 where
  pub x : 1 ≤ f.x
  pub x_most : f.x ≤ 8
  pub y : 1 ≤ f.y
  pub y_most : f.y ≤ 8
  pub gutter_most : f.gutter ≤ 64
  pub small : (f.x * m.tile_w + 2 * f.gutter) * (f.y * m.tile_h + 2 * f.gutter) ≤ 4500000

-- some tile of the metatile lies in the matrix
pub record IsMetaIn (f : Factors) (m : Matrix) (k : MetaKey) : Type 0 where
  pub row : k.row * f.y < m.rows
  pub col : k.col * f.x < m.cols

-- THE WINDOW

-- the columns of pixels from `left` to before `right` of a matrix: those of the block with the gutter, cut to the matrix
abbrev pub left_of : Factors → Matrix → MetaKey → ℕ
left_of f m k = (tiles_of f m k).col_min * m.tile_w - f.gutter

abbrev pub right_of : Factors → Matrix → MetaKey → ℕ
right_of f m k = min (((tiles_of f m k).col_max + 1) * m.tile_w + f.gutter) (m.cols * m.tile_w)

-- and the rows of pixels
abbrev pub top_of : Factors → Matrix → MetaKey → ℕ
top_of f m k = (tiles_of f m k).row_min * m.tile_h - f.gutter

abbrev pub bottom_of : Factors → Matrix → MetaKey → ℕ
bottom_of f m k = min (((tiles_of f m k).row_max + 1) * m.tile_h + f.gutter) (m.rows * m.tile_h)

abbrev pub window_of : Factors → Matrix → MetaKey → Window
window_of f m k =
    record { meta = k; x = left_of f m k; y = top_of f m k; width = right_of f m k - left_of f m k; height = bottom_of f m k - top_of f m k }

-- WHERE A TILE LIES

-- the tile is in the range
pub record IsIn (r : Range) (row col : ℕ) : Type 0 where
  pub row_min : r.row_min ≤ row
  pub row_max : row ≤ r.row_max
  pub col_min : r.col_min ≤ col
  pub col_max : col ≤ r.col_max

-- the range has a tile, its tiles lie in the matrix, and they are no more than the factors say each way
pub record IsBlockOf (f : Factors) (m : Matrix) (r : Range) : Type 0 where
  pub rows : r.row_min ≤ r.row_max
  pub row_max : r.row_max < m.rows
  pub row_most : r.row_max < r.row_min + f.y
  pub cols : r.col_min ≤ r.col_max
  pub col_max : r.col_max < m.cols
  pub col_most : r.col_max < r.col_min + f.x

-- the window has all pixels of the tiles, lies within the matrix, and is small
pub record IsWindowOn (m : Matrix) (r : Range) (w : Window) : Type 0 where
  pub left : w.x ≤ r.col_min * m.tile_w
  pub right : (r.col_max + 1) * m.tile_w ≤ w.x + w.width
  pub top : w.y ≤ r.row_min * m.tile_h
  pub bottom : (r.row_max + 1) * m.tile_h ≤ w.y + w.height
  pub wide : w.x + w.width ≤ m.cols * m.tile_w
  pub high : w.y + w.height ≤ m.rows * m.tile_h
  pub width_most : w.width ≤ 4224
  pub height_most : w.height ≤ 4224
  pub small : w.width * w.height ≤ 4500000
