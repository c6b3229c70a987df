-- The edges of a tile (OGC 07-057r7, section 6.1), and the tiles of a box, in exact fractions. The tiles of a box are found
-- after the standard's annex H; that eps is taken exactly, its signs and the cuts to the matrix are this project's own.
use Rattle.std.specs.Prelude.{ℕ, ◌+◌, ◌-◌, ◌^◌, ◌≤ℤ◌, ℤ, pos, unsigned_abs, int_lt, if◌then◌else◌, Option, Some, None}
use Rattle.std.specs.Int.{int_min, int_max}
use Rattle.exact_ratio.specs.Values.{Fraction}
use Rattle.exact_ratio.specs.Fractions.{whole, ◌+ℚ◌, ◌-ℚ◌, ◌*ℚ◌, ◌/ℚ◌, floor_of, lowest_terms}
use Rattle.matrix_geometry.specs.declared.boxes.Box9.{Box9}
use Rattle.matrix_geometry.specs.declared.boxes.Range.{Range}
use Rattle.matrix_geometry.specs.declared.boxes.TileBox.{TileBox}
use Rattle.matrix_geometry.specs.declared.matrix.Matrix.{Matrix}

-- so many billionths of a unit
abbrev pub billionths : ℤ → Fraction
billionths n = record { n = n; d = pos (10 ^ 9) }

-- the width and the height of a tile, in units
abbrev pub tile_span_x : Matrix → Fraction
tile_span_x m = whole (pos m.tile_w) *ℚ m.span

abbrev pub tile_span_y : Matrix → Fraction
tile_span_y m = whole (pos m.tile_h) *ℚ m.span

-- THE EDGES OF A TILE

-- where the column begins, and where the row begins; its end is where the next one begins
abbrev pub left_edge : Matrix → ℕ → Fraction
left_edge m col = billionths m.left +ℚ (whole (pos col) *ℚ tile_span_x m)

abbrev pub upper_edge : Matrix → ℕ → Fraction
upper_edge m row = billionths m.top -ℚ (whole (pos row) *ℚ tile_span_y m)

unfoldable pub box_of : Matrix → ℕ → ℕ → TileBox
box_of m row col =
    record {
      left = lowest_terms (left_edge m col);
      right = lowest_terms (left_edge m (col + 1));
      upper = lowest_terms (upper_edge m row);
      lower = lowest_terms (upper_edge m (row + 1));
    }

-- THE TILES OF A BOX

-- a millionth of a tile
abbrev pub eps : Fraction
eps = record { n = pos 1; d = pos (10 ^ 6) }

-- the four floors
unfoldable pub least_col : Matrix → Box9 → ℤ
least_col m b = floor_of (((billionths b.min_x -ℚ billionths m.left) /ℚ tile_span_x m) +ℚ eps)

unfoldable pub greatest_col : Matrix → Box9 → ℤ
greatest_col m b = floor_of (((billionths b.max_x -ℚ billionths m.left) /ℚ tile_span_x m) -ℚ eps)

unfoldable pub least_row : Matrix → Box9 → ℤ
least_row m b = floor_of (((billionths m.top -ℚ billionths b.max_y) /ℚ tile_span_y m) +ℚ eps)

unfoldable pub greatest_row : Matrix → Box9 → ℤ
greatest_row m b = floor_of (((billionths m.top -ℚ billionths b.min_y) /ℚ tile_span_y m) -ℚ eps)

-- The first and the last column of so many, or row: a least value below 0 becomes 0, and a greatest one past the last
-- becomes the last one. None where the least exceeds the greatest.
abbrev pub cut_to : ℤ → ℤ → ℕ → Option (ℕ × ℕ)
cut_to least greatest count =
    let first = int_max (pos 0) least in
    let last = int_min (pos (count - 1)) greatest in
    if int_lt last first then None else Some (unsigned_abs first, unsigned_abs last)

abbrev pub range_between : Option (ℕ × ℕ) → Option (ℕ × ℕ) → Option Range
range_between None cols = None
range_between (Some rows) None = None
range_between (Some rows) (Some cols) =
    Some (record { row_min = rows.0; row_max = rows.1; col_min = cols.0; col_max = cols.1 })

abbrev pub rows_of : Matrix → Box9 → Option (ℕ × ℕ)
rows_of m b = cut_to (least_row m b) (greatest_row m b) m.rows

abbrev pub cols_of : Matrix → Box9 → Option (ℕ × ℕ)
cols_of m b = cut_to (least_col m b) (greatest_col m b) m.cols

-- the tiles of a box, none where they have no row or no column
unfoldable pub range_of : Matrix → Box9 → Option Range
range_of m b = range_between (rows_of m b) (cols_of m b)

-- a tile of the matrix lies in the box: its row and column are between the floors
pub record IsTileOfBox (m : Matrix) (b : Box9) (row col : ℕ) : Type 0 where
  pub row_min : least_row m b ≤ℤ pos row
  pub row_max : pos row ≤ℤ greatest_row m b
  pub col_min : least_col m b ≤ℤ pos col
  pub col_max : pos col ≤ℤ greatest_col m b
