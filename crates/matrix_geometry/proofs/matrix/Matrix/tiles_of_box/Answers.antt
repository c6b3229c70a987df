use Rattle.matrix_geometry.proofs.Ranges.{no_cols, no_rows, range_inside, range_of_tile, some_range, tile_of_range}
use Rattle.matrix_geometry.proofs.matrix.Matrix.tiles_of_box.Goals as goal

pub returns-in_err-row_min-clause-range : goal.returns-in_err-row_min-clause-range
returns-in_err-row_min-clause-range c =
    rw c.from_residual.ensures (no_rows c.args.self.now c.args.b.now c.in_err-row_min.ensures)

pub returns-in_err-col_min-clause-range : goal.returns-in_err-col_min-clause-range
returns-in_err-col_min-clause-range c =
    rw c.from_residual-in_err-col_min.ensures
    (no_cols c.args.self.now c.args.b.now (c.in_ok-row_min.row_min, c.in_ok-row_min.row_max) c.in_ok-row_min.ensures c.in_err-col_min.ensures)

pub returns-clause-range : goal.returns-clause-range
returns-clause-range c =
    some_range c.args.self.now c.args.b.now (c.in_ok-row_min.row_min, c.in_ok-row_min.row_max) (c.in_ok-col_min.col_min, c.in_ok-col_min.col_max) c.in_ok-row_min.ensures c.in_ok-col_min.ensures

pub returns-clause-tiles : goal.returns-clause-tiles
returns-clause-tiles c = λ row col in_rows in_cols. (
  tile_of_range c.args.self.now c.args.b.now (c.in_ok-row_min.row_min, c.in_ok-row_min.row_max) (c.in_ok-col_min.col_min, c.in_ok-col_min.col_max) row col c.in_ok-row_min.ensures c.in_ok-col_min.ensures in_rows in_cols,
  range_of_tile c.args.self.now c.args.b.now (c.in_ok-row_min.row_min, c.in_ok-row_min.row_max) (c.in_ok-col_min.col_min, c.in_ok-col_min.col_max) row col c.in_ok-row_min.ensures c.in_ok-col_min.ensures in_rows in_cols,
)

pub returns-clause-inside : goal.returns-clause-inside
returns-clause-inside c =
    range_inside c.args.self.now c.args.b.now (c.in_ok-row_min.row_min, c.in_ok-row_min.row_max) (c.in_ok-col_min.col_min, c.in_ok-col_min.col_max) c.in_ok-row_min.ensures c.in_ok-col_min.ensures c.requires.limits
