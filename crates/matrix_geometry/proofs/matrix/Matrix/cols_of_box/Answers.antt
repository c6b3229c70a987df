use Rattle.std.proofs.Common.{◌∙◌, rules}
use Rattle.matrix_geometry.proofs.Floors.{away_seen, cut_same, difference_seen, greatest_col_is, least_col_is}
use Rattle.matrix_geometry.proofs.matrix.Matrix.cols_of_box.Goals as goal

pub returns : goal.returns
returns c =
    c.cut.ensures
    ∙ cut_same _ _ _ _ _
    (away_seen c.tiles_away.result c.distance-to_left.result _ _ _ _ _ (search rules) (search rules) c.tiles_away.ensures (difference_seen c.distance-to_left.result c.args.b.now.min_x c.args.self.now.left c.distance-to_left.ensures.value c.requires.reachable.min_x c.requires.limits.left) (least_col_is c.args.self.now c.args.b.now c.requires.limits))
    (away_seen c.tiles_away-2.result c.distance-to_right.result _ _ _ _ _ (search rules) (search rules) c.tiles_away-2.ensures (difference_seen c.distance-to_right.result c.args.b.now.max_x c.args.self.now.left c.distance-to_right.ensures.value c.requires.reachable.max_x c.requires.limits.left) (greatest_col_is c.args.self.now c.args.b.now c.requires.limits))
