use Rattle.std.proofs.Common.{◌∙◌, rules}
use Rattle.matrix_geometry.proofs.Floors.{away_seen, cut_same, difference_seen, greatest_row_is, least_row_is}
use Rattle.matrix_geometry.proofs.matrix.Matrix.rows_of_box.Goals as goal

pub returns : goal.returns
returns c =
    c.cut.ensures
    ∙ cut_same _ _ _ _ _
    (away_seen c.tiles_away.result c.distance-to_top.result _ _ _ _ _ (search rules) (search rules) c.tiles_away.ensures (difference_seen c.distance-to_top.result c.args.self.now.top c.args.b.now.max_y c.distance-to_top.ensures.value c.requires.limits.top c.requires.reachable.max_y) (least_row_is c.args.self.now c.args.b.now c.requires.limits))
    (away_seen c.tiles_away-2.result c.distance-to_bottom.result _ _ _ _ _ (search rules) (search rules) c.tiles_away-2.ensures (difference_seen c.distance-to_bottom.result c.args.self.now.top c.args.b.now.min_y c.distance-to_bottom.ensures.value c.requires.limits.top c.requires.reachable.min_y) (greatest_row_is c.args.self.now c.args.b.now c.requires.limits))
