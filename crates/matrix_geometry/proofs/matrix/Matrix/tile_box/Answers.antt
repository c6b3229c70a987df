use Rattle.matrix_geometry.proofs.Edges.{box_is}
use Rattle.matrix_geometry.proofs.matrix.Matrix.tile_box.Goals as goal

pub returns : goal.returns
returns c =
    box_is c.args.self.now c.args.row c.args.col _ _ _ _ _ _ _ _ c.from.ensures c.from-2.ensures c.from-3.ensures c.from-4.ensures c.left_edge.ensures c.left_edge-2.ensures c.upper_edge.ensures c.upper_edge-2.ensures
