use Rattle.std.proofs.Common.{◌*◌}
use Rattle.matrix_geometry.proofs.Edges.{few_pixels, left_is, pixels_within, seen_pixels}
use Rattle.matrix_geometry.proofs.Products.{seen_64_of_size}
use Rattle.matrix_geometry.proofs.matrix.Matrix.left_edge.Goals as goal

pub edge-requires-clause-extent : goal.edge-requires-clause-extent
edge-requires-clause-extent c =
    let m = c.args.self.now in
    let few = few_pixels c.args.col m.cols m.tile_w c.requires.col c.requires.limits.cols_most c.requires.limits.tile_w_most in
    rw (c.from-2.ensures, c.from.ensures, seen_pixels (c.args.col * m.tile_w) few)
    (pixels_within c.args.col m.cols m.tile_w _ _ c.requires.col c.requires.limits.wide)

pub returns : goal.returns
returns c =
    let m = c.args.self.now in
    let few = few_pixels c.args.col m.cols m.tile_w c.requires.col c.requires.limits.cols_most c.requires.limits.tile_w_most in
    rw (c.edge.ensures, c.from-2.ensures, c.from.ensures, seen_pixels (c.args.col * m.tile_w) few, seen_64_of_size m.left c.requires.limits.left)
    (left_is m.left c.args.col m.tile_w m.span.n m.span.d c.requires.limits.span_positive c.requires.limits.span_d_positive)
