use Rattle.std.proofs.Common.{◌*◌}
use Rattle.matrix_geometry.proofs.Edges.{abs-zero-sub, few_pixels, pixels_within, seen_back, seen_pixels, upper_is}
use Rattle.matrix_geometry.proofs.Products.{seen_64_of_size}
use Rattle.matrix_geometry.proofs.matrix.Matrix.upper_edge.Goals as goal

pub edge-requires-clause-extent : goal.edge-requires-clause-extent
edge-requires-clause-extent c =
    let m = c.args.self.now in
    let few = few_pixels c.args.row m.rows m.tile_h c.requires.row c.requires.limits.rows_most c.requires.limits.tile_h_most in
    rw (c.from-2.ensures, c.from.ensures, seen_pixels (c.args.row * m.tile_h) few, seen_back (c.args.row * m.tile_h) few, abs-zero-sub (c.args.row * m.tile_h))
    (pixels_within c.args.row m.rows m.tile_h _ _ c.requires.row c.requires.limits.high)

pub returns : goal.returns
returns c =
    let m = c.args.self.now in
    let few = few_pixels c.args.row m.rows m.tile_h c.requires.row c.requires.limits.rows_most c.requires.limits.tile_h_most in
    rw (c.edge.ensures, c.from-2.ensures, c.from.ensures, seen_pixels (c.args.row * m.tile_h) few, seen_back (c.args.row * m.tile_h) few, seen_64_of_size m.top c.requires.limits.top)
    (upper_is m.top c.args.row m.tile_h m.span.n m.span.d c.requires.limits.span_positive c.requires.limits.span_d_positive)
