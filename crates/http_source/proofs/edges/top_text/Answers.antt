use Rattle.std.proofs.Common.{◌^◌, ap, pos, ℤ, ◌*ℤ◌}
use Rattle.matrix_geometry.proofs.Edges.{seen_back, seen_pixels}
use Rattle.matrix_geometry.proofs.Products.{seen_64_of_size}
use Rattle.http_source.proofs.Numerators.{few_pixels, one, text_of, top_n}
use Rattle.http_source.proofs.edges.top_text.Goals as goal

pub returns : goal.returns
returns c =
    let m = c.args.matrix.now in
    let few = few_pixels c.args.y m.rows m.tile_h c.requires.within c.requires.limits.rows_most c.requires.limits.tile_h_most in
    text_of c.edge_text.result _ _ _
    (rw (c.from.ensures, seen_pixels c.args.y few, seen_back c.args.y few, seen_64_of_size m.top c.requires.limits.top) (top_n m.top c.args.y m.span.n m.span.d c.requires.limits.span_d_positive))
    (ap (λ (z : ℤ). pos (10 ^ 9) *ℤ z) (one m.span.d c.requires.limits.span_d_positive))
    c.edge_text.ensures
