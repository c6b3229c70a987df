use Rattle.std.proofs.Common.{◌≡◌, ◌*◌, ◌*ℤ◌, ◌^◌, pos, ap, refl, arith, rules, unsigned_abs, ◌≤◌}
use Rattle.std.specs.Prelude.{FitsSigned}
use Rattle.std.specs.Int.{w128, w64}
use Rattle.std.proofs.lemmas.Int.{to_z-of_z}
use Rattle.exact_ratio.specs.Values.{Fraction}
use Rattle.matrix_geometry.proofs.Products.{abs-mul-le, seen_of_size}
use Rattle.matrix_geometry.proofs.geometry.edge.Goals as goal

pub returns : goal.returns
returns c =
    let n_is : c.span.inside.n ≡ c.args.span.now.n = ap (λ (f : Fraction). f.n) c.span.view_is in
    let d_is : c.span.inside.d ≡ c.args.span.now.d = ap (λ (f : Fraction). f.d) c.span.view_is in
    let n_fits : FitsSigned w128 c.span.inside.n = search rules in
    let d_fits : FitsSigned w128 c.span.inside.d = search rules in
    let seen = seen_of_size c.edge_numerator-n.result (2 * 10 ^ 36) c.edge_numerator-n.ensures.small (omega arith) in
    let corner = seen_of_size c.args.corner (10 ^ 17) c.requires.corner (omega arith) in
    let d_small : unsigned_abs c.span.inside.d ≤ 10 ^ 18 = rw d_is c.requires.d in
    let denominator = seen_of_size (pos (10 ^ 9) *ℤ c.span.inside.d) (10 ^ 27) (abs-mul-le (pos (10 ^ 9)) c.span.inside.d (10 ^ 9) (10 ^ 18) (omega arith) d_small) (omega arith) in
    rw (c.lowest.ensures.lowest, seen, c.edge_numerator-n.ensures.value, c.from.ensures, to_z-of_z w64 c.args.corner c.ranges.corner, corner, to_z-of_z w128 c.span.inside.d d_fits, to_z-of_z w128 c.args.pixels c.ranges.pixels, to_z-of_z w128 c.span.inside.n n_fits, denominator, n_is, d_is)
    refl
