use Rattle.std.proofs.Common.{◌≡◌, ◌*◌, ◌^◌, ap, refl, arith, rules}
use Rattle.std.specs.Prelude.{FitsSigned}
use Rattle.std.specs.Int.{w64, w128}
use Rattle.std.proofs.lemmas.Int.{to_z-of_z}
use Rattle.exact_ratio.specs.Values.{Fraction}
use Rattle.matrix_geometry.proofs.Products.{seen_of_size}
use Rattle.http_source.proofs.Numerators.{denominator, text_of}
use Rattle.http_source.proofs.edges.edge_text.Goals as goal

pub returns : goal.returns
returns c =
    let n_is : c.span.inside.n ≡ c.args.span.now.n = ap (λ (f : Fraction). f.n) c.span.view_is in
    let d_is : c.span.inside.d ≡ c.args.span.now.d = ap (λ (f : Fraction). f.d) c.span.view_is in
    let n_fits : FitsSigned w128 c.span.inside.n = search rules in
    let d_fits : FitsSigned w128 c.span.inside.d = search rules in
    let seen = seen_of_size c.numerator-n.result (2 * 10 ^ 36) c.numerator-n.ensures.fits (omega arith) in
    let corner = seen_of_size c.args.corner (10 ^ 17) c.requires.corner (omega arith) in
    text_of c.decimal_text.result _ _ _
    (rw (seen, c.numerator-n.ensures.value, c.from.ensures, to_z-of_z w64 c.args.corner c.ranges.corner, corner, to_z-of_z w128 c.span.inside.d d_fits, to_z-of_z w128 c.args.pixels c.ranges.pixels, to_z-of_z w128 c.span.inside.n n_fits, n_is, d_is) refl)
    (rw (c.unsigned_abs.ensures.value, to_z-of_z w128 c.span.inside.d d_fits, d_is) (denominator c.args.span.now.d c.requires.d_positive))
    c.decimal_text.ensures
