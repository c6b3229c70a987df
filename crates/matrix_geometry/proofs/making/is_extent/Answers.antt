use Rattle.std.proofs.Common.{rules, ◌≡◌, ap, arith, ◌≤◌, ◌^◌}
use Rattle.std.specs.Prelude.{FitsSigned}
use Rattle.std.specs.Int.{w128}
use Rattle.std.proofs.lemmas.Int.{to_z-of_z}
use Rattle.exact_ratio.specs.Values.{Fraction}
use Rattle.matrix_geometry.proofs.Made.{count_is, extent_small, fine_is, side_is}
use Rattle.matrix_geometry.proofs.making.is_extent.Goals as goal

pub overflow_mul-result : goal.overflow_mul-result
overflow_mul-result c =
    let n_is : c.span.inside.n ≡ c.args.span.now.n = ap (λ (f : Fraction). f.n) c.span.view_is in
    let n_fits : FitsSigned w128 c.span.inside.n = search rules in
    let n_small : c.unsigned_abs.result ≤ 10 ^ 20 = rw (c.unsigned_abs.ensures.value, to_z-of_z w128 c.span.inside.n n_fits, n_is) (fine_is c.args.span.now c.requires.fine).0 in
    let tiles : c.from.result ≤ 2 ^ 31 = rw c.from.ensures (count_is c.args.tiles c.requires.tiles).1 in
    let side : c.from-2.result ≤ 512 = rw c.from-2.ensures (side_is c.args.side c.requires.side).1 in
    omega (arith, extent_small c.from.result c.from-2.result c.unsigned_abs.result tiles side n_small)
