use Rattle.std.proofs.Common.{◌≡◌, ap, refl, rules}
use Rattle.std.specs.Prelude.{FitsSigned}
use Rattle.std.specs.Int.{w128}
use Rattle.std.proofs.lemmas.Int.{to_z-of_z}
use Rattle.exact_ratio.specs.Values.{Fraction}
use Rattle.matrix_geometry.specs.Away.{tiles_away}
use Rattle.matrix_geometry.proofs.geometry.tiles_away.Goals as goal

pub returns : goal.returns
unfolding tiles_away
returns c =
    let d_is : c.span.inside.d ≡ c.args.span.now.d = ap (λ (f : Fraction). f.d) c.span.view_is in
    let d_fits : FitsSigned w128 c.span.inside.d = search rules in
    let tile_fits : FitsSigned w128 c.tile_numerator.result = search rules in
    let fits : FitsSigned w128 c.floor_of_parts.result = search rules in
    rw (to_z-of_z w128 c.floor_of_parts.result fits, c.floor_of_parts.ensures, to_z-of_z w128 c.args.distance c.ranges.distance, to_z-of_z w128 c.args.more c.ranges.more, to_z-of_z w128 c.span.inside.d d_fits, to_z-of_z w128 c.tile_numerator.result tile_fits, c.tile_numerator.ensures.value, d_is)
    refl
