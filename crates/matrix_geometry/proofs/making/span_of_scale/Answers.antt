use Rattle.std.proofs.Common.{rules, ◌^◌, ◌∙◌, ap}
use Rattle.std.specs.Prelude.{FitsSigned}
use Rattle.std.specs.Int.{w128}
use Rattle.std.proofs.lemmas.Int.{to_z-of_z}
use Rattle.exact_ratio.specs.Values.{Scaled}
use Rattle.matrix_geometry.proofs.Parts.{span_is}
use Rattle.matrix_geometry.proofs.making.span_of_scale.Goals as goal

pub returns-clause-value : goal.returns-clause-value
returns-clause-value c =
    let scale_fits : FitsSigned w128 c.scale.inside.units = search rules in
    let meters_fits : FitsSigned w128 c.meters.inside.units = search rules in
    span_is c.args.scale.now c.args.meters.now c.span_of_parts.result _ _ _ _ c.if-not-is_positive.ensures c.if-not-is_positive-2.ensures c.span_of_parts.ensures.value
    (to_z-of_z w128 c.scale.inside.units scale_fits ∙ ap (λ (x : Scaled). x.units) c.scale.view_is)
    (to_z-of_z w128 c.meters.inside.units meters_fits ∙ ap (λ (x : Scaled). x.units) c.meters.view_is)
    (c.power_of_ten.ensures.value ∙ ap (λ (x : Scaled). 10 ^ x.places) c.scale.view_is)
    (c.power_of_ten-2.ensures.value ∙ ap (λ (x : Scaled). 10 ^ x.places) c.meters.view_is)
