use Rattle.std.proofs.Common.{refl}
use Rattle.std.specs.Int.{w128}
use Rattle.std.proofs.lemmas.Int.{to_z-of_z}
use Rattle.matrix_geometry.proofs.Parts.{positive_pixels, scale_part}
use Rattle.matrix_geometry.proofs.making.span_of_parts.Goals as goal

pub returns-clause-value : goal.returns-clause-value
returns-clause-value c =
    let part = scale_part c.args.scale c.args.scale_power c.args.meters c.args.meters_power c.requires.scale_small c.requires.scale_power_small c.requires.meters_small c.requires.meters_power_small in
    rw (c.lowest.ensures.lowest, to_z-of_z w128 c.args.scale c.ranges.scale, to_z-of_z w128 c.args.meters c.ranges.meters, c.from.ensures, c.from-2.ensures, part.by_scale, part.by_meters, part.pixels, part.n, part.metric, part.d) refl

pub returns-clause-positive : goal.returns-clause-positive
returns-clause-positive c =
    let part = scale_part c.args.scale c.args.scale_power c.args.meters c.args.meters_power c.requires.scale_small c.requires.scale_power_small c.requires.meters_small c.requires.meters_power_small in
    c.lowest.ensures.stays_positive
    (rw (to_z-of_z w128 c.args.scale c.ranges.scale, c.from.ensures, part.by_meters, part.pixels, part.n)
    (positive_pixels c.args.scale c.args.meters_power c.requires.scale c.requires.meters_power))
