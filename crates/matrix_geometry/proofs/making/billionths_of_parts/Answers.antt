use Rattle.std.proofs.Common.{refl}
use Rattle.std.specs.Int.{w128}
use Rattle.std.proofs.lemmas.Int.{to_z-of_z}
use Rattle.matrix_geometry.proofs.Parts.{coordinate_part}
use Rattle.matrix_geometry.proofs.making.billionths_of_parts.Goals as goal

pub returns-clause-value : goal.returns-clause-value
returns-clause-value c =
    let part = coordinate_part c.args.units c.args.power c.requires.small c.requires.size in
    rw (to_z-of_z w128 c.args.units c.ranges.units, part.product, c.from.ensures, part.by_power, part.quotient, part.narrowed) refl

pub returns-clause-small : goal.returns-clause-small
returns-clause-small c =
    let part = coordinate_part c.args.units c.args.power c.requires.small c.requires.size in
    rw (to_z-of_z w128 c.args.units c.ranges.units, part.product, c.from.ensures, part.by_power, part.quotient, part.narrowed) part.small
