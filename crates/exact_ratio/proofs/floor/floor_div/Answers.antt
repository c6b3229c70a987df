use Rattle.std.proofs.Common.{rules}
use Rattle.std.specs.Prelude.{FitsSigned}
use Rattle.std.specs.Int.{w128}
use Rattle.std.proofs.lemmas.Int.{to_z-of_z}
use Rattle.exact_ratio.proofs.Floors.{floor_is}
use Rattle.exact_ratio.proofs.floor.floor_div.Goals as goal

pub returns-clause-floor : goal.returns-clause-floor
returns-clause-floor c =
    let fits : FitsSigned w128 c.div_euclid.result = search rules in
    rw (to_z-of_z w128 c.div_euclid.result fits, c.div_euclid.ensures, to_z-of_z w128 c.args.n c.ranges.n, to_z-of_z w128 c.args.d c.ranges.d) (floor_is c.args.n c.args.d c.requires)
