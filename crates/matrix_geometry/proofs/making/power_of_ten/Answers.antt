use Rattle.std.proofs.Common.{arith}
use Rattle.exact_ratio.proofs.Numbers.{tens_least}
use Rattle.matrix_geometry.proofs.making.power_of_ten.Goals as goal

pub returns-clause-positive : goal.returns-clause-positive
returns-clause-positive c = rw c.pow.ensures (tens_least 0 c.args.places (omega arith))

pub returns-clause-small : goal.returns-clause-small
returns-clause-small c = rw c.pow.ensures (tens_least c.args.places 15 c.requires)
