use Rattle.std.proofs.Common.{pos, ◌<ℤ◌, arith}
use Rattle.std.specs.Int.{w128}
use Rattle.std.proofs.lemmas.Int.{ints, to_z-of_z}
use Rattle.exact_ratio.proofs.Refusals.{is_above_least, is_least, none_of_denominator, none_of_least, some_lowest}
use Rattle.exact_ratio.proofs.ratio.Ratio.new.Goals as goal

pub returns-then-d-lt1-clause-lowest : goal.returns-then-d-lt1-clause-lowest
returns-then-d-lt1-clause-lowest c =
    let below : c.args.d <ℤ pos 1 = grind (arith, ints, to_z-of_z w128 c.args.d c.ranges.d) in
    none_of_denominator c.args.n c.args.d below

pub returns-then-n-eqminus170141183460469231731687303715884105728-clause-lowest : goal.returns-then-n-eqminus170141183460469231731687303715884105728-clause-lowest
returns-then-n-eqminus170141183460469231731687303715884105728-clause-lowest c =
    none_of_least c.args.n c.args.d (is_least c.args.n c.ranges.n c.if-n-eqminus170141183460469231731687303715884105728.true)

pub returns-clause-lowest : goal.returns-clause-lowest
returns-clause-lowest c =
    let positive : pos 0 <ℤ c.args.d = grind (arith, ints, to_z-of_z w128 c.args.d c.ranges.d) in
    let above = is_above_least c.args.n c.ranges.n c.if-n-eqminus170141183460469231731687303715884105728.false in
    rw (c.lowest.ensures.lowest, to_z-of_z w128 c.args.n c.ranges.n, to_z-of_z w128 c.args.d c.ranges.d) (some_lowest c.args.n c.args.d positive above)
