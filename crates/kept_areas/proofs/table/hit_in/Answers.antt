use Rattle.std.proofs.Common.{arith, ◌-◌}
use Rattle.kept_areas.proofs.Numbers.{number_there}
use Rattle.kept_areas.proofs.table.hit_in.Goals as goal

pub returns-then-hits-clause-kept : goal.returns-then-hits-clause-kept
returns-then-hits-clause-kept c = let some = c.looking-test.true in let within = c.looking.invariant.0 in number_there c.args.spots.now (c.looking.at - 1) _ (omega arith)
