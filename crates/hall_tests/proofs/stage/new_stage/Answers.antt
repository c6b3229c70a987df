use Rattle.std.proofs.Common.{rules}
use Rattle.hall_tests.proofs.stage.new_stage.Goals as goal

pub returns-clause-ready : goal.returns-clause-ready
returns-clause-ready g c = c.in_ok-runner.ensures.ready _ _ _ (search rules) c.in_ok-hall.ensures.own c.in_ok-hall.ensures.untold
