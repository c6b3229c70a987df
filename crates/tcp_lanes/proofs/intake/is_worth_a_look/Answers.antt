use Rattle.std.proofs.Common.{arith}
use Rattle.tcp_lanes.proofs.Searches.{none_needed, none_headless}
use Rattle.tcp_lanes.proofs.intake.is_worth_a_look.Goals as goal

pub returns-then-needed-held : goal.returns-then-needed-held
returns-then-needed-held c = λ _ is. none_needed c.args.held.now c.args.searched c.args.needed c.if-needed-held.true is

pub returns-else-spent-lt-LOOKING : goal.returns-else-spent-lt-LOOKING
returns-else-spent-lt-LOOKING c =
    λ _ is. none_headless c.args.held.now c.args.searched c.args.needed (omega (arith, c.if-needed-gt0.false)) (c.may_end_head.ensures c.if-may_end_head.false) is
