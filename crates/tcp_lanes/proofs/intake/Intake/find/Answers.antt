use Rattle.tcp_lanes.proofs.Searches.{looked_searches}
use Rattle.tcp_lanes.proofs.intake.Intake.find.Goals as goal

pub returns-then-is_worth_a_look : goal.returns-then-is_worth_a_look
returns-then-is_worth_a_look c = looked_searches _ _ _ c.look.ensures
