use Rattle.std.proofs.Common.{arith}
use Rattle.tcp_lanes.proofs.Searches.{none_at_first}
use Rattle.tcp_lanes.proofs.intake.Intake.let_go.Goals as goal

pub invariant_of-self : goal.invariant_of-self
invariant_of-self c = (omega arith, λ _. none_at_first _)
