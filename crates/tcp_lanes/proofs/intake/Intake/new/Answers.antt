use Rattle.std.proofs.Common.{arith}
use Rattle.tcp_lanes.proofs.Searches.{none_at_first}
use Rattle.tcp_lanes.proofs.intake.Intake.new.Goals as goal

pub invariant_of-result : goal.invariant_of-result
invariant_of-result c = (omega arith, λ _. none_at_first _)
