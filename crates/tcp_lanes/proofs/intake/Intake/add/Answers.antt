use Rattle.tcp_lanes.proofs.Searches.{added_kept}
use Rattle.tcp_lanes.proofs.intake.Intake.add.Goals as goal

pub invariant_of-self : goal.invariant_of-self
invariant_of-self c = added_kept _ _ _ _ _ _ _ c.extend_from_slice.ensures.items c.self.invariant
