use Rattle.composite_tests.proofs.Resting.{composes_ready}
use Rattle.composite_tests.proofs.plain_faults.composed_at.Goals as goal

pub returns : goal.returns
returns c = composes_ready _ _ _ _ _ _ _ c.compose_plain.ensures.composes c.requires.ready
