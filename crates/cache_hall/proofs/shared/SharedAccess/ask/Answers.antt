use Rattle.cache_hall.proofs.Repeating.{true_hit}
use Rattle.cache_hall.proofs.shared.SharedAccess.ask.Goals as goal

pub returns-clause-truth : goal.returns-clause-truth
returns-clause-truth g c = true_hit _ _ _ _ _ c.ask_until.ensures.waits
