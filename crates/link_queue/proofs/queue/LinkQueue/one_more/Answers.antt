use Rattle.link_queue.proofs.Balance.{forks}
use Rattle.link_queue.proofs.queue.LinkQueue.one_more.Goals as goal

pub another-requires-clause-rule : goal.another-requires-clause-rule
another-requires-clause-rule g c = forks _ _ c.requires.parts
