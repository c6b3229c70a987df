use Rattle.link_queue.proofs.Balance.{merges}
use Rattle.link_queue.proofs.queue.LinkQueue.take_over.Goals as goal

pub absorb-requires-clause-rule : goal.absorb-requires-clause-rule
absorb-requires-clause-rule g c = merges _ _ _ _ c.requires.parts
