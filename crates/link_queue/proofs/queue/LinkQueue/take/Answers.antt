use Rattle.std.proofs.Common.{◌<◌, sym, subst}
use Rattle.link_queue.proofs.Balance.{learns, takes}
use Rattle.link_queue.proofs.queue.LinkQueue.take.Goals as goal

pub pop_as-requires-clause-rule : goal.pop_as-requires-clause-rule
pop_as-requires-clause-rule g c = (takes _ _ (subst (λ v. 0 < v.parts) (sym c.taking.invariant.knows) c.requires.parts), learns _ _)
