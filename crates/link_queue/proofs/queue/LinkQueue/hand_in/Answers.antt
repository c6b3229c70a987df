use Rattle.std.proofs.Common.{◌<◌, sym, subst}
use Rattle.link_queue.proofs.Balance.{puts}
use Rattle.link_queue.proofs.queue.LinkQueue.hand_in.Goals as goal

pub push_as-requires-clause-rule : goal.push_as-requires-clause-rule
push_as-requires-clause-rule g c = (puts _ _ _ _ (subst (λ v. 0 < v.parts) (sym c.handing.invariant.hand.knows) c.requires.parts), λ links views b at. tt)
