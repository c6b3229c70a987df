use Rattle.truncation_list.proofs.Freeing.{Freeing}
use Rattle.truncation_list.proofs.settling.free_outdone.Given as goal

abbrev pub invariant-freeing : goal.invariant-freeing
invariant-freeing l = Freeing l.fn.slots l.order l.slots l.i
