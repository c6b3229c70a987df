use Rattle.std.proofs.Common.{refl}
use Rattle.look_words.proofs.Telling.{check_refused, checked}
use Rattle.look_words.proofs.check.check_disk.Goals as goal

pub returns-in-Ok-clause-checks : goal.returns-in-Ok-clause-checks
returns-in-Ok-clause-checks g c = checked _ _ _ _ _ _ _ _ c.in-Ok.ensures.holds _ c.tell.ensures

pub returns-in-Err-clause-checks : goal.returns-in-Err-clause-checks
returns-in-Err-clause-checks g c = rw c.status_of_opening.ensures (check_refused _ _ _ _ _ refl c.in-Err.fault c.in-Err.ensures.refused)
