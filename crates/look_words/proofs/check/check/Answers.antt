use Rattle.std.proofs.Common.{sym, ◌∙◌}
use Rattle.look_words.proofs.Seeing.{untouched}
use Rattle.look_words.proofs.Telling.{never_checked, never_usage}
use Rattle.look_words.proofs.check.check.Goals as goal

pub returns-in-Ok-clause-never : goal.returns-in-Ok-clause-never
returns-in-Ok-clause-never g c = never_checked _ _ _ _ _ _ c.check_disk.ensures.checks

pub returns-in-Err-clause-never : goal.returns-in-Err-clause-never
returns-in-Err-clause-never g c = λ is. never_usage c.in-Err.refusal (sym c.status_of_refusal.ensures ∙ is)

pub returns-in-Err-clause-unchanged : goal.returns-in-Err-clause-unchanged
returns-in-Err-clause-unchanged g c = untouched _ _
