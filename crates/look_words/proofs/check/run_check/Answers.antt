use Rattle.look_words.proofs.Complete.{completed}
use Rattle.look_words.proofs.check.run_check.Goals as goal

pub returns-clause-complete : goal.returns-clause-complete
returns-clause-complete g c = completed _ _ _ c.check_asked.ensures.tells
