use Rattle.disk_words.proofs.Telling.{cuts_read}
use Rattle.disk_words.proofs.truncate_word.truncate.Goals as goal

pub returns-in-Ok-clause-truncates : goal.returns-in-Ok-clause-truncates
returns-in-Ok-clause-truncates g c = cuts_read _ _ _ _ _ _ _ c.in-Ok.cover c.in-Ok.ensures.reads c.cut_once.result c.cut_once.ensures.cuts
