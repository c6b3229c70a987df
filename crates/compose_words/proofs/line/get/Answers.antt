use Rattle.compose_words.proofs.Leaving.{source_stopped}
use Rattle.compose_words.proofs.line.get.Goals as goal

pub returns-in-Err-SourceFault-clause-answers : goal.returns-in-Err-SourceFault-clause-answers
returns-in-Err-SourceFault-clause-answers g c = (source_stopped _ _ _ _ _ _ c.in-Err-SourceFault.field-0-is c.in-Err-SourceFault.ensures.composes, c.in-Err-SourceFault.ensures.cause c.in-Err-SourceFault.field-0-is)
