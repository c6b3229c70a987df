use Rattle.compose_words.proofs.Leaving.{cut_goes}
use Rattle.compose_words.proofs.line.cut.Goals as goal

pub returns-clause-goes : goal.returns-clause-goes
returns-clause-goes c = cut_goes _ _ _ c.cut.result c.cut.ensures.cuts c.cut.ensures.err c.requires.rest
