use Rattle.look_words.proofs.Seeing.{holds_so}
use Rattle.look_words.proofs.looking.seen_on.Goals as goal

pub returns-in-Ok-clause-holds : goal.returns-in-Ok-clause-holds
returns-in-Ok-clause-holds g c = holds_so _ _ _ _ _ _ _ _ c.requires.valid c.laws_of_replays.ensures.opens c.in-Ok.ensures.quiet c.in-Ok.ensures.replayed
