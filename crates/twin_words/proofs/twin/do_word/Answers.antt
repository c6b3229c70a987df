use Rattle.command_setup.proofs.Fitting.{may_be}
use Rattle.twin_words.proofs.Ending.{never_usage}
use Rattle.twin_words.proofs.twin.do_word.Goals as goal

pub done_under-requires-clause-fit : goal.done_under-requires-clause-fit
done_under-requires-clause-fit g c = c.requires _ (may_be _ _ c.in-Ok.ensures.configures)

pub returns-in-Ok-clause-never : goal.returns-in-Ok-clause-never
returns-in-Ok-clause-never g c is = never_usage _ _ _ _ _ _ c.done_under.ensures.ends is
