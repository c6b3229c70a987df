use Rattle.command_setup.proofs.Fitting.{may_be}
use Rattle.link_words.proofs.link.do_word.Goals as goal

pub done_under-requires-clause-fit : goal.done_under-requires-clause-fit
done_under-requires-clause-fit g c = c.requires _ (may_be _ _ c.in-Ok.ensures.configures)
