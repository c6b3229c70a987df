use Rattle.std.proofs.Common.{sym, ◌∙◌}
use Rattle.feed_words.proofs.Completing.{completed}
use Rattle.feed_words.proofs.word.run_feed.Goals as goal

pub returns-in-Some-clause-complete : goal.returns-in-Some-clause-complete
returns-in-Some-clause-complete g c = completed _ (record { input = _; output = _; cache = _; marks = _ }) _ _ c.in-Some.word _ (sym c.feed_word.ensures ∙ c.in-Some.is) c.do_word.ensures.tells
