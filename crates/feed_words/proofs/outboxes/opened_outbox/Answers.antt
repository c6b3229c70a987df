use Rattle.feed_words.proofs.outboxes.opened_outbox.Goals as goal

pub open-requires-clause-ours : goal.open-requires-clause-ours
open-requires-clause-ours g c = rw c.new.ensures c.requires.ours
