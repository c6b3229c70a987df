use Rattle.feed_words.proofs.marks.opened_marks.Goals as goal

pub open-requires : goal.open-requires
open-requires g c = record { ours = rw c.new.ensures c.requires.ours }
