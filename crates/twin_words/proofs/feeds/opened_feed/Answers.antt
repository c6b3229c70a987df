use Rattle.twin_words.proofs.feeds.opened_feed.Goals as goal

pub open-requires : goal.open-requires
open-requires g c = record { ours = rw c.new.ensures c.requires.ours }
