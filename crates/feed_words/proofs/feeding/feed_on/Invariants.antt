use Rattle.feed_words.proofs.feeding.feed_on.Given as goal

abbrev pub ghosts-feed_over : goal.ghosts-feed_over
ghosts-feed_over g a = record { disk = a.marks.ghost_name }
