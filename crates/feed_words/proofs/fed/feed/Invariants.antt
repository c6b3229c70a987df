use Rattle.feed_words.proofs.fed.feed.Given as goal

abbrev pub ghosts-fed_over : goal.ghosts-fed_over
ghosts-fed_over g a = record { disk = a.disk.ghost_name }
