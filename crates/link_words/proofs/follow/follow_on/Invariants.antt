use Rattle.link_words.proofs.follow.follow_on.Given as goal

abbrev pub ghosts-follow_over : goal.ghosts-follow_over
ghosts-follow_over g a = record { disk = a.marks.ghost_name }
