use Rattle.link_words.proofs.followed.follow.Given as goal

abbrev pub ghosts-followed_over : goal.ghosts-followed_over
ghosts-followed_over g a = record { disk = a.disk.ghost_name }
