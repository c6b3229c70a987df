use Rattle.look_words.proofs.looking.look.Given as goal

abbrev pub ghosts-look_over : goal.ghosts-look_over
ghosts-look_over g a = record { disk = a.disk.ghost_name }
