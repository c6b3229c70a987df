use Rattle.disk_words.proofs.truncate_word.cut_once.Given as goal

abbrev pub ghosts-truncate_over : goal.ghosts-truncate_over
ghosts-truncate_over g a = record { disk = a.disk.ghost_name }
