use Rattle.disk_words.proofs.expire_word.expire.Given as goal

abbrev pub ghosts-expire_over : goal.ghosts-expire_over
ghosts-expire_over g a = record { disk = a.disk.ghost_name }
