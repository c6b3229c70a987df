use Rattle.disk_words.proofs.replay_word.replay.Given as goal

abbrev pub ghosts-replay_over : goal.ghosts-replay_over
ghosts-replay_over g a = record { disk = a.disk.ghost_name }
