use Rattle.disk_words.proofs.schedule_word.schedule.Given as goal

abbrev pub ghosts-schedule_over : goal.ghosts-schedule_over
ghosts-schedule_over g a = record { disk = a.disk.ghost_name }
