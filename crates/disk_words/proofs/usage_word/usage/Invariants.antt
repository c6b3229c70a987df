use Rattle.disk_words.proofs.usage_word.usage.Given as goal

abbrev pub ghosts-usage_over : goal.ghosts-usage_over
ghosts-usage_over g a = record { disk = a.disk.ghost_name }
