use Rattle.job_words.proofs.word.run_job.Given as goal

abbrev pub ghosts-run_over : goal.ghosts-run_over
ghosts-run_over g a = record { disk = a.disk.ghost_name }
