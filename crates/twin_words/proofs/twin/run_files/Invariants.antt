use Rattle.twin_words.proofs.twin.run_files.Given as goal

abbrev pub ghosts-twin_over-A-Loan : goal.ghosts-twin_over-A-Loan
ghosts-twin_over-A-Loan g a = record { disk = a.disk.ghost_name }

abbrev pub ghosts-twin_over-B-Loan : goal.ghosts-twin_over-B-Loan
ghosts-twin_over-B-Loan g a = record { disk = a.marks.ghost_name }

abbrev pub ghosts-twin_over-C-Loan : goal.ghosts-twin_over-C-Loan
ghosts-twin_over-C-Loan g a = record { disk = a.outbox.ghost_name }
