use Rattle.worked_cases.proofs.linking.linked_end.Given as goal

abbrev pub ghosts-end_over_both : goal.ghosts-end_over_both
ghosts-end_over_both g a = record { input = a.ends.input.ghost_name; output = a.ends.output.ghost_name }
