use Rattle.worked_cases.proofs.top_calls.status_of.Goals as goal

pub run_command-requires : goal.run_command-requires
run_command-requires g c = c.requires
