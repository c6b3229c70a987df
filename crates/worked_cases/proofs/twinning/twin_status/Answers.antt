use Rattle.worked_cases.proofs.twinning.twin_status.Goals as goal

pub run_twin-requires : goal.run_twin-requires
run_twin-requires g c = c.requires
