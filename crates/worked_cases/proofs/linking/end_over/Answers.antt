use Rattle.worked_cases.proofs.linking.end_over.Goals as goal

pub run_link-requires : goal.run_link-requires
run_link-requires g c = c.requires
