use Rattle.worked_cases.proofs.feeding.fed_status.Goals as goal

pub run_feed-requires : goal.run_feed-requires
run_feed-requires g c = c.requires
