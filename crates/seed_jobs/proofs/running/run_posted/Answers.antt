use Rattle.seed_jobs.proofs.History.{run_out}
use Rattle.seed_jobs.proofs.running.run_posted.Goals as goal

pub returns-clause-runs : goal.returns-clause-runs
returns-clause-runs g c =
    run_out c.args.hall.now.catalogue c.args.posted _ _ _ _ _ c.finish.result c.deref.result.now c.deref.ensures c.run_by_crew-watch.ensures.run c.requires.number c.finish.ensures.finish
