use Rattle.seed_jobs.proofs.Calls.{visited_so}
use Rattle.seed_jobs.proofs.visiting.visit.Goals as goal

pub returns-clause-visited : goal.returns-clause-visited
returns-clause-visited g c =
    visited_so c.args.hall.now.catalogue _ c.args.job.now c.args.place _ _ c.args.pass.now c.visit.new.cache c.visit.result c.requires.source c.visit.ensures.visits
