use Rattle.seed_jobs.specs.Idles.{IsStandbyReady}
use Rattle.seed_jobs.specs.Runs.{HasRunJobs}
use Rattle.seed_jobs.proofs.running.run_jobs.Given as goal

abbrev pub invariant-running : goal.invariant-running
invariant-running g l = record {
  ready : IsStandbyReady l.board.turnstile.table l.hall.turnstile.table l.hall.catalogue l.runner;
  runs : HasRunJobs l.hall.catalogue l.initial.runner l.runner;
}
