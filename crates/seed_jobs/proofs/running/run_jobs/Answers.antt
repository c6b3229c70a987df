use Rattle.std.proofs.Common.{rules}
use Rattle.seed_jobs.proofs.History.{all_run, at_first, one_more}
use Rattle.seed_jobs.proofs.running.run_jobs.Goals as goal

pub running-init : goal.running-init
running-init g c = record { ready = c.requires.ready; runs = at_first c.args.hall.now.catalogue c.args.runner.now }

pub running-preserved : goal.running-preserved
running-preserved g c = record { ready = c.run_next.ensures.ready; runs = one_more c.args.hall.now.catalogue c.args.runner.now c.running.runner c.run_next.new.runner c.run_next.result c.running.invariant.runs c.run_next.ensures.next }

pub running-preserved-then-not-run_next : goal.running-preserved-then-not-run_next
running-preserved-then-not-run_next g c = record { ready = c.run_next.ensures.ready; runs = one_more c.args.hall.now.catalogue c.args.runner.now c.running.runner c.run_next.new.runner c.run_next.result c.running.invariant.runs c.run_next.ensures.next }

pub returns-then-ends-clause-runs : goal.returns-then-ends-clause-runs
returns-then-ends-clause-runs g c = all_run c.args.hall.now.catalogue c.args.runner.now c.running.runner c.run_next.new.runner c.run_next.result (search rules) c.running.invariant.runs c.run_next.ensures.next
