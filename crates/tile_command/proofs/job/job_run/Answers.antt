use Rattle.command_setup.proofs.Fitting.{may_be}
use Rattle.tile_command.proofs.job.job_run.Goals as goal

pub run_job-status-requires-clause-ours : goal.run_job-status-requires-clause-ours
run_job-status-requires-clause-ours g c = c.requires _ (may_be _ _ c.in-Ok.ensures.configures)
