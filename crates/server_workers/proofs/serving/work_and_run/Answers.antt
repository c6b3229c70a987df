use mir.Syntax.{named}
use denote.Exit
use denote.Param.{param}
use denote.Param.Send.{param_send, arg_send}
use Rattle.std.proofs.alloc.Global.TheSendSync as allocates
use Rattle.std.proofs.sync.atomic.AtomicBool.TheSendSync as stops
use Rattle.std.specs.contracts.alloc.Global as global
use Rattle.std.specs.contracts.sync.atomic.AtomicBool as flag
use Rattle.hall_sessions.specs.contracts.world.World as world
use Rattle.seed_jobs.proofs.runner.Runner.TheSendSync as runner
use Rattle.seed_jobs.specs.contracts.runner.Runner as jobs
use Rattle.server_workers.proofs.Shared.{borrower_send, world_sync}
use Rattle.server_workers.proofs.serving.work_and_run.Goals as goal

pub join_mut-requires-send-F : goal.join_mut-requires-send-F
join_mut-requires-send-F g c κs within =
    param_send 1 _ (arg_send _ Exit.no _ (borrower_send _ (named 8) (named 9) (named 10) (named 11) (named 12) κs.1.1.1.1.1.1.1.1.0 κs.1.1.1.1.1.1.1.1.1.0 κs.1.1.1.1.1.1.1.1.1.1.0 κs.1.1.1.1.1.1.1.1.1.1.1.0 κs.1.1.1.1.1.1.1.1.1.1.1.1.0
    (param 0 g.row.R) global.the_row (world.the_row (param 1 g.row.K) g.K.Keeper) flag.the_row (jobs.the_row (param 1 g.row.K) (param 2 g.row.S) (param 4 g.row.G) g.K.Keeper g.S.Source)
    c.type_bounds.sync-R
    allocates.the_sync
    (world_sync (param 1 g.row.K) g.K.Keeper (record { shared = c.is_shared.ensures.shared }) c.type_bounds.send-K)
    stops.the_sync
    (runner.the_send (param 1 g.row.K) (param 2 g.row.S) (param 4 g.row.G) g.K.Keeper g.S.Source c.type_bounds.send-K c.type_bounds.send-S c.type_bounds.send-G)))
