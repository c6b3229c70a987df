use mir.Syntax.{named}
use denote.Exit
use denote.Param.{param}
use denote.Param.Send.{param_sync, arg_sync}
use Rattle.std.proofs.alloc.Global.TheSendSync as allocates
use Rattle.std.specs.contracts.alloc.Global as global
use Rattle.hall_sessions.specs.contracts.world.World as world
use Rattle.link_queue.proofs.queue.LinkQueue.TheSendSync as shares
use Rattle.link_queue.specs.contracts.queue.LinkQueue as queue
use Rattle.server_workers.proofs.Shared.{sharer_sync, world_sync}
use Rattle.server_workers.proofs.serving.work_all.Goals as goal

pub for_each_mut-requires-sync-F : goal.for_each_mut-requires-sync-F
for_each_mut-requires-sync-F g c κs within =
    param_sync 2 _ (arg_sync _ Exit.no _ (sharer_sync _ (named 6) (named 7) (named 8) (named 9) κs.1.1.1.1.1.1.0 κs.1.1.1.1.1.1.1.0 κs.1.1.1.1.1.1.1.1.0 κs.1.1.1.1.1.1.1.1.1.0
    (param 0 g.row.R) global.the_row (world.the_row (param 1 g.row.K) g.K.Keeper) (queue.the_row (param 3 g.row.L))
    c.type_bounds.sync-R
    allocates.the_sync
    (world_sync (param 1 g.row.K) g.K.Keeper (record { shared = c.is_shared.ensures.shared }) c.type_bounds.send-K)
    (shares.the_sync (param 3 g.row.L) c.type_bounds.send-L)))
