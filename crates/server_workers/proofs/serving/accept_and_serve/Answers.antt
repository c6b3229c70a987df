use mir.Syntax.{named}
use denote.Exit
use denote.Param.{param}
use denote.Param.Send.{param_send, arg_send}
use Rattle.std.proofs.alloc.Global.TheSendSync as allocates
use Rattle.std.specs.contracts.alloc.Global as global
use Rattle.hall_sessions.specs.contracts.world.World as world
use Rattle.link_queue.proofs.queue.LinkQueue.TheSendSync as shares
use Rattle.link_queue.specs.contracts.queue.LinkQueue as queue
use Rattle.server_workers.proofs.Shared.{borrower_send, world_sync}
use Rattle.server_workers.proofs.crew.Crew.TheSendSync as works
use Rattle.server_workers.specs.contracts.crew.Crew as crew
use Rattle.server_workers.proofs.serving.accept_and_serve.Goals as goal

pub join_mut-all-requires-send-F : goal.join_mut-all-requires-send-F
join_mut-all-requires-send-F g c κs within =
    param_send 1 _ (arg_send _ Exit.no _ (borrower_send _ (named 8) (named 9) (named 10) (named 11) (named 12) κs.1.1.1.1.1.1.1.1.0 κs.1.1.1.1.1.1.1.1.1.0 κs.1.1.1.1.1.1.1.1.1.1.0 κs.1.1.1.1.1.1.1.1.1.1.1.0 κs.1.1.1.1.1.1.1.1.1.1.1.1.0
    (param 0 g.row.R) global.the_row (world.the_row (param 1 g.row.K) g.K.Keeper) (queue.the_row (param 5 g.row.N-L)) (crew.the_row (param 1 g.row.K) (param 2 g.row.S) (param 5 g.row.N-L) (param 4 g.row.G) g.K.Keeper g.S.Source)
    c.type_bounds.sync-R
    allocates.the_sync
    (world_sync (param 1 g.row.K) g.K.Keeper (record { shared = c.is_shared.ensures.shared }) c.type_bounds.send-K)
    (shares.the_sync (param 5 g.row.N-L) c.type_bounds.send-N-L)
    (works.the_send (param 1 g.row.K) (param 2 g.row.S) (param 5 g.row.N-L) (param 4 g.row.G) g.K.Keeper g.S.Source c.type_bounds.send-K c.type_bounds.send-S c.type_bounds.send-N-L c.type_bounds.send-G)))
