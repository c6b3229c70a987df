use Rattle.cache_hall.specs.Turned.{HallPass}
use Rattle.link_queue.specs.Hands.{table_of}
use Rattle.link_queue.specs.declared.hand.QueueHand.{QueueHand}
use Rattle.server_workers.specs.Crew.{HasHeldSessions, IsWorkerReady}
use Rattle.server_workers.specs.Stints.{Service, serving}
use Rattle.server_workers.proofs.workers.work.Given as goal

abbrev pub invariant-working : goal.invariant-working
invariant-working g l =
    let service : HallPass → Service g.row.L.Denot g.row.S.Denot = serving g.L.ByteSource.left g.L.ByteSink.taken g.L.ByteSource.faults g.L.ByteSink.faults g.S.Source.faults g.S.Source.gave l.world.capabilities l.world.hall.catalogue l.world.recipes l.world.board.turnstile.table in
    record {
      ready : IsWorkerReady (table_of l.queue.links) l.world.hall.turnstile.table l.world.board.turnstile.table l.world.hall.catalogue (g.S.Source.told l.worker.source) l.worker.pass l.worker.board l.worker.hand;
      worked : (first : HallPass) (before : QueueHand g.row.L.Denot) → HasHeldSessions (service first) before l.initial.worker.pass l.initial.worker.board l.initial.worker.source l.initial.worker.hand
          → HasHeldSessions (service first) before l.worker.pass l.worker.board l.worker.source l.worker.hand;
    }
