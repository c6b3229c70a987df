use Rattle.std.proofs.Common.{◌≡◌, ◌+◌, [], All, length, vec_len}
use Rattle.std.specs.Prelude.{vec_capacity}
use Rattle.seed_jobs.specs.Idles as idles
use Rattle.link_queue.specs.Hands.{hand, table_of}
use Rattle.server_workers.specs.Crew.{HasHeldSessions, IsWorkerReady}
use Rattle.server_workers.specs.Stints.{Service}
use Rattle.server_workers.proofs.Gathering.{Gather}
use Rattle.server_workers.proofs.ending.gather.Given as goal

abbrev pub invariant-gathering : goal.invariant-gathering
invariant-gathering g l = record {
  last : IsWorkerReady (table_of l.queue.links) l.world.hall.turnstile.table l.world.board.turnstile.table l.world.hall.catalogue (g.S.Source.told l.last.source) l.last.pass l.last.board l.last.hand;
  others : All (λ w. IsWorkerReady (table_of l.queue.links) l.world.hall.turnstile.table l.world.board.turnstile.table l.world.hall.catalogue (g.S.Source.told w.source) w.pass w.board w.hand) l.others.items;
  of : All (λ p. p.table ≡ l.world.hall.turnstile.table) l.passes.items;
  count : length l.passes.items + length l.others.items ≡ length l.fn.others.items;
  room : vec_capacity l.passes ≡ vec_capacity l.initial.passes;
  gathered : (s : Service g.row.L.Denot g.row.S.Denot) → HasHeldSessions s (hand 1 [] []) l.initial.last.pass l.initial.last.board l.initial.last.source l.initial.last.hand
      → All (λ w. HasHeldSessions s (hand 1 [] []) w.pass w.board w.source w.hand) l.fn.others.items
      → All (λ w. HasHeldSessions s (hand 1 [] []) w.pass w.board w.source w.hand) l.others.items
      × Gather s (length l.fn.others.items) (length l.others.items) l.last.pass l.last.board l.last.source l.last.hand l.passes.items l.initial.runner l.runner;
  runner : idles.IsStandbyReady l.world.board.turnstile.table l.world.hall.turnstile.table l.world.hall.catalogue l.runner;
}

abbrev pub decreases-gathering : goal.decreases-gathering
decreases-gathering g l = vec_len l.others
