use Rattle.std.proofs.Common.{◌≤◌}
use Rattle.crossbeam_queue.specs.Passes.{view}
use Rattle.link_queue.specs.Hands.{table_of}
use Rattle.link_queue.proofs.Arrivals.{AreIn}
use Rattle.link_queue.proofs.accepting.accept_each.Given as goal

abbrev pub invariant-accepting : goal.invariant-accepting
invariant-accepting g l = record {
  in_queue : AreIn (table_of l.queue.links) l.counter (view l.initial.mine) l.mine (g.N.Listener.given l.initial.listener) (g.N.Listener.given l.listener);
  later : g.N.Listener.faults l.initial.listener ≤ g.N.Listener.faults l.listener;
}
