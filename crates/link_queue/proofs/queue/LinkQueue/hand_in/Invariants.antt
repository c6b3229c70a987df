use Rattle.std.proofs.Common.{◌≡◌}
use Rattle.crossbeam_queue.specs.Passes.{view}
use Rattle.link_queue.specs.Hands.{IsHand, table_of}
use Rattle.link_queue.proofs.queue.LinkQueue.hand_in.Given as goal

abbrev pub invariant-handing : goal.invariant-handing
invariant-handing g l = record {
  hand : IsHand (table_of l.self.links) (view l.initial.mine) l.mine;
  same : l.link ≡ l.initial.link;
}
