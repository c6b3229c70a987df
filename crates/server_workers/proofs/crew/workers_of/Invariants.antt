use Rattle.std.proofs.Common.{◌≡◌, ◌+◌, ◌-◌, [], All, length}
use Rattle.link_queue.specs.Hands.{IsHand, all_parts, hand, table_of}
use Rattle.server_workers.specs.Crew.{AreSupplies, IsNew}
use Rattle.server_workers.specs.Stints.{Service}
use Rattle.server_workers.proofs.crew.workers_of.Given as goal

abbrev pub invariant-hiring : goal.invariant-hiring
invariant-hiring g l = record {
  passes : length l.supplies.passes.items + l.counter ≡ length l.initial.supplies.passes.items;
  boards : length l.supplies.boards.items + l.counter ≡ length l.initial.supplies.boards.items;
  sources : length l.supplies.sources.items + l.counter ≡ length l.initial.supplies.sources.items;
  workers : length l.workers.items ≡ l.counter;
  mine : IsHand (table_of l.queue.links) (hand (all_parts - l.counter) [] []) l.mine;
  new : (s : Service g.row.L.Denot g.row.S.Denot) → AreSupplies s g.S.Source.told l.initial.supplies.passes.items l.initial.supplies.boards.items l.initial.supplies.sources.items
      → All (λ w. IsNew (table_of l.queue.links) s (g.S.Source.told w.source) w.pass w.board w.hand) l.workers.items
      × AreSupplies s g.S.Source.told l.supplies.passes.items l.supplies.boards.items l.supplies.sources.items;
}
