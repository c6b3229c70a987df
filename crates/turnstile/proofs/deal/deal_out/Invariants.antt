use Rattle.std.proofs.Common.{◌≡◌, ◌+◌, ◌<◌, All, length}
use Rattle.turnstile.specs.Passes.{IsDealer, fresh_pass}
use Rattle.turnstile.proofs.deal.deal_out.Given as goal

abbrev pub invariant-dealing : goal.invariant-dealing
invariant-dealing g l = record {
  some : 0 < l.left;
  dealer : IsDealer g.C.Chest.charter g.C.Chest.book l.queue.table.shared.table_id l.opening l.left l.seat;
  count : length l.all.items + l.left ≡ l.passes;
  each : All (λ p. p ≡ fresh_pass g.C.Chest.charter g.C.Chest.book l.queue.table.shared.table_id l.opening.start.chest l.opening.start.told) l.all.items;
}

abbrev pub decreases-dealing : goal.decreases-dealing
decreases-dealing g l = l.left
