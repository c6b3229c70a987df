use Rattle.std.proofs.Common.{◌≡◌, length, reverse}
use Rattle.cache_core.specs.Lasting.{Lasting}
use Rattle.tile_service.specs.Seats.{all_left}
use Rattle.tile_service.proofs.seats.close.Given as goal

abbrev pub invariant-loop-seats : goal.invariant-loop-seats
invariant-loop-seats g l = record {
  rest : all_left (g.C.Keeper.state l.cabinet) (reverse l.seats.items) ≡ all_left (g.C.Keeper.state l.initial.cabinet) (reverse l.initial.seats.items);
  lasts : Lasting (g.C.Keeper.outlasts l.initial.cabinet l.cabinet) (g.C.Keeper.state l.initial.cabinet) (g.C.Keeper.state l.cabinet);
  faults : g.C.Keeper.faults l.cabinet ≡ g.C.Keeper.faults l.initial.cabinet;
}

abbrev pub decreases-loop-seats : goal.decreases-loop-seats
decreases-loop-seats g l = length l.seats.items
