use Rattle.std.proofs.Common.{◌≡◌, replicate}
use Rattle.tile_service.specs.declared.seats.ActorPlace.TheVariants.{Free}
use Rattle.tile_service.proofs.seats.free_seats.Given as goal

abbrev pub invariant-loop : goal.invariant-loop
invariant-loop l = record {
  free : l.seats.items ≡ replicate l.counter Free;
}
