use Rattle.std.proofs.Common.{◌≡◌, length}
use Rattle.tile_server.proofs.serve.sources_of.Given as goal

abbrev pub invariant-opening : goal.invariant-opening
invariant-opening g l = length l.sources.items ≡ l.counter
