use Rattle.std.proofs.Common.{◌≡◌, length}
use Rattle.server_workers.proofs.gates.paced_gates.Given as goal

abbrev pub invariant-opening : goal.invariant-opening
invariant-opening g l = length l.gates.items ≡ l.counter
