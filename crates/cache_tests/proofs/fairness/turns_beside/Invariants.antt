use Rattle.std.proofs.Common.{◌≡◌}
use Rattle.cache_tests.proofs.fairness.turns_beside.Given as goal

abbrev pub invariant-loop : goal.invariant-loop
invariant-loop g l = l.pass.table ≡ l.turnstile.table
