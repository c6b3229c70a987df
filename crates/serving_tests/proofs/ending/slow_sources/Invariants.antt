use Rattle.std.proofs.Common.{length, ◌≡◌}
use Rattle.serving_tests.proofs.ending.slow_sources.Given as goal

abbrev pub invariant-loop : goal.invariant-loop
invariant-loop g l = length l.sources.items ≡ l.counter
