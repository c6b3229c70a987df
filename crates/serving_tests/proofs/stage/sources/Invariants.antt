use Rattle.std.proofs.Common.{length, ◌≡◌}
use Rattle.serving_tests.proofs.stage.sources.Given as goal

abbrev pub invariant-loop : goal.invariant-loop
invariant-loop l = length l.sources.items ≡ l.counter
