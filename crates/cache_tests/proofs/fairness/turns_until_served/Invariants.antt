use Rattle.std.proofs.Common.{true}
use Rattle.cache_tests.proofs.fairness.turns_until_served.Given as goal

abbrev pub ghost-make : goal.ghost-make
ghost-make g a = true
