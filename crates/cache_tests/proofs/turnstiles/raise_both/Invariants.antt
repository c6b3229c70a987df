use Rattle.std.proofs.Common.{true}
use Rattle.cache_tests.proofs.turnstiles.raise_both.Given as goal

abbrev pub ghost-make : goal.ghost-make
ghost-make g a = true
