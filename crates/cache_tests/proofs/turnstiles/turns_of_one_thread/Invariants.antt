use Rattle.std.proofs.Common.{true}
use Rattle.cache_tests.proofs.turnstiles.turns_of_one_thread.Given as goal

abbrev pub ghost-make : goal.ghost-make
ghost-make g a = true
