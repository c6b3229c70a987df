use Rattle.std.proofs.Common.{false}
use Rattle.hall_tests.proofs.pair.pair_of.Given as goal

abbrev pub ghost-make : goal.ghost-make
ghost-make g a = false
