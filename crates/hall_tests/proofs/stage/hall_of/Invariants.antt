use Rattle.std.proofs.Common.{false}
use Rattle.hall_tests.proofs.stage.hall_of.Given as goal

abbrev pub ghost-make : goal.ghost-make
ghost-make a = false
