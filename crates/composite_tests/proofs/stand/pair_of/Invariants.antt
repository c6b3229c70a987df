use Rattle.std.proofs.Common.{false}
use Rattle.composite_tests.proofs.stand.pair_of.Given as goal

abbrev pub ghost-make : goal.ghost-make
ghost-make a = false
