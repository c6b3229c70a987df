use Rattle.std.proofs.Common.{◌≡◌, [], take, drop}
use Rattle.catalog.specs.FirstFault.{matrices_test}
use Rattle.catalog.proofs.valid_grid.matrices_test.Given as goal

abbrev pub invariant-loop-i : goal.invariant-loop-i
invariant-loop-i l = matrices_test (take l.i l.names) (drop l.i l.names) (drop l.i l.matrices) ≡ matrices_test [] l.names l.matrices
