use Rattle.std.proofs.Common.{◌≡◌, [], take, drop}
use Rattle.catalog.specs.FirstFault.{each, grid_number_test}
use Rattle.catalog.proofs.valid_layer.each_grid_number.Given as goal

abbrev pub invariant-loop-i : goal.invariant-loop-i
invariant-loop-i l = each (grid_number_test l.at l.grids) (take l.i l.numbers) (drop l.i l.numbers) ≡ each (grid_number_test l.at l.grids) [] l.numbers
