use Rattle.std.proofs.Common.{◌≡◌, [], take, drop}
use Rattle.catalog.specs.FirstFault.{each, layer_test}
use Rattle.catalog.proofs.valid_layer.each_layer.Given as goal

abbrev pub invariant-loop-i : goal.invariant-loop-i
invariant-loop-i l = each (layer_test l.grids) (take l.i l.layers) (drop l.i l.layers) ≡ each (layer_test l.grids) [] l.layers
