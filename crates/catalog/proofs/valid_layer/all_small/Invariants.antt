use Rattle.std.proofs.Common.{◌≡◌, drop}
use Rattle.std.specs.List.{list_all}
use Rattle.catalog.specs.FirstFault.{is_small}
use Rattle.catalog.proofs.valid_layer.all_small.Given as goal

abbrev pub invariant-loop-matrix : goal.invariant-loop-matrix
invariant-loop-matrix l = list_all (is_small l.meta_x l.meta_y l.gutter) (drop l.matrix-index l.matrices) ≡ list_all (is_small l.meta_x l.meta_y l.gutter) l.matrices
