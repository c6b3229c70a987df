use Rattle.std.proofs.Common.{◌≡◌, drop}
use Rattle.catalog.specs.FirstFault.{are_small}
use Rattle.catalog.proofs.valid_layer.are_small.Given as goal

abbrev pub invariant-loop-number : goal.invariant-loop-number
invariant-loop-number l = are_small l.grids (drop l.number-index l.numbers) l.meta_x l.meta_y l.gutter ≡ are_small l.grids l.numbers l.meta_x l.meta_y l.gutter
