use Rattle.std.proofs.Common.{◌≡◌, ◌++◌}
use Rattle.ppm_slice.specs.Cut.{cut_rows}
use Rattle.ppm_slice.proofs.slicing.Slicer.add_block.Given as goal

abbrev pub invariant-loop-i : goal.invariant-loop-i
invariant-loop-i l = l.blob.items ≡ l.initial.blob.items ++ cut_rows l.self.matrix l.self.window l.self.tiles l.self.raster.now l.i
