use Rattle.std.proofs.Common.{◌≡◌, ◌++◌}
use Rattle.ppm_slice.specs.Cut.{cut_row}
use Rattle.ppm_slice.proofs.slicing.Slicer.add_row.Given as goal

abbrev pub invariant-loop-i : goal.invariant-loop-i
invariant-loop-i l = l.blob.items ≡ l.initial.blob.items ++ cut_row l.self.matrix l.self.window l.self.raster.now l.row l.self.tiles.col_min l.i
