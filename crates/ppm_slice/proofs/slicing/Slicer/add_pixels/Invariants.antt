use Rattle.std.proofs.Common.{◌≡◌, ◌++◌}
use Rattle.ppm_slice.specs.Cut.{cut_pixels}
use Rattle.ppm_slice.proofs.slicing.Slicer.add_pixels.Given as goal

abbrev pub invariant-loop-j : goal.invariant-loop-j
invariant-loop-j l = l.blob.items ≡ l.initial.blob.items ++ cut_pixels l.self.raster.now l.x l.y l.self.matrix.tile_w l.j
