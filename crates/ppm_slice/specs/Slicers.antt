-- a raster with what is to be cut out of it
use Rattle.std.specs.Prelude.{◌≡◌}
use Rattle.matrix_geometry.specs.Limits.{IsWithinLimits}
use Rattle.metatile_plan.specs.Plan.{IsWindowOn}
use Rattle.ppm_slice.specs.declared.slicing.Slicer.{Slicer}

-- the raster is of the window's size, and the window has all pixels of the tiles
pub record IsSlicer (s : Slicer) : Type 0 where
  pub limits : IsWithinLimits s.matrix
  pub window : IsWindowOn s.matrix s.tiles s.window
  pub width : s.raster.now.width ≡ s.window.width
  pub height : s.raster.now.height ≡ s.window.height
