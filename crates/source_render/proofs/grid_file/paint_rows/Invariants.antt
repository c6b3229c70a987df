use Rattle.std.proofs.Common.{◌≡◌, ◌*◌, length}
use Rattle.raster_field.specs.Rasters.{HasSize, IsWhole}
use Rattle.source_render.proofs.grid_file.paint_rows.Given as goal

abbrev pub invariant-loop-j : goal.invariant-loop-j
invariant-loop-j l = record {
  room : length l.row ≡ l.window.width * 3;
  size : HasSize l.into l.window;
  whole : IsWhole l.into;
}
