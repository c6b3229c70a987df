use Rattle.std.proofs.Common.{◌≡◌, ◌*◌, length, take}
use Rattle.raster_field.specs.TileText.{pixel_row}
use Rattle.source_render.specs.Shown.{shown}
use Rattle.source_render.proofs.painter.Painter.paint_row.Given as goal

abbrev pub invariant-loop-i : goal.invariant-loop-i
invariant-loop-i l = record {
  len : length l.into ≡ l.width * 3;
  painted : take (l.i * 3) l.into ≡ pixel_row (shown l.self) l.x l.y l.i;
}
