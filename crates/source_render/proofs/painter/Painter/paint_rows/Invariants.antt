use Rattle.std.proofs.Common.{◌≡◌, ◌+◌, ◌*◌, length, take}
use Rattle.std.specs.List.{flat_map, range_with_len}
use Rattle.raster_field.specs.Rasters.{HasSize, IsWhole}
use Rattle.raster_field.specs.TileText.{pixel_row}
use Rattle.source_render.specs.Shown.{shown}
use Rattle.source_render.proofs.painter.Painter.paint_rows.Given as goal

abbrev pub invariant-loop-j : goal.invariant-loop-j
invariant-loop-j l = record {
  room : length l.row ≡ l.window.width * 3;
  size : HasSize l.into l.window;
  whole : IsWhole l.into;
  painted : take (l.j * (l.window.width * 3)) l.into.bytes ≡ flat_map (λ j. pixel_row (shown l.self) l.window.x (l.window.y + j) l.window.width) (range_with_len 0 l.j);
}
