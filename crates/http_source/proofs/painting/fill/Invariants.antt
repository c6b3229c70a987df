use Rattle.std.proofs.Common.{◌≡◌, ◌*◌, take}
use Rattle.raster_field.specs.Rasters.{IsWhole}
use Rattle.http_source.proofs.painting.fill.Given as goal

-- the rows above this one are those of the pixels
abbrev pub invariant-rows : goal.invariant-rows
invariant-rows l = record {
  width : l.into.width ≡ l.fn.into.width;
  height : l.into.height ≡ l.fn.into.height;
  whole : IsWhole l.into;
  above : take (l.y * (l.fn.into.width * 3)) l.into.bytes ≡ take (l.y * (l.fn.into.width * 3)) l.pixels;
}
