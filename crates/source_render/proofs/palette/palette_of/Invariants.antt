use Rattle.std.proofs.Common.{◌≡◌, ℕ, ◌<◌, get_or, length}
use Rattle.raster_field.specs.declared.colour.Colour.{Colour}
use Rattle.raster_field.specs.Picture.{colour_of}
use Rattle.source_render.proofs.palette.palette_of.Given as goal

abbrev pub invariant-loop-value : goal.invariant-loop-value
invariant-loop-value l = record {
  len : length l.palette ≡ 256;
  each : (v : ℕ) (d : Colour) → v < l.value → get_or l.palette v d ≡ colour_of l.style.breaks v;
}
