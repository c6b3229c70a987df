use Rattle.std.proofs.Common.{◌≡◌, drop}
use Rattle.std.specs.Prelude.{fold, nat_le, if◌then◌else◌}
use Rattle.raster_field.specs.Picture.{colour_of}
use Rattle.raster_field.proofs.colour.colour_of.Given as goal

abbrev pub invariant-loop-step : goal.invariant-loop-step
invariant-loop-step l =
    fold (λ colour b. if nat_le b.from l.value then record { r = b.r; g = b.g; b = b.b } else colour) l.colour (drop l.step-index l.step-items) ≡ colour_of l.style.breaks l.value
