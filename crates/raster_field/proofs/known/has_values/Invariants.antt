use Rattle.std.proofs.Common.{ℕ, ◌≡◌, ◌<◌, Some, slice_get}
use Rattle.catalog.specs.LookUp.{values_at}
use Rattle.raster_field.proofs.known.has_values.Given as goal

-- each number before this place is that of a value
abbrev pub invariant-loop-place : goal.invariant-loop-place
invariant-loop-place l = (p n : ℕ) → p < l.place → slice_get l.theme.dims p ≡ Some n → n < values_at l.catalogue l.layer p
