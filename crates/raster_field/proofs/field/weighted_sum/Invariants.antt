use Rattle.std.proofs.Common.{◌≡◌, ◌+◌, ◌*◌, ◌≤◌, ◌^◌, drop}
use Rattle.raster_field.specs.Picture.{weighted}
use Rattle.raster_field.proofs.field.weighted_sum.Given as goal

abbrev pub invariant-loop-value : goal.invariant-loop-value
invariant-loop-value l = record {
  weight : l.weight ≡ l.value-index + 1;
  rest : l.sum + weighted l.weight (drop l.value-index l.dims) ≡ weighted 1 l.dims;
  bound : l.sum ≤ l.value-index * 2 ^ 35;
}
