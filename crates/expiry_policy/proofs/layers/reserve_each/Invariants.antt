use Rattle.std.proofs.Common.{ℕ, ◌≡◌, ◌<◌, ◌≤◌, Some, slice_get}
use Rattle.expiry_policy.specs.Layers.{MayGrow, OfLayer}
use Rattle.expiry_policy.proofs.layers.reserve_each.Given as goal

abbrev pub invariant-reserving : goal.invariant-reserving
invariant-reserving l = record {
  grown : (i : ℕ) → MayGrow (slice_get l.fn.layers i) (slice_get l.layer-items i);
  room : (i : ℕ) (k : OfLayer) → i < l.layer-index → slice_get l.layer-items i ≡ Some k → l.keys ≤ k.spare;
}
