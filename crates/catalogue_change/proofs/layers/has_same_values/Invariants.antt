use Rattle.std.proofs.Common.{ℕ, ◌≡◌, ◌<◌, Some, slice_get}
use Rattle.catalogue_change.specs.Alike.{IsSameValue}
use Rattle.catalogue_change.proofs.layers.has_same_values.Given as goal

-- those before this one agree
abbrev pub invariant-loop-place : goal.invariant-loop-place
invariant-loop-place l = (place number : ℕ) → place < l.place → slice_get l.numbers place ≡ Some number → IsSameValue l.old l.new place number
