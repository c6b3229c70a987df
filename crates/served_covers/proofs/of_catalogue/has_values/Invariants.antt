use Rattle.std.proofs.Common.{ℕ, ◌≡◌, ◌<◌, Option, Some, slice_get}
use Rattle.served_covers.specs.OfCatalogue.{HasWanted}
use Rattle.served_covers.proofs.of_catalogue.has_values.Given as goal

-- what is wanted at each place before this one is there
abbrev pub invariant-loop-place : goal.invariant-loop-place
invariant-loop-place l = (p : ℕ) (wanted : Option ℕ) → p < l.place → slice_get l.values p ≡ Some wanted → HasWanted l.catalogue l.layer p wanted
