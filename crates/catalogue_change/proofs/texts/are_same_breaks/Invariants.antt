use Rattle.std.proofs.Common.{ℕ, ◌≡◌, ◌<◌, Some, slice_get}
use Rattle.catalog.specs.declared.layer.Break.{Break}
use Rattle.catalogue_change.proofs.texts.are_same_breaks.Given as goal

-- those before this one agree
abbrev pub invariant-comparing : goal.invariant-comparing
invariant-comparing l = (i : ℕ) (x y : Break) → i < l.at → slice_get l.old i ≡ Some x → slice_get l.new i ≡ Some y → y ≡ x
