use Rattle.std.proofs.Common.{ℕ, ◌≡◌, ◌<◌, Some, slice_get}
use Rattle.catalog.specs.declared.layer.Dimension.{Dimension}
use Rattle.catalogue_change.proofs.layers.have_same_names.Given as goal

-- those before this one agree
abbrev pub invariant-comparing : goal.invariant-comparing
invariant-comparing l = (i : ℕ) (d e : Dimension) → i < l.at → slice_get l.old i ≡ Some d → slice_get l.new i ≡ Some e → e.id ≡ d.id
