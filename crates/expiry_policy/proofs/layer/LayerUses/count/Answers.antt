use Rattle.std.proofs.Common.{◌≡◌, ap, length, subst, sym, ◌∙◌}
use Rattle.std.proofs.lemmas.List.{length-map}
use Rattle.std.specs.List.{AllByRecursion}
use Rattle.indexmap.specs.IndexMap.{IsUnique}
use Rattle.expiry_policy.specs.Entries.{as_use, uses_of}
use Rattle.expiry_policy.specs.Layers.{OfLayer}
use Rattle.expiry_policy.specs.Victims.{AreApart}
use Rattle.expiry_policy.proofs.Lookups.{derived_is}
use Rattle.expiry_policy.proofs.Once.{all_numbered, uses_apart}
use Rattle.expiry_policy.proofs.layer.LayerUses.count.Goals as goal

pub returns-clause-count : goal.returns-clause-count
returns-clause-count c = c.len.ensures.len ∙ sym (length-map c.self.inside.held.entries as_use) ∙ ap (λ (l : OfLayer). length l.uses) c.self.view_is

pub returns-clause-layer : goal.returns-clause-layer
returns-clause-layer c =
    subst (λ (l : OfLayer). AllByRecursion (λ u. u.meta.theme.layer ≡ l.number) l.uses) c.self.view_is (all_numbered c.self.inside.number (uses_of c.self.inside.held.entries) c.self.invariant.numbered)

pub returns-clause-apart : goal.returns-clause-apart
returns-clause-apart c =
    let held = c.self.inside.held in
    subst (λ (l : OfLayer). AreApart l.uses) c.self.view_is (uses_apart held.entries (subst (λ eq. IsUnique eq held) derived_is c.len.ensures.unique))
