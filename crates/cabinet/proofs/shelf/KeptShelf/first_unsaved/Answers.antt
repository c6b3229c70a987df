use Rattle.std.proofs.Common.{◌≡◌, Some, find, sym, subst, ◌∙◌}
use Rattle.std.specs.Option.{option_map}
use Rattle.expiry_policy.specs.Victims.{IsUnsaved, use_of}
use Rattle.metatile_plan.specs.declared.metatile.MetaKey.{MetaKey}
use Rattle.cabinet.specs.History.{is_of}
use Rattle.cabinet.specs.Shelved.{IsUnsavedOn, Shelved, listed}
use Rattle.cabinet.proofs.OnShelf.{its_key}
use Rattle.cabinet.proofs.shelf.KeptShelf.first_unsaved.Goals as goal

pub returns : goal.returns
returns c =
    let i = c.self.inside in
    let m = c.in-Some.meta in
    let t = c.in-Some-kept_of.kept in
    let at = sym c.kept_of.ensures ∙ c.in-Some-kept_of.is in
    let key = its_key i.catalogue i.store.blobs i.tally.extents i.tally.ledger i.tally.uses c.self.invariant m t at in
    subst (λ (v : Shelved). IsUnsavedOn v (Some (record { kept = t; uses = c.in-Some-uses_of.uses }))) c.self.view_is (
      subst (λ (k : MetaKey). IsUnsaved (use_of i.tally.uses) (Some k)) (sym key) (subst (IsUnsaved (use_of i.tally.uses)) c.in-Some.is c.unsaved.ensures),
      subst (λ (k : MetaKey). find (is_of k) (listed i.store.blobs) ≡ Some t) (sym key) at,
      subst (λ (k : MetaKey). option_map (λ u. u.uses) (use_of i.tally.uses k) ≡ Some c.in-Some-uses_of.uses) (sym key) (sym c.uses_of.ensures ∙ c.in-Some-uses_of.is),
    )
