use Rattle.std.proofs.Common.{◌≡◌, Some, find, ap, sym, subst, ◌∙◌}
use Rattle.catalog.specs.declared.catalogue.Policy.{Policy}
use Rattle.expiry_policy.specs.Victims.{IsVictim, use_of}
use Rattle.metatile_plan.specs.declared.metatile.MetaKey.{MetaKey}
use Rattle.quota_ledger.specs.Accounts as accounts
use Rattle.cabinet.specs.History.{is_of}
use Rattle.cabinet.specs.Shelved.{IsFirstToGo, Shelved, listed}
use Rattle.cabinet.proofs.OnShelf.{goes_kept, its_key, some_goes}
use Rattle.cabinet.proofs.shelf.KeptShelf.first_to_go.Goals as goal

pub unreachable-requires : goal.unreachable-requires
unreachable-requires c =
    let i = c.self.inside in
    some_goes i.catalogue i.store.blobs i.tally.extents i.tally.ledger i.tally.uses c.self.invariant c.in-Some.scope (sym c.exceeded.ensures ∙ c.in-Some.is) (subst (IsVictim i.tally.uses.policy c.in-Some.scope (use_of i.tally.uses)) c.in_default.is c.victim.ensures)

pub unreachable-requires-in_default-kept_of : goal.unreachable-requires-in_default-kept_of
unreachable-requires-in_default-kept_of c =
    let i = c.self.inside in
    goes_kept i.catalogue i.store.blobs i.tally.extents i.tally.ledger i.tally.uses c.self.invariant c.in-Some.scope c.in-Some-victim.meta (subst (IsVictim i.tally.uses.policy c.in-Some.scope (use_of i.tally.uses)) c.in-Some-victim.is c.victim.ensures)
    (sym c.kept_of.ensures ∙ c.in_default-kept_of.is)

pub returns : goal.returns
returns c =
    let i = c.self.inside in
    let n = c.self.invariant in
    let m = c.in-Some-victim.meta in
    let t = c.in-Some-kept_of.kept in
    let at = sym c.kept_of.ensures ∙ c.in-Some-kept_of.is in
    let key = its_key i.catalogue i.store.blobs i.tally.extents i.tally.ledger i.tally.uses c.self.invariant m t at in
    subst (λ (v : Shelved). IsFirstToGo v (Some t)) c.self.view_is (
      c.in-Some.scope,
      sym (ap accounts.exceeded n.bytes) ∙ sym c.exceeded.ensures ∙ c.in-Some.is,
      subst (λ (k : MetaKey). IsVictim i.catalogue.policy c.in-Some.scope (use_of i.tally.uses) (Some k)) (sym key)
          (subst (λ (p : Policy). IsVictim p c.in-Some.scope (use_of i.tally.uses) (Some m)) n.policy (subst (IsVictim i.tally.uses.policy c.in-Some.scope (use_of i.tally.uses)) c.in-Some-victim.is c.victim.ensures)),
      subst (λ (k : MetaKey). find (is_of k) (listed i.store.blobs) ≡ Some t) (sym key) at,
    )
