use Rattle.std.proofs.Common.{Some, refl, ap, sym, subst, ◌∙◌, min}
use Rattle.metatile_plan.specs.declared.metatile.MetaKey.{MetaKey}
use Rattle.cabinet.specs.Shelved.{Forgets, IsShelved, Shelved, with_forgotten}
use Rattle.expiry_policy.specs.Victims.{use_of}
use Rattle.cabinet.proofs.OnShelf.{dropped_shelved, goes_held, its_key, older_in, region_taken}
use Rattle.cabinet.proofs.shelf.KeptShelf.drop_kept.Goals as goal

pub forget-requires-clause-region : goal.forget-requires-clause-region
forget-requires-clause-region c =
    let i = c.self.inside in
    region_taken i.catalogue i.store.blobs i.tally.extents i.tally.ledger i.tally.uses c.self.invariant c.args.meta.now c.in-Some.kept (sym c.kept_of.ensures ∙ c.in-Some.is)

pub forget-requires-clause-counted : goal.forget-requires-clause-counted
forget-requires-clause-counted c =
    let i = c.self.inside in
    older_in i.catalogue i.store.blobs i.tally.extents i.tally.ledger i.tally.uses c.self.invariant c.args.meta.now (Some c.in-Some.kept) (sym c.in-Some.is ∙ c.kept_of.ensures)

pub forget-requires-clause-held : goal.forget-requires-clause-held
forget-requires-clause-held c =
    let i = c.self.inside in
    goes_held i.catalogue i.store.blobs i.tally.extents i.tally.ledger i.tally.uses c.self.invariant c.args.meta.now c.in-Some.kept (sym c.kept_of.ensures ∙ c.in-Some.is)

pub invariant_of-self : goal.invariant_of-self
invariant_of-self c =
    let i = c.self.inside in
    let left = c.forget.new.self in
    subst (λ bs. IsShelved i.catalogue bs left.extents left.ledger left.uses) (sym c.drop_of.ensures.blobs)
    (dropped_shelved i.catalogue i.store.blobs i.tally.extents i.tally.ledger i.tally.uses c.self.invariant c.args.meta.now c.in-Some.kept left.extents left.ledger left.uses (sym c.kept_of.ensures ∙ c.in-Some.is) c.forget.ensures.sound
    c.forget.ensures.given c.forget.ensures.bytes c.forget.ensures.uses)

pub returns-clause-forgets : goal.returns-clause-forgets
returns-clause-forgets c =
    let i = c.self.inside in
    let left = c.forget.new.self in
    let m = c.args.meta.now in
    let key = its_key i.catalogue i.store.blobs i.tally.extents i.tally.ledger i.tally.uses c.self.invariant m c.in-Some.kept (sym c.kept_of.ensures ∙ c.in-Some.is) in
    let room = min c.drop_of.new.self.spare (min left.extents.spare left.uses.spare) in
    subst (λ (v : Shelved). Forgets m v (record { catalogue = i.catalogue; blobs = c.drop_of.new.self.blobs; uses = left.uses.uses; clock = left.uses.now; room = room })) c.self.view_is
    (record {
      catalogue = refl;
      blobs = c.drop_of.ensures.blobs;
      clock = c.forget.ensures.uses.now;
      uses = λ k. c.forget.ensures.uses.uses k ∙ ap (λ (x : MetaKey). with_forgotten x (use_of i.tally.uses) k) key;
    })
