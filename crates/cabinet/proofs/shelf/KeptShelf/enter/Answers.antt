use Rattle.std.proofs.Common.{refl, subst, sym, min}
use Rattle.cabinet.specs.Entered.{CanEnter, Enters}
use Rattle.cabinet.specs.Shelved.{Shelved}
use Rattle.cabinet.proofs.Bytes.{layer_within}
use Rattle.cabinet.proofs.Entering.{blobs_then, entered_shelved, entry_fits}
use Rattle.cabinet.proofs.OnShelf.{within_layers}
use Rattle.cabinet.proofs.shelf.KeptShelf.enter.Goals as goal

pub add-requires-clause-layer : goal.add-requires-clause-layer
add-requires-clause-layer c =
    let i = c.self.inside in
    let t = c.args.kept in
    let can = subst (λ (v : Shelved). CanEnter v.catalogue v.blobs t) (sym c.self.view_is) c.requires.can in
    (within_layers i.catalogue i.store.blobs i.tally.extents i.tally.ledger i.tally.uses c.self.invariant t.meta (layer_within i.catalogue t.meta can.meta)).0

pub add-requires-clause-fits : goal.add-requires-clause-fits
add-requires-clause-fits c =
    let i = c.self.inside in
    let t = c.args.kept in
    let can = subst (λ (v : Shelved). CanEnter v.catalogue v.blobs t) (sym c.self.view_is) c.requires.can in
    entry_fits i.catalogue i.store.blobs i.tally.extents i.tally.ledger i.tally.uses c.self.invariant t can c.claim_at-free.result c.claim_at-free.new.self c.claim_at-free.ensures.free c.claim_at-free.ensures.taken c.claim_at-free.ensures.sound

pub enter-requires-clause-layer : goal.enter-requires-clause-layer
enter-requires-clause-layer c =
    let i = c.self.inside in
    let t = c.args.kept in
    let can = subst (λ (v : Shelved). CanEnter v.catalogue v.blobs t) (sym c.self.view_is) c.requires.can in
    (within_layers i.catalogue i.store.blobs i.tally.extents i.tally.ledger i.tally.uses c.self.invariant t.meta (layer_within i.catalogue t.meta can.meta)).1

pub invariant_of-self : goal.invariant_of-self
invariant_of-self c =
    let i = c.self.inside in
    let t = c.args.kept in
    let can = subst (λ (v : Shelved). CanEnter v.catalogue v.blobs t) (sym c.self.view_is) c.requires.can in
    let e = c.enter.ensures in
    entered_shelved i.catalogue i.store.blobs i.tally.extents i.tally.ledger i.tally.uses c.self.invariant t can c.claim_at-free.result c.claim_at-free.new.self c.claim_at-free.ensures.free c.claim_at-free.ensures.taken c.claim_at-free.ensures.sound
    _ c.put.new.self.blobs c.add.new.self c.enter.new.self c.away.ensures c.put.ensures.blobs c.add.ensures (record { policy = e.policy; layers = e.layers; now = e.now; uses = e.uses })

pub returns-clause-enters : goal.returns-clause-enters
returns-clause-enters c =
    let i = c.self.inside in
    let t = c.args.kept in
    let can = subst (λ (v : Shelved). CanEnter v.catalogue v.blobs t) (sym c.self.view_is) c.requires.can in
    let e = c.enter.ensures in
    let room = min c.put.new.self.spare (min c.claim_at-free.new.self.spare c.enter.new.self.spare) in
    subst (λ (v : Shelved). Enters t v (record { catalogue = i.catalogue; blobs = c.put.new.self.blobs; uses = c.enter.new.self.uses; clock = c.enter.new.self.now; room = room })) c.self.view_is
    (record { catalogue = refl; blobs = blobs_then i.catalogue i.store.blobs i.tally.extents i.tally.ledger i.tally.uses c.self.invariant t can _ c.put.new.self.blobs c.away.ensures c.put.ensures.blobs; clock = e.now; uses = e.uses })
