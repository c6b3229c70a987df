use Rattle.std.proofs.Common.{List, sym, subst}
use Rattle.cabinet.specs.declared.kept.KeptBlob.{KeptBlob}
use Rattle.cabinet.specs.Shelved.{IsShelved}
use Rattle.cabinet.proofs.OnShelf.{counted_shelved}
use Rattle.cabinet.proofs.shelf.KeptShelf.save.Goals as goal

pub invariant_of-self : goal.invariant_of-self
invariant_of-self c =
    let i = c.self.inside in
    let left = c.saved-uses.new.self in
    let saves = c.saved-uses.ensures in
    subst (λ (bs : List KeptBlob). IsShelved i.catalogue bs i.tally.extents i.tally.ledger left) (sym c.recount.ensures.blobs)
    (counted_shelved i.catalogue i.store.blobs i.tally.extents i.tally.ledger i.tally.uses c.self.invariant c.args.meta.now c.saved-uses.result left saves.policy saves.layers saves.uses)
