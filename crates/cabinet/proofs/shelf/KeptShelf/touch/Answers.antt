use Rattle.std.proofs.Common.{IsSome, find, sym, subst}
use Rattle.cabinet.specs.History.{is_of}
use Rattle.cabinet.specs.Shelved.{Shelved}
use Rattle.cabinet.proofs.OnShelf.{key_held, listed_some, touched_shelved}
use Rattle.cabinet.proofs.shelf.KeptShelf.touch.Goals as goal

pub touch-requires : goal.touch-requires
touch-requires c =
    let i = c.self.inside in
    let some = subst (λ (v : Shelved). IsSome (find (λ b. is_of c.args.meta.now b.kept) v.blobs)) (sym c.self.view_is) c.requires in
    key_held i.catalogue i.store.blobs i.tally.extents i.tally.ledger i.tally.uses c.self.invariant c.args.meta.now (listed_some i.catalogue i.store.blobs i.tally.extents i.tally.ledger i.tally.uses c.self.invariant c.args.meta.now some)

pub invariant_of-self : goal.invariant_of-self
invariant_of-self c =
    let i = c.self.inside in
    touched_shelved i.catalogue i.store.blobs i.tally.extents i.tally.ledger i.tally.uses c.self.invariant c.args.meta.now _ c.touch.new.self c.touch.ensures.policy c.touch.ensures.layers c.touch.ensures.uses
