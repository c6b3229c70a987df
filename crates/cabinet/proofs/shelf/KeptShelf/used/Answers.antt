use Rattle.std.proofs.Common.{◌<◌, length, ap, sym, subst, ◌∙◌}
use Rattle.cabinet.specs.Shelved.{Shelved, used_on}
use Rattle.cabinet.proofs.OnShelf.{its_account, layer_used}
use Rattle.cabinet.proofs.shelf.KeptShelf.used.Goals as goal

pub used-requires : goal.used-requires
used-requires c =
    let i = c.self.inside in
    its_account i.catalogue i.store.blobs i.tally.extents i.tally.ledger i.tally.uses c.self.invariant c.args.layer (subst (λ (v : Shelved). c.args.layer < length v.catalogue.layers) (sym c.self.view_is) c.requires)

pub returns : goal.returns
returns c =
    let i = c.self.inside in
    let layer = subst (λ (v : Shelved). c.args.layer < length v.catalogue.layers) (sym c.self.view_is) c.requires in
    c.used.ensures ∙ layer_used i.catalogue i.store.blobs i.tally.extents i.tally.ledger i.tally.uses c.self.invariant c.args.layer layer ∙ ap (λ (v : Shelved). used_on v c.args.layer) c.self.view_is
