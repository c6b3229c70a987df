use Rattle.std.proofs.Common.{length, ap, ◌∙◌, arith}
use Rattle.cabinet.specs.Shelved.{Shelved}
use Rattle.cabinet.proofs.OnShelf.{few_in}
use Rattle.cabinet.proofs.PerLayer.{layer_count, of_layer}
use Rattle.cabinet.proofs.shelf.KeptShelf.kept_in.Goals as goal

pub overflow_cast-result : goal.overflow_cast-result
overflow_cast-result c =
    let i = c.self.inside in
    let uses = c.count_in.ensures in
    let long = layer_count i.catalogue i.store.blobs i.tally.extents i.tally.ledger i.tally.uses c.self.invariant c.args.layer uses.layer uses.apart in
    omega (arith, uses.count, long, few_in i.catalogue i.store.blobs i.tally.extents i.tally.ledger i.tally.uses c.self.invariant c.args.layer)

pub returns : goal.returns
returns c =
    let i = c.self.inside in
    let uses = c.count_in.ensures in
    uses.count
    ∙ layer_count i.catalogue i.store.blobs i.tally.extents i.tally.ledger i.tally.uses c.self.invariant c.args.layer uses.layer uses.apart
    ∙ ap (λ (v : Shelved). length (of_layer c.args.layer v.blobs)) c.self.view_is
