use Rattle.std.proofs.Common.{ap, sym, ◌∙◌}
use Rattle.cabinet.specs.Ordered.{held_at}
use Rattle.cabinet.specs.Shelved.{Stored}
use Rattle.cabinet.proofs.store.Store.get.Goals as goal

pub returns : goal.returns
returns c = c.blob_of.ensures ∙ sym (c.self.invariant.order.same c.args.meta.now) ∙ ap (λ (v : Stored). held_at v.blobs c.args.meta.now) c.self.view_is
