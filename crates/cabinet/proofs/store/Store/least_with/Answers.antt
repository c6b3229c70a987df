use Rattle.std.proofs.Common.{fold, map, ap, ◌∙◌}
use Rattle.kept_areas.specs.Areas.{all_spots}
use Rattle.cabinet.specs.History.{lesser}
use Rattle.cabinet.specs.Ordered.{held_of, in_order, order_of}
use Rattle.cabinet.specs.Shelved.{Stored}
use Rattle.cabinet.proofs.Indexed.{numbers_same, order_indexed}
use Rattle.cabinet.proofs.store.Store.least_with.Goals as goal

pub returns : goal.returns
returns c =
    let i = c.self.inside in
    let blobs = in_order (order_of i.puts.entries) (held_of i.held.entries) in
    c.least_with.ensures.least
    ∙ numbers_same c.args.was (all_spots i.areas.chunks) blobs c.least_with.ensures.once c.self.invariant.order.once (order_indexed i.areas blobs (held_of i.held.entries) c.self.invariant)
    ∙ ap (λ (v : Stored). fold lesser c.args.was (map (λ b. b.kept.number) v.blobs)) c.self.view_is
