use Rattle.std.proofs.Common.{length, ap, sym, subst, ◌∙◌}
use Rattle.std.specs.List.Sorted.{IsPermutation}
use Rattle.std.proofs.lemmas.List.{length-map}
use Rattle.cabinet.specs.Fresh.{ApartBy}
use Rattle.cabinet.specs.Ordered.{as_kept, held_of, in_order, order_of}
use Rattle.cabinet.specs.Shelved.{Stored}
use Rattle.cabinet.proofs.Orders.{permuted}
use Rattle.cabinet.proofs.Told.{told_count}
use Rattle.cabinet.proofs.store.Store.count.Goals as goal

pub returns-clause-count : goal.returns-clause-count
returns-clause-count c =
    let i = c.self.inside in
    c.len.ensures.len ∙ told_count i.held.entries (in_order (order_of i.puts.entries) (held_of i.held.entries)) c.self.invariant.order ∙ ap (λ (v : Stored). length v.blobs) c.self.view_is

pub returns-clause-held : goal.returns-clause-held
returns-clause-held c =
    let i = c.self.inside in
    c.len.ensures.len ∙ sym (length-map i.held.entries as_kept) ∙ ap (λ (v : Stored). length v.held) c.self.view_is

pub returns-clause-order : goal.returns-clause-order
returns-clause-order c =
    let i = c.self.inside in
    subst (λ (v : Stored). IsPermutation v.blobs v.held) c.self.view_is (permuted (in_order (order_of i.puts.entries) (held_of i.held.entries)) (held_of i.held.entries) c.self.invariant.order)

pub returns-clause-once : goal.returns-clause-once
returns-clause-once c = subst (λ (v : Stored). ApartBy (λ b. b.kept.meta) v.blobs) c.self.view_is c.self.invariant.order.once
