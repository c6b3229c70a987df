use Rattle.std.proofs.Common.{List, map, ap, sym, subst, ◌∙◌}
use Rattle.cabinet.specs.declared.kept.KeptBlob.{KeptBlob}
use Rattle.cabinet.specs.History.{with_uses}
use Rattle.cabinet.specs.Ordered.{IsOrderOf, held_of, in_order, order_of, recounted}
use Rattle.cabinet.specs.Shelved.{Stored}
use Rattle.cabinet.specs.State.{blobs_counted}
use Rattle.cabinet.proofs.Indexed.{index_counted}
use Rattle.cabinet.proofs.Recounts.{counted_list, counted_meta, mapped_is_order, mapped_order}
use Rattle.cabinet.proofs.store.Store.recount.Goals as goal

pub invariant_of-self : goal.invariant_of-self
invariant_of-self c =
    let i = c.self.inside in
    let f = recounted c.args.meta.now c.args.uses in
    let meta = counted_meta c.args.meta.now c.args.uses in
    let held = held_of i.held.entries in
    let later = held_of c.recount.new.held.entries in
    let order = order_of i.puts.entries in
    record {
      order = subst (λ (bs : List KeptBlob). IsOrderOf bs later) (sym (mapped_order f meta held later c.recount.ensures.held order))
          (mapped_is_order f meta (in_order order held) held later c.self.invariant.order c.recount.ensures.once c.recount.ensures.held);
      indexed = index_counted c.args.meta.now c.args.uses i.areas held later c.self.invariant.indexed c.recount.ensures.held;
    }

pub returns-clause-blobs : goal.returns-clause-blobs
returns-clause-blobs c =
    let i = c.self.inside in
    let m = c.args.meta.now in
    let f = recounted m c.args.uses in
    let held = held_of i.held.entries in
    let later = held_of c.recount.new.held.entries in
    let order = order_of i.puts.entries in
    mapped_order f (counted_meta m c.args.uses) held later c.recount.ensures.held order ∙ ap (λ (v : Stored). blobs_counted m c.args.uses v.blobs) c.self.view_is

pub returns-clause-kept : goal.returns-clause-kept
returns-clause-kept c =
    let i = c.self.inside in
    let m = c.args.meta.now in
    let f = recounted m c.args.uses in
    let held = held_of i.held.entries in
    let later = held_of c.recount.new.held.entries in
    let order = order_of i.puts.entries in
    ap (map (λ (b : KeptBlob). b.kept)) (mapped_order f (counted_meta m c.args.uses) held later c.recount.ensures.held order)
    ∙ counted_list m c.args.uses (in_order order held)
    ∙ ap (λ (v : Stored). map (with_uses m c.args.uses) (map (λ b. b.kept) v.blobs)) c.self.view_is
