use Rattle.std.proofs.Common.{List, ap, sym, subst, ◌∙◌}
use Rattle.kept_areas.specs.Areas.{IsClear}
use Rattle.cabinet.specs.declared.kept.KeptBlob.{KeptBlob}
use Rattle.cabinet.specs.Ordered.{IsOrderOf, held_of, in_order, order_of}
use Rattle.cabinet.specs.Shelved.{Stored}
use Rattle.cabinet.proofs.Indexed.{index_dropped}
use Rattle.cabinet.proofs.Orders.{drop_order, dropped_out, others}
use Rattle.cabinet.proofs.store.Store.drop_of.Goals as goal

pub invariant_of-self : goal.invariant_of-self
invariant_of-self c =
    let i = c.self.inside in
    let m = c.args.meta.now in
    let held = held_of i.held.entries in
    let later = held_of c.drop_of.new.held.entries in
    record {
      order = subst (λ (bs : List KeptBlob). IsOrderOf bs later) (sym (dropped_out m held later c.drop_of.ensures.held (order_of i.puts.entries)))
          (drop_order m (in_order (order_of i.puts.entries) held) held later c.self.invariant.order c.drop_of.ensures.once c.drop_of.ensures.held);
      indexed = index_dropped m i.areas c.leave.new.self held later c.self.invariant.indexed c.leave.ensures.numbers c.drop_of.ensures.held;
    }

pub returns-clause-blobs : goal.returns-clause-blobs
returns-clause-blobs c =
    let i = c.self.inside in
    dropped_out c.args.meta.now (held_of i.held.entries) (held_of c.drop_of.new.held.entries) c.drop_of.ensures.held (order_of i.puts.entries) ∙ ap (λ (v : Stored). others c.args.meta.now v.blobs) c.self.view_is

pub returns-clause-clear : goal.returns-clause-clear
returns-clause-clear c = λ is_hit count clear. c.leave.ensures.clear is_hit count (subst (λ (v : Stored). IsClear is_hit count v.chunks) (sym c.self.view_is) clear)
