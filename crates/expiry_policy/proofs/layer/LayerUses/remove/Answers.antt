use Rattle.std.proofs.Common.{◌≡◌, cond, None, sym, ap, subst, ◌∙◌, arith}
use Rattle.metatile_plan.specs.declared.metatile.MetaKey.{MetaKey}
use Rattle.metatile_plan.specs.Keys.{same_meta}
use Rattle.expiry_policy.specs.declared.order.Order.{Order}
use Rattle.expiry_policy.specs.declared.order.Ranking.TheVariants.{Expiry, Unsaved}
use Rattle.expiry_policy.specs.Entries.{use_at, uses_of}
use Rattle.expiry_policy.specs.Layers.{OfLayer, use_in}
use Rattle.expiry_policy.proofs.Changes.{changed_one, fewer_numbered, still_ordered}
use Rattle.expiry_policy.proofs.layer.LayerUses.remove.Goals as goal

pub settle-requires-clause-right : goal.settle-requires-clause-right
settle-requires-clause-right c =
    let t = c.pop.new.self in
    let before = c.self.invariant.expiry.size in
    changed_one t.order c.self.inside.held.entries c.take_out.new.held.entries t.winners.items c.unwrap-gone.result c.pop.ensures.ranked (λ i lt n. c.take_out.ensures.others i (omega arith) n)

pub settle-requires-2-clause-right : goal.settle-requires-2-clause-right
settle-requires-2-clause-right c =
    let t = c.pop-2.new.self in
    let before = c.self.invariant.unsaved.size in
    changed_one t.order c.self.inside.held.entries c.take_out.new.held.entries t.winners.items c.unwrap-gone.result c.pop-2.ensures.ranked (λ i lt n. c.take_out.ensures.others i (omega arith) n)

pub invariant_of-self : goal.invariant_of-self
invariant_of-self c =
    let es = c.self.inside.held.entries in
    let fs = c.take_out.new.held.entries in
    let first = c.self.invariant.expiry.size in
    let second = c.self.invariant.unsaved.size in
    record {
      numbered = fewer_numbered c.self.inside.number (use_at es c.unwrap-gone.result).meta (uses_of es) (uses_of fs) c.self.invariant.numbered c.take_out.ensures.uses;
      expiry = record {
        order = still_ordered Expiry c.self.inside.expiry.order c.settle.new.self.order (c.settle.ensures.order ∙ c.pop.ensures.order) c.self.invariant.expiry.order;
        size = omega arith;
        ranked = c.settle.ensures.ranked;
      };
      unsaved = record {
        order = c.settle-2.ensures.order ∙ c.pop-2.ensures.order ∙ c.self.invariant.unsaved.order ∙ ap (λ (o : Order). record { policy = o.policy; ranking = Unsaved }) (sym (c.settle.ensures.order ∙ c.pop.ensures.order));
        size = omega arith;
        ranked = c.settle-2.ensures.ranked;
      };
    }

pub returns-clause-uses : goal.returns-clause-uses
returns-clause-uses c = λ m.
    let key = rw c.unwrap-gone.ensures at c.index_of.ensures.meta in
    let each = subst (λ (k : MetaKey). use_in (uses_of c.take_out.new.held.entries) m ≡ cond (same_meta m k) None (use_in (uses_of c.self.inside.held.entries) m)) key (c.take_out.ensures.uses m) in
    subst (λ (l : OfLayer). use_in (uses_of c.take_out.new.held.entries) m ≡ cond (same_meta m c.args.meta.now) None (use_in l.uses m)) c.self.view_is each
