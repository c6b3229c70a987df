use Rattle.std.proofs.Common.{◌≡◌, ◌<◌, cond, Some, sym, ap, subst, ◌∙◌}
use Rattle.metatile_plan.specs.Keys.{same_meta}
use Rattle.expiry_policy.specs.declared.order.Order.{Order}
use Rattle.expiry_policy.specs.declared.order.Ranking.TheVariants.{Expiry, Unsaved}
use Rattle.expiry_policy.specs.Entries.{uses_of}
use Rattle.expiry_policy.specs.Layers.{OfLayer, use_in}
use Rattle.expiry_policy.proofs.Changes.{changed_one, ranked_before, still_numbered, still_ordered}
use Rattle.expiry_policy.proofs.layer.LayerUses.put.Goals as goal

pub settle-requires-clause-right : goal.settle-requires-clause-right
settle-requires-clause-right c =
    let t = c.self.inside.expiry in
    changed_one t.order c.self.inside.held.entries c.change.new.held.entries t.winners.items c.in-Some.at c.self.invariant.expiry.ranked (λ i _ n. c.change.ensures.others i n)

pub settle-requires-in-Some-clause-right : goal.settle-requires-in-Some-clause-right
settle-requires-in-Some-clause-right c =
    let t = c.self.inside.unsaved in
    changed_one t.order c.self.inside.held.entries c.change.new.held.entries t.winners.items c.in-Some.at c.self.invariant.unsaved.ranked (λ i _ n. c.change.ensures.others i n)

pub invariant_of-self : goal.invariant_of-self
invariant_of-self c =
    let numbered = still_numbered c.self.inside.number c.args.entry.now.meta (Some c.args.entry.now) (uses_of c.self.inside.held.entries) (uses_of c.change.new.held.entries) c.self.invariant.numbered
    (c.requires.layer ∙ sym (ap (λ (l : OfLayer). l.number) c.self.view_is)) c.change.ensures.uses in
    record {
      numbered = numbered;
      expiry = record {
        order = still_ordered Expiry c.self.inside.expiry.order c.settle.new.self.order c.settle.ensures.order c.self.invariant.expiry.order;
        size = c.settle.ensures.size ∙ c.self.invariant.expiry.size ∙ sym c.change.ensures.size;
        ranked = c.settle.ensures.ranked;
      };
      unsaved = record {
        order = c.settle-in-Some.ensures.order ∙ c.self.invariant.unsaved.order ∙ ap (λ (o : Order). record { policy = o.policy; ranking = Unsaved }) (sym c.settle.ensures.order);
        size = c.settle-in-Some.ensures.size ∙ c.self.invariant.unsaved.size ∙ sym c.change.ensures.size;
        ranked = c.settle-in-Some.ensures.ranked;
      };
    }

pub push-requires-clause-ranked : goal.push-requires-clause-ranked
push-requires-clause-ranked c =
    let t = c.self.inside.expiry in
    ranked_before t.order c.self.inside.held.entries c.add.new.held.entries t.winners.items c.self.invariant.expiry.ranked (λ i lt. c.add.ensures.others i (subst (λ n. i < n) c.self.invariant.expiry.size lt))

pub push-requires-in-None-clause-ranked : goal.push-requires-in-None-clause-ranked
push-requires-in-None-clause-ranked c =
    let t = c.self.inside.unsaved in
    ranked_before t.order c.self.inside.held.entries c.add.new.held.entries t.winners.items c.self.invariant.unsaved.ranked (λ i lt. c.add.ensures.others i (subst (λ n. i < n) c.self.invariant.unsaved.size lt))

pub returns-in-Some-clause-uses : goal.returns-in-Some-clause-uses
returns-in-Some-clause-uses c = λ m.
    subst (λ (l : OfLayer). use_in (uses_of c.change.new.held.entries) m ≡ cond (same_meta m c.args.entry.now.meta) (Some c.args.entry.now) (use_in l.uses m)) c.self.view_is (c.change.ensures.uses m)
