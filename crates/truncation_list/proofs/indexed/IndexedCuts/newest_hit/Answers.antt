use Rattle.std.proofs.Common.{ℕ, ◌∙◌, ap, get_or, subst, sym, List}
use Rattle.std.specs.Prelude.{nat_le}
use Rattle.std.proofs.lemmas.List.Elements.{All-filter}
use Rattle.slab.specs.Slab.{ContainsKey}
use Rattle.truncation_list.specs.Covers.{hits}
use Rattle.truncation_list.specs.Index.{list_of, standing, stands}
use Rattle.truncation_list.specs.Listed.{Indexed, is_hit_since}
use Rattle.truncation_list.specs.Purge.{IsInOrder}
use Rattle.truncation_list.specs.Slots.{AreTaken, cut_in, cuts_in}
use Rattle.truncation_list.proofs.Decided.{both}
use Rattle.truncation_list.proofs.HitRules.{hits_since}
use Rattle.truncation_list.proofs.InSlots.{in_order_kept}
use Rattle.truncation_list.proofs.Outdone.{any_passing}
use Rattle.truncation_list.proofs.Standing.{hits_stands}
use Rattle.truncation_list.proofs.indexed.IndexedCuts.newest_hit.Goals as goal

pub hit_since-requires-clause-taken : goal.hit_since-requires-clause-taken
hit_since-requires-clause-taken c =
    let slots = c.self.inside.slots in
    let b = c.args.block.now in
    let k = c.list_of.result in
    let list = c.list_in.ensures ∙ c.lists-lists.ensures k ∙ c.self.invariant.0.index b.theme.layer b.grid k in
    subst (AreTaken slots) (sym list) (All-filter (λ slot. stands b.theme.layer b.grid k (cut_in slots slot).cover) (ContainsKey slots) c.self.inside.order.items c.self.invariant.0.taken)

pub hit_since-requires-clause-order : goal.hit_since-requires-clause-order
hit_since-requires-clause-order c =
    let slots = c.self.inside.slots in
    let b = c.args.block.now in
    let k = c.list_of.result in
    let list = c.list_in.ensures ∙ c.lists-lists.ensures k ∙ c.self.invariant.0.index b.theme.layer b.grid k in
    subst (λ (slots' : List ℕ). IsInOrder (cuts_in slots slots')) (sym list) (in_order_kept (cut_in slots) (λ slot. stands b.theme.layer b.grid k (cut_in slots slot).cover) c.self.inside.order.items c.self.invariant.0.in_order)

pub returns : goal.returns
returns c =
    let slots = c.self.inside.slots in
    let b = c.args.block.now in
    let m = c.args.m.now in
    let number = c.args.number in
    let order = c.self.inside.order.items in
    let k = c.list_of.result in
    let list = c.list_in.ensures ∙ c.lists-lists.ensures k ∙ c.self.invariant.0.index b.theme.layer b.grid k ∙ ap (λ (j : ℕ). standing b.theme.layer b.grid j slots order) c.list_of.ensures in
    c.hit_since.ensures
    ∙ ap (λ (xs : List ℕ). is_hit_since (cuts_in slots xs) m b number) list
    ∙ any_passing (cut_in slots) (hits_since m b number) (λ slot. stands b.theme.layer b.grid (list_of b.z) (cut_in slots slot).cover) order
    (λ i d l t. hits_stands (cut_in slots (get_or order i d)).cover m b (both (nat_le number (cut_in slots (get_or order i d)).number) (hits (cut_in slots (get_or order i d)).cover m b) t).1)
    ∙ ap (λ (i : Indexed). is_hit_since i.cuts m b number) c.self.view_is
