use Rattle.std.proofs.Common.{ℕ, ◌∙◌, ap, subst, sym, List}
use Rattle.std.proofs.lemmas.List.Elements.{All-filter}
use Rattle.slab.specs.Slab.{ContainsKey}
use Rattle.truncation_list.specs.Index.{list_of, standing, stands}
use Rattle.truncation_list.specs.Listed.{IsLastCovering, Indexed}
use Rattle.truncation_list.specs.Purge.{IsInOrder}
use Rattle.truncation_list.specs.Slots.{AreTaken, cut_in, cuts_in}
use Rattle.truncation_list.proofs.Along.{last_over}
use Rattle.truncation_list.proofs.InSlots.{in_order_kept}
use Rattle.truncation_list.proofs.Standing.{covers_stands}
use Rattle.truncation_list.proofs.indexed.IndexedCuts.last.Goals as goal

pub last_covering-requires-clause-taken : goal.last_covering-requires-clause-taken
last_covering-requires-clause-taken c =
    let slots = c.self.inside.slots in
    let a = c.args.a.now in
    let k = c.list_of.result in
    let list = c.list_in.ensures ∙ c.lists-lists.ensures k ∙ c.self.invariant.0.index a.theme.layer a.grid k in
    subst (AreTaken slots) (sym list) (All-filter (λ slot. stands a.theme.layer a.grid k (cut_in slots slot).cover) (ContainsKey slots) c.self.inside.order.items c.self.invariant.0.taken)

pub last_covering-requires-clause-order : goal.last_covering-requires-clause-order
last_covering-requires-clause-order c =
    let slots = c.self.inside.slots in
    let a = c.args.a.now in
    let k = c.list_of.result in
    let list = c.list_in.ensures ∙ c.lists-lists.ensures k ∙ c.self.invariant.0.index a.theme.layer a.grid k in
    subst (λ (slots' : List ℕ). IsInOrder (cuts_in slots slots')) (sym list) (in_order_kept (cut_in slots) (λ slot. stands a.theme.layer a.grid k (cut_in slots slot).cover) c.self.inside.order.items c.self.invariant.0.in_order)

pub returns : goal.returns
returns c =
    let slots = c.self.inside.slots in
    let a = c.args.a.now in
    let m = c.args.m.now in
    let k = c.list_of.result in
    let list = c.list_in.ensures ∙ c.lists-lists.ensures k ∙ c.self.invariant.0.index a.theme.layer a.grid k ∙ ap (λ (j : ℕ). standing a.theme.layer a.grid j slots c.self.inside.order.items) c.list_of.ensures in
    subst (λ (i : Indexed). IsLastCovering i.cuts m a c.last_covering.result) c.self.view_is
    (last_over (cut_in slots) (λ slot. stands a.theme.layer a.grid (list_of a.z) (cut_in slots slot).cover) c.self.inside.order.items m a c.last_covering.result (λ slot t. covers_stands (cut_in slots slot).cover m a t)
    (subst (λ (slots' : List ℕ). IsLastCovering (cuts_in slots slots') m a c.last_covering.result) list c.last_covering.ensures))
