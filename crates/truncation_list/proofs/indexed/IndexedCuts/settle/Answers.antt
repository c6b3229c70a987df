use Rattle.std.proofs.Common.{ℕ, ◌∙◌, ap, arith, is_some, length, subst, sym, List}
use Rattle.std.specs.List.{All}
use Rattle.slab.specs.Slab.{get}
use Rattle.truncation_list.specs.Index.{IsIndexed, listed}
use Rattle.truncation_list.specs.Listed.{HasRoomFor, Indexed, outermost}
use Rattle.truncation_list.specs.Slots.{cuts_in}
use Rattle.truncation_list.proofs.Filters.{filter_shorter}
use Rattle.truncation_list.proofs.Freeing.{Passed, cuts_settled, kept_same}
use Rattle.truncation_list.proofs.InSlots.{kept_index}
use Rattle.truncation_list.proofs.Roomy.{room_after}
use Rattle.truncation_list.proofs.indexed.IndexedCuts.settle.Goals as goal

pub invariant_of-self : goal.invariant_of-self
invariant_of-self c =
    let old = c.self.inside.slots in
    let new = c.free_outdone.new.slots in
    let order = c.self.inside.order.items in
    let before = c.self.inside.order.ok.0 in
    let after = c.keep_taken.new.list.ok.0 in
    let fewer = filter_shorter (λ slot. is_some (get new slot)) order in
    let left = ap (λ (slots : List ℕ). length slots) c.keep_taken.ensures.slots in
    let most = c.self.invariant.1 in
    let freed = subst (λ (xs : List ℕ). All (Passed old xs new) xs) c.deref.ensures.value c.free_outdone.ensures.slots in (
      subst (λ (slots : List ℕ). IsIndexed new slots c.keep.new.self.shelves.items) (sym c.keep_taken.ensures.slots)
          (kept_index old new order (kept_same old order new freed) c.self.inside.index.shelves.items c.keep.new.self.shelves.items c.keep.ensures.listed c.self.invariant.0),
      omega (arith, before, after, fewer, left, most),
    )

pub returns-clause-cuts : goal.returns-clause-cuts
returns-clause-cuts c =
    let old = c.self.inside.slots in
    let new = c.free_outdone.new.slots in
    let order = c.self.inside.order.items in
    let freed = subst (λ (xs : List ℕ). All (Passed old xs new) xs) c.deref.ensures.value c.free_outdone.ensures.slots in
    ap (cuts_in new) c.keep_taken.ensures.slots
    ∙ cuts_settled old order new freed c.self.invariant.0.taken c.self.invariant.0.in_order.by_number ∙ ap (λ (i : Indexed). outermost i.cuts) c.self.view_is

pub returns-clause-ready : goal.returns-clause-ready
returns-clause-ready c =
    let old = c.self.inside.slots in
    let new = c.free_outdone.new.slots in
    let order = c.self.inside.order.items in
    let before = c.self.inside.order.ok.0 in
    let after = c.keep_taken.new.list.ok.0 in
    let fewer = filter_shorter (λ slot. is_some (get new slot)) order in
    let left = ap (λ (slots : List ℕ). length slots) c.keep_taken.ensures.slots in
    let space = c.keep_taken.ensures.capacity in
    λ cover h.
    room_after old new _ _ c.self.inside.index.shelves.items c.keep.new.self.shelves.items cover c.free_outdone.ensures.capacity c.free_outdone.ensures.len (omega (arith, before, after, fewer, left, space))
    (λ l g k. let less = filter_shorter (λ slot. is_some (get new slot)) (listed c.self.inside.index.shelves.items l g k) in let e = ap (λ (slots : List ℕ). length slots) (c.keep.ensures.listed l g k) in omega (arith, less, e)) c.keep.ensures.capacity
    (subst (λ (i : Indexed). HasRoomFor i.room cover) (sym c.self.view_is) h)
