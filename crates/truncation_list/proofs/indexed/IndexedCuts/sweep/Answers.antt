use Rattle.std.proofs.Common.{ℕ, ◌≤◌, ◌∙◌, ap, arith, count_by, is_some, length, subst, sym, List}
use Rattle.std.specs.Prelude.{filter}
use Rattle.slab.specs.Slab.{get, slab_len}
use Rattle.truncation_list.specs.Index.{IsIndexed, listed}
use Rattle.truncation_list.specs.Listed.{HasRoomFor, Indexed}
use Rattle.truncation_list.specs.Slots.{cuts_in, stays}
use Rattle.truncation_list.proofs.Filters.{filter_shorter}
use Rattle.truncation_list.proofs.InSlots.{cuts_freed, freed_index, no_more_taken}
use Rattle.truncation_list.proofs.Roomy.{room_after}
use Rattle.truncation_list.proofs.indexed.IndexedCuts.sweep.Goals as goal

pub invariant_of-self : goal.invariant_of-self
invariant_of-self c =
    let old = c.self.inside.slots in
    let new = c.free_going.new.slots in
    let order = c.self.inside.order.items in
    let before = c.self.inside.order.ok.0 in
    let after = c.keep_taken.new.list.ok.0 in
    let fewer = filter_shorter (λ slot. is_some (get new slot)) order in
    let left = ap (λ (slots : List ℕ). length slots) c.keep_taken.ensures.slots in
    let most = c.self.invariant.1 in (
      subst (λ (slots : List ℕ). IsIndexed new slots c.keep.new.self.shelves.items) (sym c.keep_taken.ensures.slots)
          (freed_index c.args.cover.now c.args.least old new order c.free_going.ensures.slots c.self.inside.index.shelves.items c.keep.new.self.shelves.items c.keep.ensures.listed c.self.invariant.0),
      omega (arith, before, after, fewer, left, most),
    )

pub returns-clause-cuts : goal.returns-clause-cuts
returns-clause-cuts c =
    let old = c.self.inside.slots in
    let new = c.free_going.new.slots in
    let order = c.self.inside.order.items in
    ap (cuts_in new) c.keep_taken.ensures.slots
    ∙ cuts_freed c.args.cover.now c.args.least old new order c.free_going.ensures.slots c.self.invariant.0.taken
    ∙ ap (λ (i : Indexed). filter (stays c.args.cover.now c.args.least) i.cuts) c.self.view_is

pub returns-clause-ready : goal.returns-clause-ready
returns-clause-ready c =
    let old = c.self.inside.slots in
    let new = c.free_going.new.slots in
    let order = c.self.inside.order.items in
    let before = c.self.inside.order.ok.0 in
    let after = c.keep_taken.new.list.ok.0 in
    let fewer = filter_shorter (λ slot. is_some (get new slot)) order in
    let left = ap (λ (slots : List ℕ). length slots) c.keep_taken.ensures.slots in
    let space = c.keep_taken.ensures.capacity in
    let count : slab_len new ≤ slab_len old = let e = ap (λ slots. count_by is_some slots) c.free_going.ensures.slots in let few = no_more_taken c.args.cover.now c.args.least old.slots in omega (arith, e, few) in
    λ cover h.
    room_after old new _ _ c.self.inside.index.shelves.items c.keep.new.self.shelves.items cover c.free_going.ensures.capacity count (omega (arith, before, after, fewer, left, space))
    (λ l g k. let less = filter_shorter (λ slot. is_some (get new slot)) (listed c.self.inside.index.shelves.items l g k) in let e = ap (λ (slots : List ℕ). length slots) (c.keep.ensures.listed l g k) in omega (arith, less, e)) c.keep.ensures.capacity
    (subst (λ (i : Indexed). HasRoomFor i.room cover) (sym c.self.view_is) h)
