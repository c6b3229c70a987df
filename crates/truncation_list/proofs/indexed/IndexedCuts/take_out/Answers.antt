use Rattle.std.proofs.Common.{ℕ, ◌<◌, ◌∙◌, ap, arith, length, subst, sym, List, Option}
use Rattle.std.specs.Prelude.{unwrap_or}
use Rattle.std.specs.List.{remove}
use Rattle.std.proofs.lemmas.List.{get_or_read, length-map}
use Rattle.truncation_list.specs.declared.book.Cut.{Cut}
use Rattle.truncation_list.specs.Index.{IsIndexed, stands}
use Rattle.truncation_list.specs.Listed.{HasRoomFor, Indexed}
use Rattle.truncation_list.specs.Slots.{cut_in, cuts_in, no_cut}
use Rattle.truncation_list.proofs.Indexing.{shorter_by}
use Rattle.truncation_list.proofs.InSlots.{cuts_removed, freed_one, removed}
use Rattle.truncation_list.proofs.Roomy.{room_after}
use Rattle.truncation_list.proofs.indexed.IndexedCuts.take_out.Goals as goal

pub invariant_of-self : goal.invariant_of-self
invariant_of-self c =
    let old = c.self.inside.slots in
    let new = c.remove-cut.new.self in
    let order = c.self.inside.order.items in
    let slot = c.remove-slot.result in
    let h = c.self.invariant.0 in
    let long = ap (λ (i : Indexed). length i.cuts) c.self.view_is in
    let within : c.args.i < length order = let n = length-map order (cut_in old) in let b = c.requires in omega (arith, n, long, b) in
    let out = removed (cut_in old) order c.args.i slot within (get_or_read order c.args.i slot within c.remove-slot.ensures.value 0) h.in_order.by_number in
    let most = c.self.invariant.1 in
    let fewer = c.remove-slot.ensures.len in (
      subst (λ (slots : List ℕ). IsIndexed new slots c.leave.new.self.shelves.items) (sym (c.remove-slot.ensures.items ∙ out))
          (freed_one old new order slot c.remove-cut.ensures.updates c.self.inside.index.shelves.items c.leave.new.self.shelves.items c.remove-cut.result.cover (sym (ap (λ (o : Option Cut). (unwrap_or o no_cut).cover) c.remove-cut.ensures.value)) c.leave.ensures.listed h),
      omega (arith, most, fewer),
    )

pub returns-clause-cuts : goal.returns-clause-cuts
returns-clause-cuts c =
    let old = c.self.inside.slots in
    let new = c.remove-cut.new.self in
    let order = c.self.inside.order.items in
    let slot = c.remove-slot.result in
    let h = c.self.invariant.0 in
    let long = ap (λ (i : Indexed). length i.cuts) c.self.view_is in
    let within : c.args.i < length order = let n = length-map order (cut_in old) in let b = c.requires in omega (arith, n, long, b) in
    let out = removed (cut_in old) order c.args.i slot within (get_or_read order c.args.i slot within c.remove-slot.ensures.value 0) h.in_order.by_number in
    ap (cuts_in new) (c.remove-slot.ensures.items ∙ out)
    ∙ cuts_removed old new order slot c.remove-cut.ensures.updates c.args.i out ∙ ap (λ (i : Indexed). remove i.cuts c.args.i) c.self.view_is

pub returns-clause-ready : goal.returns-clause-ready
returns-clause-ready c =
    let old = c.self.inside.order.ok.0 in
    let len = c.remove-slot.ensures.len in
    let space = c.remove-slot.ensures.capacity in
    let fewer = c.remove-cut.ensures.len in
    λ cover h.
    room_after c.self.inside.slots c.remove-cut.new.self _ _ c.self.inside.index.shelves.items c.leave.new.self.shelves.items cover c.remove-cut.ensures.capacity (omega (arith, fewer)) (omega (arith, len, space))
    (λ l g k. shorter_by (stands l g k c.remove-cut.result.cover) c.remove-slot.result _ _ (c.leave.ensures.listed l g k)) c.leave.ensures.capacity
    (subst (λ (i : Indexed). HasRoomFor i.room cover) (sym c.self.view_is) h)
