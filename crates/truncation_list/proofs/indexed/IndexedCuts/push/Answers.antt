use Rattle.std.proofs.Common.{◌∙◌, ◌++◌, ◌∷◌, [], ap, arith, subst, sym, List}
use Rattle.truncation_list.specs.declared.book.Cut.{Cut}
use Rattle.truncation_list.specs.Index.{IsIndexed}
use Rattle.truncation_list.specs.Listed.{HasRoomFor, Indexed}
use Rattle.truncation_list.specs.Purge.{IsAbove}
use Rattle.truncation_list.specs.Slots.{cuts_in}
use Rattle.truncation_list.proofs.InSlots.{cuts_pushed, filled_index}
use Rattle.truncation_list.proofs.indexed.IndexedCuts.push.Goals as goal

pub invariant_of-self : goal.invariant_of-self
invariant_of-self c =
    let old = c.self.inside.slots in
    let new = c.insert_reserved-slot.new.self in
    let order = c.self.inside.order.items in
    let slot = c.insert_reserved-slot.result in
    let cut : Cut = record { number = c.args.number; cover = c.args.cover.now } in
    let above = subst (λ (i : Indexed). IsAbove c.args.number i.cuts) (sym c.self.view_is) c.requires.above in
    let room = subst (λ (i : Indexed). HasRoomFor i.room c.args.cover.now) (sym c.self.view_is) c.requires.ready in
    let some = room.1 in
    let long = c.push_reserved.ensures.len in
    let h = c.self.invariant.0 in (
      subst (λ (slots : List _). IsIndexed new slots c.stand.new.self.shelves.items) (sym c.push_reserved.ensures.items)
          (filled_index old new order slot cut c.insert_reserved-slot.ensures.was_vacant c.insert_reserved-slot.ensures.updates h.taken c.self.inside.index.shelves.items c.stand.new.self.shelves.items c.stand.ensures.listed above c.requires.reachable h),
      omega (arith, long, some),
    )

pub returns : goal.returns
returns c =
    let old = c.self.inside.slots in
    let new = c.insert_reserved-slot.new.self in
    let order = c.self.inside.order.items in
    let cut : Cut = record { number = c.args.number; cover = c.args.cover.now } in
    ap (cuts_in new) c.push_reserved.ensures.items
    ∙ cuts_pushed old new order c.insert_reserved-slot.result cut c.insert_reserved-slot.ensures.was_vacant c.insert_reserved-slot.ensures.updates c.self.invariant.0.taken
    ∙ ap (λ (i : Indexed). i.cuts ++ cut ∷ []) c.self.view_is
