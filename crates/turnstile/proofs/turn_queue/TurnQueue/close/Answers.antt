use Rattle.std.proofs.Common.{◌≡◌, ◌∙◌, refl, sym, arith, slice_index_or, false, true, Some}
use Rattle.std.specs.Slots.{slots_filled, slots_items}
use Rattle.turnstile.specs.Steps.{Found}
use Rattle.turnstile.specs.Passes.{knows}
use Rattle.turnstile.proofs.Seats.{same_at}
use Rattle.turnstile.proofs.Moves.{closes, lodged_is}
use Rattle.turnstile.proofs.turn_queue.TurnQueue.close.Goals as goal

pub take-slot-requires : goal.take-slot-requires
take-slot-requires g c =
    let counts = c.close_with-closed.ensures.counts in
    let sized = c.args.self.sized in
    let full : slice_index_or (slots_filled c.close_with-closed.result.slots) 0 false ≡ true = c.close_with-closed.ensures.values.1 0 (omega arith) (omega arith) in
    (omega arith, rw full refl)

pub unreachable-requires : goal.unreachable-requires
unreachable-requires g c =
    let counted = c.args.self.counted in
    let ready = c.requires.all in
    let e = closes g.C.Chest.charter g.C.Chest.book g.C.Chest.sound _ _ _ _ _ c.close_with-closed.ensures.values.2 ready.live ready.idle (ready.parts_is ∙ sym counted.0) in
    let same : Some e.0 ≡ c.take-slot.result = same_at (slots_items c.close_with-closed.result.slots) 0 _ _ e.1 c.take-slot.ensures.value in
    let is = c.in_default.is in
    cc

pub returns-clause-found : goal.returns-clause-found
returns-clause-found g c =
    let counted = c.args.self.counted in
    let ready = c.requires.all in
    let e = closes g.C.Chest.charter g.C.Chest.book g.C.Chest.sound _ _ _ _ _ c.close_with-closed.ensures.values.2 ready.live ready.idle (ready.parts_is ∙ sym counted.0) in
    let same : Some e.0 ≡ c.take-slot.result = same_at (slots_items c.close_with-closed.result.slots) 0 _ _ e.1 c.take-slot.ensures.value in
    lodged_is (λ l. Found g.C.Chest.charter g.C.Chest.sound g.C.Chest.book (knows c.args.seat).own l.chest) _ _ (same ∙ c.in-Some.is) e.2

pub returns-clause-line : goal.returns-clause-line
returns-clause-line g c =
    let counted = c.args.self.counted in
    let ready = c.requires.all in
    (closes g.C.Chest.charter g.C.Chest.book g.C.Chest.sound _ _ _ _ _ c.close_with-closed.ensures.values.2 ready.live ready.idle (ready.parts_is ∙ sym counted.0)).3
