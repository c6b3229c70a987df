use Rattle.std.proofs.Common.{◌≡◌, length, ap, subst}
use Rattle.job_board.specs.Hands.{Sheet, SheetHolding}
use Rattle.job_board.specs.SheetCalls.{Cancels}
use Rattle.job_board.specs.Seats.{holding_of}
use Rattle.job_board.proofs.Held.{cancels_of, cancels_still}
use Rattle.job_board.proofs.Telling.{cancelled_still}
use Rattle.job_board.proofs.sheet.JobSheet.cancel.Goals as goal

pub invariant_of-hand : goal.invariant_of-hand
invariant_of-hand c = cancels_still c.hand.inside.seat c.cancel.new.seat c.hand.inside.done.entries c.hand.inside.failed.entries c.hand.invariant c.cancel.ensures.own c.cancel.ensures.cancelled

pub returns-clause-cancels : goal.returns-clause-cancels
returns-clause-cancels c = subst (λ (h : SheetHolding). Cancels h (holding_of c.cancel.new.seat c.hand.inside.done.entries c.hand.inside.failed.entries)) c.hand.view_is
    (cancels_of c.hand.inside.seat c.cancel.new.seat c.hand.inside.done.entries c.hand.inside.failed.entries c.hand.invariant c.cancel.ensures.own c.cancel.ensures.cancelled)

pub returns-clause-stays : goal.returns-clause-stays
returns-clause-stays c =
    let as_many = subst (λ (h : SheetHolding). length h.seen.accounts ≡ h.sheet.hands) c.hand.view_is c.hand.invariant.sound.all in
    cancelled_still c.args.hand.now _ c.args.self.now.hands (ap (λ (s : Sheet). s.hands) c.requires.own) as_many (returns-clause-cancels c)
