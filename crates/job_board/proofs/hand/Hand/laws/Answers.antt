use Rattle.std.proofs.Common.{◌≤◌, length, subst}
use Rattle.job_board.specs.Hands.{SheetHolding, own}
use Rattle.job_board.proofs.Held.{own_within}
use Rattle.job_board.proofs.hand.Hand.laws.Goals as goal

pub returns-clause-within : goal.returns-clause-within
returns-clause-within c =
    subst (λ (h : SheetHolding). length (own h).claimed ≤ h.sheet.places) c.self.view_is
    (own_within c.self.inside.seat.me.0.places c.self.inside.seat.me.0.hands c.self.inside.seat.me.0.seen c.self.inside.seat.me.0.number c.self.invariant.sound c.self.invariant.numbered)
