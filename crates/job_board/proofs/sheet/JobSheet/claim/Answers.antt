use Rattle.std.proofs.Common.{◌∙◌, ap, sym, subst, arith}
use Rattle.job_board.specs.Hands.{Sheet, SheetHolding}
use Rattle.job_board.specs.SheetCalls.{Claims, MeetsNone}
use Rattle.job_board.specs.Seats.{holding_of}
use Rattle.job_board.proofs.Held.{claims_place, claims_still, meets_none, number_of}
use Rattle.job_board.proofs.sheet.JobSheet.claim.Goals.{then-word-self, else-word-self}
use Rattle.job_board.proofs.sheet.JobSheet.claim.Goals as goal

pub invariant_of-hand : goal.invariant_of-hand
invariant_of-hand c =
    let number = number_of c.hand.inside.seat c.hand.inside.done.entries c.hand.inside.failed.entries c.args.hand.now c.hand.view_is c.requires.«open».0 in
    claims_still c.hand.inside.seat c.claim-word.new.seat c.hand.inside.done.entries c.hand.inside.failed.entries c.hand.invariant number c.claim-word.result c.claim-word.ensures.own c.claim-word.ensures.claimed

pub returns-clause-some : goal.returns-clause-some
returns-clause-some c =
    let number = number_of c.hand.inside.seat c.hand.inside.done.entries c.hand.inside.failed.entries c.args.hand.now c.hand.view_is c.requires.«open».0 in
    let places = ap (λ (h : SheetHolding). h.sheet.places) c.hand.view_is ∙ (ap (λ (s : Sheet). s.places) c.requires.own ∙ sym (ap (λ (s : Sheet). s.places) c.self.view_is)) in
    let bounded = c.self.inside.counts.bounded in
    elim c.if-word-self.branch [
      | then-word-self w ↦
          let below = w.if-word-self.true in
          rw w.result-is (subst (λ (h : SheetHolding). Claims h (holding_of c.claim-word.new.seat c.hand.inside.done.entries c.hand.inside.failed.entries) c.claim-word.result) c.hand.view_is
          (claims_place c.hand.inside.seat c.claim-word.new.seat c.hand.inside.done.entries c.hand.inside.failed.entries c.hand.invariant number c.claim-word.result c.claim-word.ensures.own c.claim-word.ensures.claimed (omega arith) (omega arith)))
      | else-word-self w ↦ rw w.result-is tt
    ]

pub returns-clause-none : goal.returns-clause-none
returns-clause-none c =
    let number = number_of c.hand.inside.seat c.hand.inside.done.entries c.hand.inside.failed.entries c.args.hand.now c.hand.view_is c.requires.«open».0 in
    let places = ap (λ (h : SheetHolding). h.sheet.places) c.hand.view_is ∙ (ap (λ (s : Sheet). s.places) c.requires.own ∙ sym (ap (λ (s : Sheet). s.places) c.self.view_is)) in
    elim c.if-word-self.branch [
      | then-word-self w ↦ rw w.result-is tt
      | else-word-self w ↦
          let above = w.if-word-self.false in
          rw w.result-is (subst (λ (h : SheetHolding). MeetsNone h (holding_of c.claim-word.new.seat c.hand.inside.done.entries c.hand.inside.failed.entries)) c.hand.view_is
          (meets_none c.hand.inside.seat c.claim-word.new.seat c.hand.inside.done.entries c.hand.inside.failed.entries c.hand.invariant number c.claim-word.result c.claim-word.ensures.own c.claim-word.ensures.claimed (omega arith)))
    ]
