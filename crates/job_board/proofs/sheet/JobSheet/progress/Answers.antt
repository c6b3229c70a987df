use Rattle.std.proofs.Common.{◌≡◌, ◌∙◌, ◌/◌, ◌%◌, ◌^◌, leb, length, ap, refl, subst, sym, arith}
use Rattle.job_board.specs.declared.progress.Progress.{Progress}
use Rattle.job_board.specs.Hands.{Sheet, SheetHolding}
use Rattle.job_board.specs.SheetCalls.{IsSettled, Tells}
use Rattle.job_board.specs.Seats.{holding_of}
use Rattle.job_board.proofs.Telling.{adds_up, final, looks_of, looks_still, tells, told_still}
use Rattle.job_board.proofs.sheet.JobSheet.progress.Goals as goal

pub invariant_of-hand : goal.invariant_of-hand
invariant_of-hand c = looks_still c.hand.inside.seat c.read_done-reported.new.seat c.read_failed-failed.new.seat c.read_claims-word.new.seat c.hand.inside.done.entries c.hand.inside.failed.entries c.hand.invariant _ _ _
    c.read_done-reported.ensures.read c.read_failed-failed.ensures.read c.read_claims-word.ensures.read

pub returns-clause-tells : goal.returns-clause-tells
returns-clause-tells c =
    let looks = looks_of c.hand.inside.seat c.read_done-reported.new.seat c.read_failed-failed.new.seat c.read_claims-word.new.seat c.hand.inside.done.entries c.hand.inside.failed.entries c.hand.invariant _ _ _
    c.read_done-reported.ensures.read c.read_failed-failed.ensures.read c.read_claims-word.ensures.read c.read_done-reported.ensures.own c.read_failed-failed.ensures.own c.read_claims-word.ensures.own in
    let same = ap (λ (h : SheetHolding). h.sheet) c.hand.view_is ∙ (c.requires.own ∙ sym c.self.view_is) in
    let places = ap (λ (s : Sheet). s.places) same in
    let hands = ap (λ (s : Sheet). s.hands) same in
    let bounded = c.self.inside.counts.bounded in
    let answer : Progress = record { places = c.self.inside.counts.places; claimed = c.min.result; done = c.read_done-reported.result % 2 ^ 32; failed = c.read_failed-failed.result; unkept = c.read_done-reported.result / 2 ^ 32; cancelled = leb (2 ^ 63) c.read_claims-word.result } in
    subst (λ (h : SheetHolding). Tells h (holding_of c.read_claims-word.new.seat c.hand.inside.done.entries c.hand.inside.failed.entries) answer) c.hand.view_is
    (tells (holding_of c.hand.inside.seat c.hand.inside.done.entries c.hand.inside.failed.entries) (holding_of c.read_claims-word.new.seat c.hand.inside.done.entries c.hand.inside.failed.entries)
    c.read_done-reported.result c.read_failed-failed.result c.read_claims-word.result answer (omega arith) (omega arith) looks (sym places) (let m = c.min.ensures in omega arith) refl refl refl refl)

pub returns-clause-adds_up : goal.returns-clause-adds_up
returns-clause-adds_up c =
    let as_many = subst (λ (h : SheetHolding). length h.seen.accounts ≡ h.sheet.hands) c.hand.view_is c.hand.invariant.sound.all in
    adds_up c.args.hand.now _ _ as_many (returns-clause-tells c)

pub returns-clause-settled : goal.returns-clause-settled
returns-clause-settled c settled =
    let as_many = subst (λ (h : SheetHolding). length h.seen.accounts ≡ h.sheet.hands) c.hand.view_is c.hand.invariant.sound.all in
    final c.args.hand.now _ _ as_many (returns-clause-tells c) (subst (λ n. IsSettled n c.args.hand.now.seen) (sym (ap (λ (s : Sheet). s.hands) c.requires.own)) settled)

pub returns-clause-stays : goal.returns-clause-stays
returns-clause-stays c =
    let as_many = subst (λ (h : SheetHolding). length h.seen.accounts ≡ h.sheet.hands) c.hand.view_is c.hand.invariant.sound.all in
    told_still c.args.hand.now _ _ as_many (returns-clause-tells c) c.args.self.now.hands (ap (λ (s : Sheet). s.hands) c.requires.own)
