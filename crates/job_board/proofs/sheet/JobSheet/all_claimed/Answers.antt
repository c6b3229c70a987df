use Rattle.std.proofs.Common.{◌∙◌, ap, subst}
use Rattle.job_board.specs.Standings.{IsSound}
use Rattle.job_board.specs.Hands.{Sheet, SheetHolding}
use Rattle.job_board.specs.SheetCalls.{ShareOut}
use Rattle.job_board.proofs.Gathered.{all_places, shares_out}
use Rattle.job_board.proofs.sheet.JobSheet.all_claimed.Goals as goal

pub returns-clause-shared : goal.returns-clause-shared
returns-clause-shared c hands gathered =
    let sound = subst (λ (h : SheetHolding). IsSound h.sheet.places h.sheet.hands h.seen) c.hand.view_is c.hand.invariant.sound in
    subst (λ (s : Sheet). ShareOut s.places hands) c.requires.own (shares_out c.args.hand.now hands sound gathered)

pub returns-clause-all : goal.returns-clause-all
returns-clause-all c hands h gathered there ended =
    let sound = subst (λ (h : SheetHolding). IsSound h.sheet.places h.sheet.hands h.seen) c.hand.view_is c.hand.invariant.sound in
    all_places c.args.hand.now hands sound gathered h there ended ∙ ap (λ (s : Sheet). s.places) c.requires.own
