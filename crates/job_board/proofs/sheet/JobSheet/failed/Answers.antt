use Rattle.std.proofs.Common.{ℕ, List, sym, subst}
use Rattle.job_board.specs.Hands.{MayReport, SheetHolding}
use Rattle.job_board.specs.SheetCalls.{ReportsFailed}
use Rattle.job_board.specs.Seats.{IsHand, holding_of}
use Rattle.job_board.proofs.Held.{failed_still, reports_failed_of, reports_number, reports_some}
use Rattle.job_board.proofs.sheet.JobSheet.failed.Goals as goal

pub report_failed-requires-clause-hand : goal.report_failed-requires-clause-hand
report_failed-requires-clause-hand c =
    let may = subst (λ (h : SheetHolding). MayReport h c.args.place) (sym c.hand.view_is) c.requires.unreported in
    reports_number c.hand.inside.seat c.hand.inside.done.entries c.hand.inside.failed.entries c.args.place may

pub report_failed-requires-clause-unreported : goal.report_failed-requires-clause-unreported
report_failed-requires-clause-unreported c =
    let may = subst (λ (h : SheetHolding). MayReport h c.args.place) (sym c.hand.view_is) c.requires.unreported in
    reports_some c.hand.inside.seat c.hand.inside.done.entries c.hand.inside.failed.entries c.args.place c.hand.invariant may

pub invariant_of-hand : goal.invariant_of-hand
invariant_of-hand c =
    let may = subst (λ (h : SheetHolding). MayReport h c.args.place) (sym c.hand.view_is) c.requires.unreported in
    subst (λ (l : List ℕ). IsHand c.report_failed.new.seat.me c.hand.inside.done.entries l) (sym c.and-hand-inside.ensures)
    (failed_still c.hand.inside.seat c.report_failed.new.seat c.hand.inside.done.entries c.hand.inside.failed.entries c.hand.invariant c.report_failed.ensures.own c.args.place may c.report_failed.ensures.reported)

pub returns : goal.returns
returns c =
    let may = subst (λ (h : SheetHolding). MayReport h c.args.place) (sym c.hand.view_is) c.requires.unreported in
    subst (λ (h : SheetHolding). ReportsFailed h (holding_of c.report_failed.new.seat c.hand.inside.done.entries c.and-hand-inside.result.entries) c.args.place) c.hand.view_is
    (subst (λ (l : List ℕ). ReportsFailed (holding_of c.hand.inside.seat c.hand.inside.done.entries c.hand.inside.failed.entries) (holding_of c.report_failed.new.seat c.hand.inside.done.entries l) c.args.place) (sym c.and-hand-inside.ensures)
    (reports_failed_of c.hand.inside.seat c.report_failed.new.seat c.hand.inside.done.entries c.hand.inside.failed.entries c.hand.invariant c.report_failed.ensures.own c.args.place may c.report_failed.ensures.reported))
