use Rattle.std.proofs.Common.{ℕ, List, sym, subst}
use Rattle.job_board.specs.Hands.{MayReport, SheetHolding}
use Rattle.job_board.specs.SheetCalls.{ReportsUnkept}
use Rattle.job_board.specs.Seats.{IsHand, holding_of}
use Rattle.job_board.proofs.Held.{unkept_still, reports_unkept_of, reports_number, reports_some}
use Rattle.job_board.proofs.sheet.JobSheet.unkept.Goals as goal

pub report_unkept-requires-clause-hand : goal.report_unkept-requires-clause-hand
report_unkept-requires-clause-hand c =
    let may = subst (λ (h : SheetHolding). MayReport h c.args.place) (sym c.hand.view_is) c.requires.unreported in
    reports_number c.hand.inside.seat c.hand.inside.done.entries c.hand.inside.failed.entries c.args.place may

pub report_unkept-requires-clause-unreported : goal.report_unkept-requires-clause-unreported
report_unkept-requires-clause-unreported c =
    let may = subst (λ (h : SheetHolding). MayReport h c.args.place) (sym c.hand.view_is) c.requires.unreported in
    reports_some c.hand.inside.seat c.hand.inside.done.entries c.hand.inside.failed.entries c.args.place c.hand.invariant may

pub invariant_of-hand : goal.invariant_of-hand
invariant_of-hand c =
    let may = subst (λ (h : SheetHolding). MayReport h c.args.place) (sym c.hand.view_is) c.requires.unreported in
    subst (λ (l : List ℕ). IsHand c.report_unkept.new.seat.me l c.hand.inside.failed.entries) (sym c.and-hand-inside.ensures)
    (unkept_still c.hand.inside.seat c.report_unkept.new.seat c.hand.inside.done.entries c.hand.inside.failed.entries c.hand.invariant c.report_unkept.ensures.own c.args.place may c.report_unkept.ensures.reported)

pub returns : goal.returns
returns c =
    let may = subst (λ (h : SheetHolding). MayReport h c.args.place) (sym c.hand.view_is) c.requires.unreported in
    subst (λ (h : SheetHolding). ReportsUnkept h (holding_of c.report_unkept.new.seat c.and-hand-inside.result.entries c.hand.inside.failed.entries) c.args.place) c.hand.view_is
    (subst (λ (l : List ℕ). ReportsUnkept (holding_of c.hand.inside.seat c.hand.inside.done.entries c.hand.inside.failed.entries) (holding_of c.report_unkept.new.seat l c.hand.inside.failed.entries) c.args.place) (sym c.and-hand-inside.ensures)
    (reports_unkept_of c.hand.inside.seat c.report_unkept.new.seat c.hand.inside.done.entries c.hand.inside.failed.entries c.hand.invariant c.report_unkept.ensures.own c.args.place may c.report_unkept.ensures.reported))
