use Rattle.std.proofs.Common.{◌∙◌, ap, subst, sym}
use Rattle.job_board.specs.Hands.{SheetHolding}
use Rattle.job_board.specs.SheetCalls.{Gathers}
use Rattle.job_board.specs.Seats.{IsHand, holding_of}
use Rattle.job_board.proofs.Gathered.{apart}
use Rattle.job_board.proofs.Telling.{gathers_of, gathers_still}
use Rattle.job_board.proofs.sheet.JobSheet.gather.Goals as goal

pub invariant_of-into : goal.invariant_of-into
invariant_of-into c = gathers_still c.into.inside.seat c.hear.new.seat c.into.inside.done.entries c.into.inside.failed.entries c.into.invariant c.hear.ensures.own c.note-note.result.me c.hear.ensures.heard

pub invariant_of-of : goal.invariant_of-of
invariant_of-of c = subst (λ m. IsHand m c.of.inside.done.entries c.of.inside.failed.entries) (sym c.note-note.ensures.same) c.of.invariant

pub returns-clause-gathered : goal.returns-clause-gathered
returns-clause-gathered c = subst (λ (h : SheetHolding). Gathers h c.args.of.now (holding_of c.hear.new.seat c.into.inside.done.entries c.into.inside.failed.entries)) c.into.view_is
    (gathers_of c.into.inside.seat c.hear.new.seat c.into.inside.done.entries c.into.inside.failed.entries c.into.invariant c.hear.ensures.own c.note-note.result.me c.hear.ensures.heard c.args.of.now
    (ap (λ m. m.0.seen) c.note-note.ensures.noted ∙ ap (λ (h : SheetHolding). h.seen) c.of.view_is))

pub returns-clause-apart : goal.returns-clause-apart
returns-clause-apart c = apart c.args.into.now c.args.of.now _ (returns-clause-gathered c)
