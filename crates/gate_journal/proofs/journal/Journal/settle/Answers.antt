use Rattle.std.proofs.Common.{sym, subst, Ok}
use Rattle.std.proofs.lemmas.Result.{err_from_is_err_and}
use Rattle.disk_model.specs.declared.disk.Failed.{Failed}
use Rattle.gate_journal.specs.declared.standing.Standing.TheVariants.{Settled}
use Rattle.gate_journal.specs.Calls.{MovesAs}
use Rattle.gate_journal.specs.Sound.{IsSoundAs, layout_of, kept_by, other_as}
use Rattle.gate_journal.proofs.Closing.{close_failed, closed}
use Rattle.gate_journal.proofs.journal.Journal.settle.Goals as goal

pub returns-in_err-close_gate-in-Undecided-clause-moves : goal.returns-in_err-close_gate-in-Undecided-clause-moves
returns-in_err-close_gate-in-Undecided-clause-moves g c told =
    let j = c.args.self.now in
    let l = layout_of j in
    let old = g.D.Disk.state c.args.disk.now in
    let new = g.D.Disk.state c.close_gate.new.disk in
    let sound = subst (λ s. IsSoundAs s j.gate l old) c.in-Undecided.is (c.requires told) in
    let fault = err_from_is_err_and c.from_residual.result c.from_residual.ensures.1 in
    subst (λ s. MovesAs c.from_residual.result (kept_by l old.seen) (other_as s j.gate l old.seen) l l s j.gate old new) (sym c.in-Undecided.is)
    (close_failed l j.within j.gate j.gate_within old new (g.met.D.Disk.lawful c.args.disk.now told) sound (c.close_gate.ensures.changes told) c.from_residual.result fault.0 fault.1)

pub returns-in_ok-close_gate-in-Undecided-clause-moves : goal.returns-in_ok-close_gate-in-Undecided-clause-moves
returns-in_ok-close_gate-in-Undecided-clause-moves g c told =
    let j = c.args.self.now in
    let l = layout_of j in
    let old = g.D.Disk.state c.args.disk.now in
    let new = g.D.Disk.state c.close_gate.new.disk in
    let sound = subst (λ s. IsSoundAs s j.gate l old) c.in-Undecided.is (c.requires told) in
    subst (λ s. MovesAs {T = Unit {0}} {E = Failed} (Ok tt) (kept_by l old.seen) (other_as s j.gate l old.seen) l l Settled j.gate old new) (sym c.in-Undecided.is)
    (closed l j.within j.gate j.gate_within old new (g.met.D.Disk.lawful c.args.disk.now told) sound (c.close_gate.ensures.changes told) _
    (c.in_ok-close_gate-in-Undecided.ensures.written told) (c.in_ok-close_gate-in-Undecided.ensures.durable told))
