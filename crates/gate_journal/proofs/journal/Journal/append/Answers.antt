use Rattle.std.proofs.Common.{◌<◌, sym, subst, arith, IsTrue}
use Rattle.std.proofs.lemmas.Result.{err_from_is_err_and}
use Rattle.gate_journal.specs.Sound.{IsSoundAs, layout_of}
use Rattle.gate_journal.proofs.Appending.{body_failed, gate_failed, appended}
use Rattle.gate_journal.proofs.journal.Journal.append.Goals as goal

pub returns-in_err-write_body-clause-moves : goal.returns-in_err-write_body-clause-moves
returns-in_err-write_body-clause-moves g c told =
    let j = c.args.self.now in
    let old = g.D.Disk.state c.args.disk.now in
    let mid = g.D.Disk.state c.write_body.new.disk in
    let room : j.count < j.slots = omega (arith, c.requires.room) in
    let sound = subst (λ s. IsSoundAs s j.gate (layout_of j) old) c.requires.settled (c.requires.sound told) in
    let first = c.write_body.ensures.changes told in
    let fault = err_from_is_err_and c.from_residual.result c.from_residual.ensures.1 in
    body_failed (layout_of j) room c.next_slot-at.result c.next_slot-at.ensures j.gate old mid (g.met.D.Disk.lawful c.args.disk.now told) sound c.args.body.now first c.from_residual.result fault.0 fault.1

pub returns-in_err-open_gate-clause-moves : goal.returns-in_err-open_gate-clause-moves
returns-in_err-open_gate-clause-moves g c told =
    let j = c.args.self.now in
    let old = g.D.Disk.state c.args.disk.now in
    let mid = g.D.Disk.state c.write_body.new.disk in
    let new = g.D.Disk.state c.open_gate.new.disk in
    let told1 = subst IsTrue (sym c.write_body.ensures.told) told in
    let room : j.count < j.slots = omega (arith, c.requires.room) in
    let sound = subst (λ s. IsSoundAs s j.gate (layout_of j) old) c.requires.settled (c.requires.sound told) in
    let first = c.write_body.ensures.changes told in
    let fault = err_from_is_err_and c.from_residual-in_err-open_gate.result c.from_residual-in_err-open_gate.ensures.1 in
    gate_failed (layout_of j) room c.next_slot-at.result c.next_slot-at.ensures j.gate old mid (g.met.D.Disk.lawful c.args.disk.now told) sound c.args.body.now first
    (c.in_ok-write_body.ensures.body told) (c.in_ok-write_body.ensures.durable told) (g.met.D.Disk.lawful c.write_body.new.disk told1) new (c.open_gate.ensures.changes told1) c.from_residual-in_err-open_gate.result fault.0 fault.1

pub returns-clause-moves : goal.returns-clause-moves
returns-clause-moves g c told =
    let j = c.args.self.now in
    let old = g.D.Disk.state c.args.disk.now in
    let mid = g.D.Disk.state c.write_body.new.disk in
    let new = g.D.Disk.state c.open_gate.new.disk in
    let told1 = subst IsTrue (sym c.write_body.ensures.told) told in
    let room : j.count < j.slots = omega (arith, c.requires.room) in
    let sound = subst (λ s. IsSoundAs s j.gate (layout_of j) old) c.requires.settled (c.requires.sound told) in
    let first = c.write_body.ensures.changes told in
    appended (layout_of j) room c.next_slot-at.result c.next_slot-at.ensures j.gate old mid (g.met.D.Disk.lawful c.args.disk.now told) sound c.args.body.now first
    (c.in_ok-write_body.ensures.body told) (c.in_ok-write_body.ensures.durable told) (g.met.D.Disk.lawful c.write_body.new.disk told1) new (c.open_gate.ensures.changes told1) _
    (c.in_ok-open_gate.ensures.written told1) (c.in_ok-open_gate.ensures.durable told1)
