use Rattle.std.proofs.Common.{sym, subst, IsTrue}
use Rattle.std.proofs.lemmas.Result.{err_from_is_err_and}
use Rattle.gate_journal.specs.Sound.{layout_of}
use Rattle.gate_journal.proofs.Switching.{filling, is_filled, kept_failed, kept_then}
use Rattle.gate_journal.proofs.journal.Journal.compact.Goals as goal

pub returns-in_err-fill_other-clause-moves : goal.returns-in_err-fill_other-clause-moves
returns-in_err-fill_other-clause-moves g c told =
    let j = c.args.self.now in
    let l = layout_of j in
    let old = g.D.Disk.state c.args.disk.now in
    let mid = g.D.Disk.state c.close_other.new.disk in
    let new = g.D.Disk.state c.fill_other.new.disk in
    let told1 = subst IsTrue (sym c.close_other.ensures.told) told in
    let fault = err_from_is_err_and c.from_residual-in_err-fill_other.result c.from_residual-in_err-fill_other.ensures.1 in
    kept_failed l j.gate c.args.bodies.now old new c.from_residual-in_err-fill_other.result fault.0 fault.1
    (filling l j.within old mid new (g.met.D.Disk.lawful c.close_other.new.disk told1) (c.close_other.ensures.keeps told) (c.fill_other.ensures.changes told1))

pub switch-requires-clause-filled : goal.switch-requires-clause-filled
switch-requires-clause-filled g c told2 =
    let j = c.args.self.now in
    let told1 = subst IsTrue c.fill_other.ensures.told told2 in
    let told = subst IsTrue c.close_other.ensures.told told1 in
    is_filled (layout_of j) j.within (g.D.Disk.state c.args.disk.now) (g.D.Disk.state c.close_other.new.disk) (g.D.Disk.state c.fill_other.new.disk) (g.met.D.Disk.lawful c.close_other.new.disk told1)
    (c.close_other.ensures.keeps told) (c.fill_other.ensures.changes told1) c.args.bodies.now (c.in_ok-close_other.ensures.shut told) (c.in_ok-fill_other.ensures.durable told1) (c.in_ok-fill_other.ensures.slots told1)

pub returns-clause-moves : goal.returns-clause-moves
returns-clause-moves g c told =
    let j = c.args.self.now in
    let l = layout_of j in
    let old = g.D.Disk.state c.args.disk.now in
    let mid = g.D.Disk.state c.close_other.new.disk in
    let filled = g.D.Disk.state c.fill_other.new.disk in
    let told1 = subst IsTrue (sym c.close_other.ensures.told) told in
    let told2 = subst IsTrue (sym c.fill_other.ensures.told) told1 in
    let next = c.switch.new.self in
    kept_then c.switch.result l (layout_of next) next.standing next.gate c.args.bodies.now old filled (g.D.Disk.state c.switch.new.disk)
    (filling l j.within old mid filled (g.met.D.Disk.lawful c.close_other.new.disk told1) (c.close_other.ensures.keeps told) (c.fill_other.ensures.changes told1)) (c.switch.ensures.moves told2)
