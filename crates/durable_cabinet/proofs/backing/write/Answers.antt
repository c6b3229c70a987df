use Rattle.std.proofs.Common.{◌≡◌, IsTrue, subst, sym}
use Rattle.durable_cabinet.specs.Backing.{Enters}
use Rattle.durable_cabinet.proofs.Backed.{regions_held, writes_failed, writes_then}
use Rattle.durable_cabinet.proofs.backing.write.Goals as goal

pub returns-in-Err-clause-writes : goal.returns-in-Err-clause-writes
returns-in-Err-clause-writes g c missed u leads regions =
    let f = c.args.file.now in
    let n = c.ready.new.file in
    writes_failed (g.D.Disk.told f.disk) c.args.core.now.state missed u c.args.entry.now f.start f.journal (g.D.Disk.state f.disk) c.requires.filed leads regions n.journal (g.D.Disk.state n.disk) c.ready.ensures.rests
    (λ is. (g.met.D.Disk.lawful n.disk (subst IsTrue (sym c.ready.ensures.told) is)).reads_as) n.start c.in-Err.fault c.ready.ensures.filed

pub returns-in-Ok-clause-writes : goal.returns-in-Ok-clause-writes
returns-in-Ok-clause-writes g c missed u leads regions =
    let s = c.args.core.now.state in
    let f = c.args.file.now in
    let m = c.ready.new.file in
    let n = c.enter.new.file in
    let told : g.D.Disk.told m.disk ≡ g.D.Disk.told f.disk = c.ready.ensures.told in
    writes_then (g.D.Disk.told f.disk) s missed u c.args.entry.now f.start f.journal (g.D.Disk.state f.disk) c.requires.filed leads regions m.journal (g.D.Disk.state m.disk) c.ready.ensures.rests
    (λ is. (g.met.D.Disk.lawful m.disk (subst IsTrue (sym told) is)).reads_as) c.enter.result n.start n.journal (g.D.Disk.state n.disk)
    (subst (λ b. Enters c.enter.result b s missed u n.start n.journal (g.D.Disk.state m.disk) (g.D.Disk.state n.disk)) told
    (c.enter.ensures.enters missed u leads (λ is. regions_held s u (g.D.Disk.state m.disk) regions (c.ready.ensures.filed.on (subst IsTrue told is)).holds)))
