use Rattle.std.proofs.Common.{IsTrue, [], subst, sym, arith}
use Rattle.durable_cabinet.specs.Drafts.{IsCompactionOf}
use Rattle.durable_cabinet.proofs.Backed.{compaction_few, ready_of}
use Rattle.durable_cabinet.proofs.backing.ready.Goals as goal

pub returns-then-room-gt0-clause-filed : goal.returns-then-room-gt0-clause-filed
returns-then-room-gt0-clause-filed g c =
    let f = c.args.file.now in
    let n = c.ready.new.self in
    (ready_of (g.D.Disk.told f.disk) c.args.core.now.state c.known.ensures f.start f.journal (g.D.Disk.state f.disk) c.requires.filed n.start n.journal (g.D.Disk.state n.disk) c.ready.ensures.start c.ready.ensures.alike c.ready.ensures.version []
    (λ none. absurd (omega (arith, none, c.room.ensures.room, c.if-room-gt0.true))) c.ready.result c.ready.ensures.ok c.ready.ensures.brings
    (λ is. (g.met.D.Disk.lawful n.disk (subst IsTrue (sym c.ready.ensures.told) is)).reads_as)).0

pub returns-then-room-gt0-clause-rests : goal.returns-then-room-gt0-clause-rests
returns-then-room-gt0-clause-rests g c =
    let f = c.args.file.now in
    let n = c.ready.new.self in
    (ready_of (g.D.Disk.told f.disk) c.args.core.now.state c.known.ensures f.start f.journal (g.D.Disk.state f.disk) c.requires.filed n.start n.journal (g.D.Disk.state n.disk) c.ready.ensures.start c.ready.ensures.alike c.ready.ensures.version []
    (λ none. absurd (omega (arith, none, c.room.ensures.room, c.if-room-gt0.true))) c.ready.result c.ready.ensures.ok c.ready.ensures.brings
    (λ is. (g.met.D.Disk.lawful n.disk (subst IsTrue (sym c.ready.ensures.told) is)).reads_as)).1

pub ready-requires-2-clause-fewer : goal.ready-requires-2-clause-fewer
ready-requires-2-clause-fewer g c =
    let compacts : IsCompactionOf c.args.core.now.state c.bodies.result.now = subst (IsCompactionOf c.args.core.now.state) (sym c.bodies.ensures) c.fill.ensures.bodies in
    omega (arith, c.requires.filed.slots, compaction_few c.args.core.now.state c.known.ensures c.bodies.result.now compacts)

pub returns-clause-filed : goal.returns-clause-filed
returns-clause-filed g c =
    let f = c.args.file.now in
    let n = c.ready-2.new.self in
    (ready_of (g.D.Disk.told f.disk) c.args.core.now.state c.known.ensures f.start f.journal (g.D.Disk.state f.disk) c.requires.filed n.start n.journal (g.D.Disk.state n.disk) c.ready-2.ensures.start c.ready-2.ensures.alike c.ready-2.ensures.version c.bodies.result.now
    (λ none. subst (IsCompactionOf c.args.core.now.state) (sym c.bodies.ensures) c.fill.ensures.bodies) c.ready-2.result c.ready-2.ensures.ok c.ready-2.ensures.brings
    (λ is. (g.met.D.Disk.lawful n.disk (subst IsTrue (sym c.ready-2.ensures.told) is)).reads_as)).0

pub returns-clause-rests : goal.returns-clause-rests
returns-clause-rests g c =
    let f = c.args.file.now in
    let n = c.ready-2.new.self in
    (ready_of (g.D.Disk.told f.disk) c.args.core.now.state c.known.ensures f.start f.journal (g.D.Disk.state f.disk) c.requires.filed n.start n.journal (g.D.Disk.state n.disk) c.ready-2.ensures.start c.ready-2.ensures.alike c.ready-2.ensures.version c.bodies.result.now
    (λ none. subst (IsCompactionOf c.args.core.now.state) (sym c.bodies.ensures) c.fill.ensures.bodies) c.ready-2.result c.ready-2.ensures.ok c.ready-2.ensures.brings
    (λ is. (g.met.D.Disk.lawful n.disk (subst IsTrue (sym c.ready-2.ensures.told) is)).reads_as)).1
