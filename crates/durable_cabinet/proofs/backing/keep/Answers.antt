use Rattle.std.proofs.Common.{ℕ, ◌≡◌, ◌∙◌, IsTrue, length, subst, sym, arith}
use Rattle.cache_file.specs.File.{IsApart, Stays}
use Rattle.cabinet.specs.State.{now}
use Rattle.durable_cabinet.specs.Backing.{Enters, RecordLeads, with_away}
use Rattle.durable_cabinet.specs.Filed.{IsFiled}
use Rattle.durable_cabinet.proofs.Blobs.{AreSpared}
use Rattle.durable_cabinet.proofs.Gapped.{roomy}
use Rattle.durable_cabinet.proofs.Storing.{away_held, put_filed, put_images, put_same, stands_at, stores_failed, stores_then, stores_unready}
use Rattle.durable_cabinet.proofs.backing.keep.Goals as goal

pub put-requires-clause-end : goal.put-requires-clause-end
put-requires-clause-end g c =
    let s = c.args.core.now.state in
    let r = roomy s c.known.ensures c.args.kept.place c.args.kept.length c.requires.gap in
    omega (arith, c.ready.ensures.filed.start_is, c.requires.long, r.within, c.known.ensures.valid.blob_bytes_most, c.known.ensures.valid.kept_limit_most, c.known.ensures.valid.cut_limit_most)

pub enter-requires-clause-filed : goal.enter-requires-clause-filed
enter-requires-clause-filed g c =
    let s = c.args.core.now.state in
    let t = c.args.kept in
    let m = c.ready.new.file in
    let n = c.put.new.self in
    let bytes = length c.args.blob.now in
    let free : AreSpared (IsApart t.place bytes) (now s).kept = subst (λ (k : ℕ). AreSpared (IsApart t.place k) (now s).kept) (sym c.requires.long) (roomy s c.known.ensures t.place t.length c.requires.gap).free in
    subst (λ b. IsFiled s b n.start n.journal (g.D.Disk.state n.disk)) (sym c.ready.ensures.told ∙ sym c.put.ensures.told)
    (put_filed (g.D.Disk.told c.args.file.now.disk) s c.known.ensures m.start m.journal (g.D.Disk.state m.disk) c.ready.ensures.filed c.in-Ok.ensures.ok.0 (IsApart t.place bytes) free (g.D.Disk.state n.disk)
    (λ is. c.put.ensures.stays (subst IsTrue (sym c.ready.ensures.told) is)) (λ is. (g.met.D.Disk.lawful n.disk (subst IsTrue (sym c.ready.ensures.told ∙ sym c.put.ensures.told) is)).reads_as) n.start n.journal c.put.ensures.start c.put.ensures.journal)

pub returns-in-Err-clause-stores : goal.returns-in-Err-clause-stores
returns-in-Err-clause-stores g c missed leads =
    let f = c.args.file.now in
    let n = c.ready.new.file in
    stores_unready (g.D.Disk.told f.disk) c.args.core.now.state missed c.args.kept c.args.blob.now n.start f.journal n.journal (g.D.Disk.state f.disk) (g.D.Disk.state n.disk) c.in-Err.fault leads.alike c.ready.ensures.rests c.ready.ensures.filed

pub returns-in-Err-put-clause-stores : goal.returns-in-Err-put-clause-stores
returns-in-Err-put-clause-stores g c missed leads =
    let s = c.args.core.now.state in
    let t = c.args.kept in
    let told = g.D.Disk.told c.args.file.now.disk in
    let m = c.ready.new.file in
    let n = c.put.new.self in
    let d1 = g.D.Disk.state m.disk in
    let d2 = g.D.Disk.state n.disk in
    let bytes = length c.args.blob.now in
    let free : AreSpared (IsApart t.place bytes) (now s).kept = subst (λ (k : ℕ). AreSpared (IsApart t.place k) (now s).kept) (sym c.requires.long) (roomy s c.known.ensures t.place t.length c.requires.gap).free in
    let stays : IsTrue told → Stays m.start (IsApart t.place bytes) m.journal d1 d2 = λ is. c.put.ensures.stays (subst IsTrue (sym c.ready.ensures.told) is) in
    let reads : IsTrue told → d2.may_leave d2.seen = λ is. (g.met.D.Disk.lawful n.disk (subst IsTrue (sym c.ready.ensures.told ∙ sym c.put.ensures.told) is)).reads_as in
    let settled = c.in-Ok.ensures.ok.0 in
    stores_failed told s missed leads.alike t c.args.blob.now c.args.file.now.journal (g.D.Disk.state c.args.file.now.disk) d1 d2 c.ready.ensures.rests
    (put_same told s c.known.ensures m.start m.journal d1 c.ready.ensures.filed settled (IsApart t.place bytes) free d2 stays reads)
    (put_images told s c.known.ensures m.start m.journal d1 c.ready.ensures.filed settled (IsApart t.place bytes) free d2 stays reads) n.start n.journal c.in-Err-put.fault
    (put_filed told s c.known.ensures m.start m.journal d1 c.ready.ensures.filed settled (IsApart t.place bytes) free d2 stays reads n.start n.journal c.put.ensures.start c.put.ensures.journal)

pub returns-in-Ok-put-clause-stores : goal.returns-in-Ok-put-clause-stores
returns-in-Ok-put-clause-stores g c missed leads =
    let s = c.args.core.now.state in
    let t = c.args.kept in
    let told = g.D.Disk.told c.args.file.now.disk in
    let m = c.ready.new.file in
    let n = c.put.new.self in
    let e = c.enter.new.file in
    let d1 = g.D.Disk.state m.disk in
    let d2 = g.D.Disk.state n.disk in
    let d3 = g.D.Disk.state e.disk in
    let blob = c.args.blob.now in
    let bytes = length blob in
    let free : AreSpared (IsApart t.place bytes) (now s).kept = subst (λ (k : ℕ). AreSpared (IsApart t.place k) (now s).kept) (sym c.requires.long) (roomy s c.known.ensures t.place t.length c.requires.gap).free in
    let told_then : g.D.Disk.told n.disk ≡ told = c.put.ensures.told ∙ c.ready.ensures.told in
    let stays : IsTrue told → Stays m.start (IsApart t.place bytes) m.journal d1 d2 = λ is. c.put.ensures.stays (subst IsTrue (sym c.ready.ensures.told) is) in
    let reads : IsTrue told → d2.may_leave d2.seen = λ is. (g.met.D.Disk.lawful n.disk (subst IsTrue (sym told_then) is)).reads_as in
    let settled = c.in-Ok.ensures.ok.0 in
    let filed = put_filed told s c.known.ensures m.start m.journal d1 c.ready.ensures.filed settled (IsApart t.place bytes) free d2 stays reads n.start n.journal c.put.ensures.start c.put.ensures.journal in
    let start_is = c.ready.ensures.filed.start_is in
    stores_then told s missed leads.alike t blob c.args.file.now.journal (g.D.Disk.state c.args.file.now.disk) d1 d2 c.ready.ensures.rests
    (put_same told s c.known.ensures m.start m.journal d1 c.ready.ensures.filed settled (IsApart t.place bytes) free d2 stays reads)
    (put_images told s c.known.ensures m.start m.journal d1 c.ready.ensures.filed settled (IsApart t.place bytes) free d2 stays reads) c.enter.result e.start e.journal d3
    (λ is. stands_at s t blob m.start d2 start_is c.requires.long (c.in-Ok-put.ensures.holds (subst IsTrue (sym c.ready.ensures.told) is)) (reads is))
    (subst (λ b. Enters c.enter.result b s missed (with_away s t) e.start e.journal d2 d3) told_then
    (c.enter.ensures.enters missed (with_away s t) (subst (RecordLeads s missed (with_away s t)) (sym c.record_of_keep.ensures.is) leads)
    (λ is. let was = subst IsTrue told_then is in away_held s t blob m.start d2 start_is c.requires.long (c.in-Ok-put.ensures.holds (subst IsTrue (sym c.ready.ensures.told) was)) (reads was) (filed.on was).holds)))
