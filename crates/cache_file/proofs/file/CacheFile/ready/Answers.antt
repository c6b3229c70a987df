use Rattle.std.proofs.Common.{◌≡◌, ℕ, sym, subst, IsTrue}
use Rattle.std.proofs.lemmas.Result.{err_from_is_err_and}
use Rattle.gate_journal.specs.Opened.{Opening}
use Rattle.gate_journal.specs.Sound.{room_of}
use Rattle.cache_file.specs.File.{Brings, held, readied}
use Rattle.cache_file.proofs.Bringing.{brings_failed, brings_then}
use Rattle.cache_file.proofs.file.CacheFile.ready.Goals as goal

pub returns-in_err-settle-clause-brings : goal.returns-in_err-settle-clause-brings
returns-in_err-settle-clause-brings g c told =
    let f = c.args.self.now in
    let old = g.D.Disk.state f.disk in
    let mid = g.D.Disk.state c.settle.new.self.disk in
    let after = readied (room_of f.journal) (held f.journal old) c.args.bodies.now in
    let fault = err_from_is_err_and c.from_residual.result c.from_residual.ensures.1 in
    brings_failed after f.start f.journal c.settle.new.self.journal old mid _ c.from_residual.result fault.0 fault.1 (c.in_err-settle.ensures.brings told)

pub returns-clause-brings : goal.returns-clause-brings
returns-clause-brings g c told =
    let f = c.args.self.now in
    let m = c.settle.new.self in
    let n = c.make_room.new.self in
    let old = g.D.Disk.state f.disk in
    let mid = g.D.Disk.state m.disk in
    let new = g.D.Disk.state n.disk in
    let bodies = c.args.bodies.now in
    let after = readied (room_of f.journal) (held f.journal old) bodies in
    let one = c.in_ok-settle.ensures.brings told in
    let two = c.make_room.ensures.brings (subst IsTrue (sym c.settle.ensures.told) told) in
    let same : readied (room_of m.journal) (held m.journal mid) bodies ≡ after = λ k. readied (c.settle.ensures.room k) (one.done k) bodies in
    brings_then after f.start f.journal m.journal old mid n.journal new c.settle.ensures.alike _ one c.make_room.result
    (subst (λ (s : ℕ). Brings c.make_room.result after s m.journal n.journal mid new) c.settle.ensures.start
    (subst (λ (o : Opening). Brings c.make_room.result o m.start m.journal n.journal mid new) same two))
