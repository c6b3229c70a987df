use Rattle.std.proofs.Common.{refl, inr}
use Rattle.std.proofs.lemmas.Result.{on_ok_weaker}
use Rattle.gate_journal.specs.Opened.{records}
use Rattle.cache_file.proofs.Bringing.{brings_of}
use Rattle.cache_file.proofs.file.CacheFile.replace.Goals as goal

pub returns-clause-brings : goal.returns-clause-brings
returns-clause-brings g c told =
    let f = c.args.self.now in
    let old = g.D.Disk.state f.disk in
    let new = g.D.Disk.state c.compact.new.disk in
    let bodies = c.args.bodies.now in
    brings_of bodies 2 (records 2 bodies) f.start f.journal c.compact.new.self old new f.behind (c.requires.sound told) (inr (inr refl)) c.compact.result (c.compact.ensures.moves told)
    c.compact.ensures.version c.compact.ensures.same_version (on_ok_weaker c.compact.result (λ done. done.0) c.compact.ensures.ok)
