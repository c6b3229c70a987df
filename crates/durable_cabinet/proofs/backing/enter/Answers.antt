use Rattle.std.proofs.Common.{◌∷◌, ◌++◌, [], IsTrue, List, ℕ, ◌∙◌, subst, sym}
use Rattle.std.proofs.lemmas.Result.{on_ok_weaker}
use Rattle.gate_journal.specs.Opened.{records}
use Rattle.gate_journal.specs.Sound.{kept, version_of}
use Rattle.cache_file.specs.File.{Brings}
use Rattle.durable_cabinet.proofs.Backed.{enters_of}
use Rattle.durable_cabinet.proofs.backing.enter.Goals as goal

pub returns-clause-enters : goal.returns-clause-enters
returns-clause-enters g c =
    let f = c.args.file.now in
    let n = c.record.new.self in
    let old = g.D.Disk.state f.disk in
    enters_of (g.D.Disk.told f.disk) c.args.core.now.state c.known.ensures f.start f.journal old c.requires.filed n.start n.journal (g.D.Disk.state n.disk) c.record.ensures.start c.record.ensures.alike (λ is. c.record.ensures.version ∙ is) c.requires.settled
    c.args.entry.now c.requires.fits c.record.result (on_ok_weaker c.record.result (λ done. done.0) c.record.ensures.ok)
    (λ is. subst (λ (b : List ℕ). Brings c.record.result (records (version_of f.journal) (kept f.journal old.seen ++ b ∷ [])) f.start f.journal n.journal old (g.D.Disk.state n.disk)) c.encode.ensures (c.record.ensures.brings is))
    (λ is. (g.met.D.Disk.lawful n.disk (subst IsTrue (sym c.record.ensures.told) is)).reads_as)
