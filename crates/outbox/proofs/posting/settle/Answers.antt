use Rattle.std.proofs.Common.{refl, inl, inr}
use Rattle.gate_journal.specs.Sound.{kept, other, version_of}
use Rattle.gate_journal.proofs.Steps.{on_ok, on_err}
use Rattle.cache_file.proofs.Bringing.{brings_of}
use Rattle.outbox.proofs.posting.settle.Goals as goal

pub returns-clause-brings : goal.returns-clause-brings
returns-clause-brings g c told =
    let f = c.args.file.now in
    let old = g.D.Disk.state f.disk in
    let version = c.settle.ensures.version in
    brings_of (kept f.journal old.seen) (version_of f.journal) (other f.journal old.seen) f.start f.journal c.settle.new.self old (g.D.Disk.state c.settle.new.disk) f.behind (c.requires.sound told) (inr (inl refl)) c.settle.result (c.settle.ensures.moves told)
    (on_ok c.settle.result version) (on_err c.settle.result version) c.settle.ensures.ok
