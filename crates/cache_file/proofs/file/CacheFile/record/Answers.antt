use Rattle.std.proofs.Common.{List, ℕ, [], ◌∷◌, ◌++◌, refl, inr}
use Rattle.std.proofs.lemmas.Result.{on_ok_weaker}
use Rattle.gate_journal.specs.Opened.{records}
use Rattle.gate_journal.specs.Sound.{kept, version_of}
use Rattle.gate_journal.proofs.Steps.{on_ok, on_err}
use Rattle.cache_file.proofs.Bringing.{brings_of}
use Rattle.cache_file.proofs.file.CacheFile.record.Goals as goal

pub returns-clause-brings : goal.returns-clause-brings
returns-clause-brings g c told =
    let f = c.args.self.now in
    let old = g.D.Disk.state f.disk in
    let after : List (List ℕ) = kept f.journal old.seen ++ c.args.body.now ∷ [] in
    let version = c.append.ensures.version in
    brings_of after (version_of f.journal) (records (version_of f.journal) after) f.start f.journal c.append.new.self old (g.D.Disk.state c.append.new.disk) f.behind (c.requires.sound told) (inr (inr refl)) c.append.result (c.append.ensures.moves told)
    (on_ok c.append.result version) (on_err c.append.result version) (on_ok_weaker c.append.result (λ done. done.0) c.append.ensures.ok)
