use Rattle.std.proofs.Common.{List, ℕ, [], ◌∷◌, ◌++◌, length, refl, sym, subst, ap, ◌∙◌, arith}
use Rattle.gate_journal.specs.Opened.{records}
use Rattle.gate_journal.specs.Sound.{kept, version_of}
use Rattle.truncation_list.specs.declared.book.Book.{Book}
use Rattle.durable_cabinet.specs.Drafts.{IsCompactionOf}
use Rattle.durable_cabinet.proofs.OpeningWritten.{compaction_few, written_anew, written_more}
use Rattle.durable_cabinet.proofs.beginning.write_opening.Goals as goal

pub replace-requires-clause-fits : goal.replace-requires-clause-fits
replace-requires-clause-fits g c =
    let s = c.args.core.now.state in
    let few = compaction_few s c.fill.new.self.bodies c.known.ensures c.fill.ensures.bodies in
    let same = ap (λ (l : List (List ℕ)). length l) c.bodies.ensures in
    omega (arith, few, same, c.requires.begun.same_slots)

pub returns-then-is_to_move-clause-enters : goal.returns-then-is_to_move-clause-enters
returns-then-is_to_move-clause-enters g c told =
    let s = c.args.core.now.state in
    record {
      written = records 2 c.bodies.result.now;
      brings = c.replace.ensures.brings told;
      recorded = written_anew s c.bodies.result.now c.known.ensures (subst (IsCompactionOf s) (sym c.bodies.ensures) c.fill.ensures.bodies);
    }

pub returns-clause-enters : goal.returns-clause-enters
returns-clause-enters g c told =
    let s = c.args.core.now.state in
    let b = c.requires.begun in
    let j = c.args.file.now.journal in
    let bodies = kept j (g.D.Disk.state c.args.file.now.disk).seen in
    record {
      written = records (version_of j) (bodies ++ c.opened_body.result ∷ []);
      brings = c.record.ensures.brings told;
      recorded = written_more s b.replayed b.entries (version_of j) bodies c.opened_body.result c.opening.result c.floor.result c.known.ensures b.replays b.opening b.since
          (c.if-is_to_move.ensures.moves refl) (b.are told) c.opening.ensures (c.floor.ensures ∙ ap (λ (k : Book). k.floor) c.cuts.ensures) c.opened_body.ensures.fits c.opened_body.ensures.body;
    }
