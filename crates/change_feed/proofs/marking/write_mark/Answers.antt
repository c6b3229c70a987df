use Rattle.std.proofs.Common.{[], ◌∷◌, ◌++◌, List, ℕ, None}
use Rattle.gate_journal.specs.Opened.{records}
use Rattle.gate_journal.specs.Sound.{kept, version_of}
use Rattle.change_feed.proofs.Following.{leads_on}
use Rattle.change_feed.proofs.marking.write_mark.Goals as goal

pub returns-clause-brings : goal.returns-clause-brings
returns-clause-brings g c told last above ends =
    let f = c.args.file.now in
    let was = kept f.journal (g.D.Disk.state f.disk).seen in
    let body = c.mark_body.result in
    record {
      after = records (version_of f.journal) (was ++ body ∷ []);
      ends_after = leads_on None last was body c.args.mark ends (c.mark_body.ensures, above);
      brings = c.record.ensures.brings told;
    }
