use Rattle.std.proofs.Common.{[], ◌∷◌, List, ℕ, None, Option, subst, sym}
use Rattle.cache_file.specs.File.{held, readied}
use Rattle.gate_journal.specs.Sound.{room_of}
use Rattle.change_feed.specs.declared.mark.Mark.{Mark}
use Rattle.change_feed.specs.Files.{IsAboveZero}
use Rattle.change_feed.specs.Marks.{LeadsTo}
use Rattle.change_feed.proofs.Following.{readied_ends, single}
use Rattle.change_feed.proofs.marking.make_ready.Goals as goal

pub returns-in-None-clause-brings : goal.returns-in-None-clause-brings
returns-in-None-clause-brings g c told ends =
    let f = c.args.file.now in
    let before = held f.journal (g.D.Disk.state f.disk) in
    record { after = readied (room_of f.journal) before []; ends_after = readied_ends (room_of f.journal) before [] c.args.mark ends c.in-None.is; brings = c.ready.ensures.brings told }

pub returns-in-Some-clause-brings : goal.returns-in-Some-clause-brings
returns-in-Some-clause-brings g c told ends =
    let f = c.args.file.now in
    let before = held f.journal (g.D.Disk.state f.disk) in
    let bodies : List (List ℕ) = c.mark_body.result ∷ [] in
    let above = subst IsAboveZero c.in-Some.is c.requires.above in
    record {
      after = readied (room_of f.journal) before bodies;
      ends_after = readied_ends (room_of f.journal) before bodies c.args.mark ends (subst (LeadsTo None bodies) (sym c.in-Some.is) (single c.in-Some.mark c.mark_body.result above c.mark_body.ensures));
      brings = c.ready-in-Some.ensures.brings told;
    }
