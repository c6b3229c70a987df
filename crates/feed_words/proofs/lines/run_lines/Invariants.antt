use Rattle.std.proofs.Common.{◌≡◌, ◌+◌, ◌≤◌, length}
use Rattle.cache_core.specs.Lasting.{Lasting}
use Rattle.change_feed.specs.Applies.{Pair}
use Rattle.gate_journal.specs.Sound.{digest_of}
use Rattle.feed_words.proofs.Going.{SoFar}
use Rattle.feed_words.proofs.lines.run_lines.Given as goal

abbrev pub invariant-loop-rest : goal.invariant-loop-rest
invariant-loop-rest g l =
    let start : Pair = record { stand = l.initial.feed.stand; faults = g.D.Disk.faults l.initial.feed.file.disk; cabinet = g.C.Keeper.state l.initial.cabinet; cabinet_faults = g.C.Keeper.faults l.initial.cabinet } in
    let now : Pair = record { stand = l.feed.stand; faults = g.D.Disk.faults l.feed.file.disk; cabinet = g.C.Keeper.state l.cabinet; cabinet_faults = g.C.Keeper.faults l.cabinet } in
    record {
      so_far : SoFar (g.D.Disk.told l.initial.feed.file.disk) (digest_of l.initial.feed.file.journal) (g.D.Disk.state l.initial.feed.file.disk) (g.D.Disk.state l.feed.file.disk) (g.O.ByteSink.taken l.initial.output) (g.O.ByteSink.taken l.output) l.text start now l.lines l.rest;
      valid : (g.C.Keeper.state l.cabinet).catalogue ≡ (g.C.Keeper.state l.initial.cabinet).catalogue;
      told : g.D.Disk.told l.feed.file.disk ≡ g.D.Disk.told l.initial.feed.file.disk;
      digest : digest_of l.feed.file.journal ≡ digest_of l.initial.feed.file.journal;
      lasts : Lasting (g.C.Keeper.outlasts l.initial.cabinet l.cabinet) (g.C.Keeper.state l.initial.cabinet) (g.C.Keeper.state l.cabinet);
      later : g.O.ByteSink.faults l.initial.output ≤ g.O.ByteSink.faults l.output;
      few : l.lines + length l.rest ≤ length l.text;
    }

abbrev pub decreases-loop-rest : goal.decreases-loop-rest
decreases-loop-rest g l = length l.rest
