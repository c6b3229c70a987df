use Rattle.std.proofs.Common.{◌≡◌, ◌+◌, ◌≤◌, length}
use Rattle.cache_core.specs.Lasting.{Lasting}
use Rattle.gate_journal.specs.Sound.{digest_of}
use Rattle.twin_events.specs.Twins.{IsTwinReady, standing}
use Rattle.twin_lines.specs.Ends.{passage}
use Rattle.twin_lines.specs.Steps.{TwinMoment, faults, moment}
use Rattle.twin_lines.proofs.Going.{SoFar}
use Rattle.twin_lines.proofs.lines.run_lines.Given as goal

abbrev pub invariant-loop-rest : goal.invariant-loop-rest
invariant-loop-rest g l =
    let start : TwinMoment = moment (standing l.initial.twin.outbox.out l.initial.twin.feed.stand (g.K.Keeper.state l.initial.twin.cabinet) l.initial.twin.sent.items)
    (faults (g.S.Source.faults l.initial.source) (g.N.Disk.faults l.initial.twin.outbox.file.disk) (g.M.Disk.faults l.initial.twin.feed.file.disk) (g.K.Keeper.faults l.initial.twin.cabinet)) in
    let now : TwinMoment = moment (standing l.twin.outbox.out l.twin.feed.stand (g.K.Keeper.state l.twin.cabinet) l.twin.sent.items)
    (faults (g.S.Source.faults l.source) (g.N.Disk.faults l.twin.outbox.file.disk) (g.M.Disk.faults l.twin.feed.file.disk) (g.K.Keeper.faults l.twin.cabinet)) in
    record {
      so_far : SoFar l.initial.twin.outbox.catalogue (g.S.Source.told l.initial.source) (digest_of l.initial.twin.feed.file.journal)
          (passage (g.M.Disk.told l.initial.twin.feed.file.disk) (g.M.Disk.state l.initial.twin.feed.file.disk) (g.M.Disk.state l.twin.feed.file.disk))
          (passage (g.N.Disk.told l.initial.twin.outbox.file.disk) (g.N.Disk.state l.initial.twin.outbox.file.disk) (g.N.Disk.state l.twin.outbox.file.disk))
          (g.O.ByteSink.taken l.initial.output) (g.O.ByteSink.taken l.output) l.line l.text start now l.number l.rest;
      ready : IsTwinReady l.twin.outbox.catalogue now.stands;
      catalogue : l.twin.outbox.catalogue ≡ l.initial.twin.outbox.catalogue;
      posts_told : g.N.Disk.told l.twin.outbox.file.disk ≡ g.N.Disk.told l.initial.twin.outbox.file.disk;
      marks_told : g.M.Disk.told l.twin.feed.file.disk ≡ g.M.Disk.told l.initial.twin.feed.file.disk;
      digest : digest_of l.twin.feed.file.journal ≡ digest_of l.initial.twin.feed.file.journal;
      source_told : g.S.Source.told l.source ≡ g.S.Source.told l.initial.source;
      lasts : Lasting (g.K.Keeper.outlasts l.initial.twin.cabinet l.twin.cabinet) (g.K.Keeper.state l.initial.twin.cabinet) (g.K.Keeper.state l.twin.cabinet);
      later : g.O.ByteSink.faults l.initial.output ≤ g.O.ByteSink.faults l.output;
      few : l.number + length l.rest ≤ l.line + length l.text;
    }

abbrev pub decreases-loop-rest : goal.decreases-loop-rest
decreases-loop-rest g l = length l.rest
