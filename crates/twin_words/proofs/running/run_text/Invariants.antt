use Rattle.std.proofs.Common.{◌≡◌, ◌≤◌, length}
use Rattle.gate_journal.specs.Sound.{IsSettled, digest_of}
use Rattle.tile_service.specs.Lines.{lines_of}
use Rattle.sessions.specs.Outside.{counts}
use Rattle.twin_events.specs.Twins.{IsTwinReady, standing}
use Rattle.twin_lines.specs.Steps.{TwinMoment, faults, moment}
use Rattle.twin_words.specs.Works.{RunsOn}
use Rattle.twin_words.proofs.Stretching.{change}
use Rattle.twin_words.proofs.running.run_text.Given as goal

abbrev pub invariant-running : goal.invariant-running
invariant-running g l =
    let first = l.initial.next.twin in
    let here = l.next.twin in
    let modelled = g.D.Disk.told in
    let m_modelled = g.M.Disk.told in
    let o_modelled = g.N.Disk.told in
    let state = g.D.Disk.state in
    let m_state = g.M.Disk.state in
    let o_state = g.N.Disk.state in
    let failed = g.D.Disk.faults in
    let m_failed = g.M.Disk.faults in
    let o_failed = g.N.Disk.faults in
    let start : TwinMoment = moment (standing first.outbox.out first.feed.stand first.cabinet.state first.sent.items) (faults (g.S.Source.faults l.initial.source) (o_failed first.outbox.file.disk.disk.now) (m_failed first.feed.file.disk.disk.now) (failed first.cabinet.file.disk.disk.now)) in
    let now : TwinMoment = moment (standing here.outbox.out here.feed.stand here.cabinet.state here.sent.items) (faults (g.S.Source.faults l.source) (o_failed here.outbox.file.disk.disk.now) (m_failed here.feed.file.disk.disk.now) (failed here.cabinet.file.disk.disk.now)) in
    record {
      on : RunsOn first.outbox.catalogue (g.S.Source.told l.initial.source)
          (change (modelled first.cabinet.file.disk.disk.now) (failed first.cabinet.file.disk.disk.now) (failed here.cabinet.file.disk.disk.now) (state first.cabinet.file.disk.disk.now) (state here.cabinet.file.disk.disk.now))
          (change (m_modelled first.feed.file.disk.disk.now) (m_failed first.feed.file.disk.disk.now) (m_failed here.feed.file.disk.disk.now) (m_state first.feed.file.disk.disk.now) (m_state here.feed.file.disk.disk.now))
          (change (o_modelled first.outbox.file.disk.disk.now) (o_failed first.outbox.file.disk.disk.now) (o_failed here.outbox.file.disk.disk.now) (o_state first.outbox.file.disk.disk.now) (o_state here.outbox.file.disk.disk.now))
          (IsSettled first.cabinet.file.journal) (IsSettled here.cabinet.file.journal) (record { writes = counts (g.O.ByteSink.faults l.initial.output) (g.O.ByteSink.faults l.output); from = g.O.ByteSink.taken l.initial.output; to = g.O.ByteSink.taken l.output }) 1 l.text start now l.next.line l.next.rest.now;
      ready : IsTwinReady here.outbox.catalogue (standing here.outbox.out here.feed.stand here.cabinet.state here.sent.items);
      catalogue : here.outbox.catalogue ≡ first.outbox.catalogue;
      digest : digest_of here.feed.file.journal ≡ digest_of first.feed.file.journal;
      told : modelled here.cabinet.file.disk.disk.now ≡ modelled first.cabinet.file.disk.disk.now;
      marks_told : m_modelled here.feed.file.disk.disk.now ≡ m_modelled first.feed.file.disk.disk.now;
      outbox_told : o_modelled here.outbox.file.disk.disk.now ≡ o_modelled first.outbox.file.disk.disk.now;
      source_told : g.S.Source.told l.source ≡ g.S.Source.told l.initial.source;
      later : g.O.ByteSink.faults l.initial.output ≤ g.O.ByteSink.faults l.output;
    }

abbrev pub decreases-running : goal.decreases-running
decreases-running g l = length (lines_of l.next.rest.now)
