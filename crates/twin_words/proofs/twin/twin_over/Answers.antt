use Rattle.std.proofs.Common.{ap, inl, refl, sym, ◌≡◌, ◌∙◌}
use Rattle.catalog.specs.declared.catalogue.Catalogue.{Catalogue}
use Rattle.gate_journal.specs.Sound.{IsSettled}
use Rattle.opened_cache.proofs.Lasting.{opening_lasts}
use Rattle.sessions.specs.Outside.{counts}
use Rattle.twin_events.specs.Twins.{standing}
use Rattle.twin_words.proofs.Beginning.{lasts, twins}
use Rattle.twin_words.specs.Ends.{Stays, TwinChange}
use Rattle.twin_words.specs.Made.{change_of}
use Rattle.twin_words.proofs.twin.twin_over.Goals as goal

pub run_input-end-requires-clause-ready : goal.run_input-end-requires-clause-ready
run_input-end-requires-clause-ready g c = rw c.in-Ok.ensures.catalogue c.in-Ok.ensures.ready

pub run_input-end-requires-clause-digest : goal.run_input-end-requires-clause-digest
run_input-end-requires-clause-digest g c = c.in-Ok.ensures.digest ∙ sym (ap (λ (x : Catalogue). x.digest) c.in-Ok.ensures.catalogue)

pub returns-in-Ok-clause-twins : goal.returns-in-Ok-clause-twins
returns-in-Ok-clause-twins g c =
    let h : TwinChange =
    record {
      input = record { reads = counts (g.I.ByteSource.faults c.args.input.now) (g.I.ByteSource.faults c.run_input-end.new.input); from = g.I.ByteSource.left c.args.input.now; to = g.I.ByteSource.left c.run_input-end.new.input };
      output = record { writes = counts (g.O.ByteSink.faults c.args.output.now) (g.O.ByteSink.faults c.run_input-end.new.output); from = g.O.ByteSink.taken c.args.output.now; to = g.O.ByteSink.taken c.run_input-end.new.output };
      source = record { told = g.S.Source.told c.args.source.now; faults = counts (g.S.Source.faults c.args.source.now) (g.S.Source.faults c.run_input-end.new.source) };
      cache = change_of g.D.Disk.told g.D.Disk.state g.D.Disk.faults c.args.disk.now c.run_input-end.result.disks.cache.now;
      marks = change_of g.M.Disk.told g.M.Disk.state g.M.Disk.faults c.args.marks.now c.run_input-end.result.disks.marks.now;
      outbox = change_of g.N.Disk.told g.N.Disk.state g.N.Disk.faults c.args.outbox.now c.run_input-end.result.disks.outbox.now;
    } in
    let o = c.in-Ok.ensures in
    let twin = c.in-Ok.twin in
    let state = g.D.Disk.state in
    let m_state = g.M.Disk.state in
    let o_state = g.N.Disk.state in
    let failed = g.D.Disk.faults in
    let m_failed = g.M.Disk.faults in
    let o_failed = g.N.Disk.faults in
    let d = twin.cabinet.file.disk.disk.now in
    let m = twin.feed.file.disk.disk.now in
    let box = twin.outbox.file.disk.disk.now in
    let runs = rw (o.catalogue, o.told, o.marks_told, o.outbox_told) at c.run_input-end.ensures.runs in
    let stays : Stays =
    record {
      input = (c.run_input-end.new.input ≡ c.args.input.now);
      output = (c.run_input-end.new.output ≡ c.args.output.now);
      source = (c.run_input-end.new.source ≡ c.args.source.now);
      cache = (c.run_input-end.result.disks.cache.now ≡ c.args.disk.now);
      marks = (c.run_input-end.result.disks.marks.now ≡ c.args.marks.now);
      outbox = (c.run_input-end.result.disks.outbox.now ≡ c.args.outbox.now);
    } in
    twins c.laws_of_lossy_links.ensures.all c.laws_of_lossy_links.ensures.tiles c.laws_of_marks.ensures.either c.laws_of_outboxes.ensures.found c.args.catalogue c.args.clock h (state d) (m_state m) (o_state box) (failed d) (m_failed m) (o_failed box) (standing twin.outbox.out twin.feed.stand twin.cabinet.state twin.sent.items) (IsSettled twin.cabinet.file.journal)
    c.requires.valid o.known o.settled (λ is. g.met.D.Disk.lawful c.args.disk.now is) (λ is. g.met.M.Disk.lawful c.args.marks.now is) (λ is. g.met.N.Disk.lawful c.args.outbox.now is) o.later o.marks_later o.outbox_later o.opens stays c.run_input-end.result.end runs

pub returns-in-Ok-clause-lasts : goal.returns-in-Ok-clause-lasts
returns-in-Ok-clause-lasts g c =
    let h : TwinChange =
    record {
      input = record { reads = counts (g.I.ByteSource.faults c.args.input.now) (g.I.ByteSource.faults c.run_input-end.new.input); from = g.I.ByteSource.left c.args.input.now; to = g.I.ByteSource.left c.run_input-end.new.input };
      output = record { writes = counts (g.O.ByteSink.faults c.args.output.now) (g.O.ByteSink.faults c.run_input-end.new.output); from = g.O.ByteSink.taken c.args.output.now; to = g.O.ByteSink.taken c.run_input-end.new.output };
      source = record { told = g.S.Source.told c.args.source.now; faults = counts (g.S.Source.faults c.args.source.now) (g.S.Source.faults c.run_input-end.new.source) };
      cache = change_of g.D.Disk.told g.D.Disk.state g.D.Disk.faults c.args.disk.now c.run_input-end.result.disks.cache.now;
      marks = change_of g.M.Disk.told g.M.Disk.state g.M.Disk.faults c.args.marks.now c.run_input-end.result.disks.marks.now;
      outbox = change_of g.N.Disk.told g.N.Disk.state g.N.Disk.faults c.args.outbox.now c.run_input-end.result.disks.outbox.now;
    } in
    let o = c.in-Ok.ensures in
    let twin = c.in-Ok.twin in
    let state = g.D.Disk.state in
    let m_state = g.M.Disk.state in
    let o_state = g.N.Disk.state in
    let failed = g.D.Disk.faults in
    let m_failed = g.M.Disk.faults in
    let o_failed = g.N.Disk.faults in
    let d = twin.cabinet.file.disk.disk.now in
    let m = twin.feed.file.disk.disk.now in
    let box = twin.outbox.file.disk.disk.now in
    let runs = rw (o.catalogue, o.told, o.marks_told, o.outbox_told) at c.run_input-end.ensures.runs in
    lasts c.laws_of_lossy_links.ensures.all c.laws_of_lossy_links.ensures.tiles c.laws_of_marks.ensures.either c.laws_of_outboxes.ensures.found c.args.catalogue c.args.clock h (state d) (m_state m) (o_state box) (failed d) (m_failed m) (o_failed box) (standing twin.outbox.out twin.feed.stand twin.cabinet.state twin.sent.items) (IsSettled twin.cabinet.file.journal)
    c.requires.valid o.known o.settled (λ is. g.met.D.Disk.lawful c.args.disk.now is) (λ is. g.met.M.Disk.lawful c.args.marks.now is) (λ is. g.met.N.Disk.lawful c.args.outbox.now is) o.later o.marks_later o.outbox_later o.opens (c.run_input-end.new.output ≡ c.args.output.now) (c.run_input-end.new.source ≡ c.args.source.now) c.run_input-end.result.end runs

pub returns-in-Err-clause-twins : goal.returns-in-Err-clause-twins
returns-in-Err-clause-twins g c = inl (c.in-Err.refusal.cause, c.status_of_opening.ensures, inl (record { refused = c.in-Err.ensures.refuses; input = refl; output = refl; source = refl }))

pub returns-in-Err-clause-lasts : goal.returns-in-Err-clause-lasts
returns-in-Err-clause-lasts g c = λ told. opening_lasts c.args.catalogue (g.D.Disk.state c.args.disk.now) (g.D.Disk.state c.in-Err.refusal.disks.cache.now) (g.met.D.Disk.lawful c.args.disk.now told) (c.in-Err.ensures.refused_leaves told)
