use Rattle.std.proofs.Common.{ap, arith, refl, sym, ◌∙◌}
use Rattle.catalog.specs.declared.catalogue.Catalogue.{Catalogue}
use Rattle.gate_journal.specs.Sound.{IsSettled}
use Rattle.twin_words.proofs.Joining.{nothing_on, on_few, on_then, text_then}
use Rattle.twin_words.proofs.running.run_text.Goals as goal

pub running-init : goal.running-init
running-init g c = record {
  on = nothing_on _ _ _ _ _ _ _ _ _ _ _ _ _ _ _ _;
  ready = c.requires.ready;
  catalogue = refl;
  digest = refl;
  told = refl;
  marks_told = refl;
  outbox_told = refl;
  source_told = refl;
  later = omega arith;
}

pub running-preserved : goal.running-preserved
running-preserved g c =
    let first = c.args.twin in
    let here = c.running.next.twin in
    let i = c.running.invariant in
    let told = g.D.Disk.told in
    let m_told = g.M.Disk.told in
    let o_told = g.N.Disk.told in
    let state = g.D.Disk.state in
    let m_state = g.M.Disk.state in
    let o_state = g.N.Disk.state in
    let failed = g.D.Disk.faults in
    let m_failed = g.M.Disk.faults in
    let o_failed = g.N.Disk.faults in
    let d = first.cabinet.file.disk.disk.now in
    let m = first.feed.file.disk.disk.now in
    let o = first.outbox.file.disk.disk.now in
    let d1 = here.cabinet.file.disk.disk.now in
    let m1 = here.feed.file.disk.disk.now in
    let o1 = here.outbox.file.disk.disk.now in
    let r = c.in-Ok.ensures in
    let behind = c.in-Ok.behind.twin in
    let d2 = behind.cabinet.file.disk.disk.now in
    let m2 = behind.feed.file.disk.disk.now in
    let o2 = behind.outbox.file.disk.disk.now in
    record {
      on = on_then first.outbox.catalogue (g.S.Source.told c.args.source.now) (told d) (m_told m) (o_told o) (state d) (state d1) (state d2) (m_state m) (m_state m1) (m_state m2) (o_state o) (o_state o1) (o_state o2) (failed d) (failed d1) (failed d2) (m_failed m) (m_failed m1) (m_failed m2) (o_failed o) (o_failed o1) (o_failed o2) 0
          (IsSettled first.cabinet.file.journal) (IsSettled here.cabinet.file.journal) (g.O.ByteSink.taken c.args.output.now) (g.O.ByteSink.taken c.running.output) (g.O.ByteSink.taken c.run_stretch.new.output) (g.O.ByteSink.faults c.args.output.now) (g.O.ByteSink.faults c.running.output) (g.O.ByteSink.faults c.run_stretch.new.output) c.args.text.now c.running.next.rest.now _ _ c.running.next.line i.on
          (IsSettled behind.cabinet.file.journal) _ c.in-Ok.behind.line c.in-Ok.behind.rest.now (rw (i.catalogue, i.source_told, i.told, i.marks_told, i.outbox_told) at r.on);
      ready = r.ready;
      catalogue = r.catalogue ∙ i.catalogue;
      digest = r.digest ∙ i.digest;
      told = r.told ∙ i.told;
      marks_told = r.marks_told ∙ i.marks_told;
      outbox_told = r.outbox_told ∙ i.outbox_told;
      source_told = r.source_told ∙ i.source_told;
      later = let a = i.later in let b = r.later in omega (arith, a, b);
    }

pub run_stretch-requires-clause-digest : goal.run_stretch-requires-clause-digest
run_stretch-requires-clause-digest g c =
    let i = c.running.invariant in
    i.digest ∙ c.requires.digest ∙ sym (ap (λ (x : Catalogue). x.digest) i.catalogue)

pub run_stretch-requires-clause-short : goal.run_stretch-requires-clause-short
run_stretch-requires-clause-short g c =
    let first = c.args.twin in
    let here = c.running.next.twin in
    let i = c.running.invariant in
    let told = g.D.Disk.told in
    let m_told = g.M.Disk.told in
    let o_told = g.N.Disk.told in
    let state = g.D.Disk.state in
    let m_state = g.M.Disk.state in
    let o_state = g.N.Disk.state in
    let failed = g.D.Disk.faults in
    let m_failed = g.M.Disk.faults in
    let o_failed = g.N.Disk.faults in
    let d = first.cabinet.file.disk.disk.now in
    let m = first.feed.file.disk.disk.now in
    let o = first.outbox.file.disk.disk.now in
    let d1 = here.cabinet.file.disk.disk.now in
    let m1 = here.feed.file.disk.disk.now in
    let o1 = here.outbox.file.disk.disk.now in
    on_few first.outbox.catalogue (g.S.Source.told c.args.source.now) (told d) (m_told m) (o_told o) (state d) (state d1) (state d1) (m_state m) (m_state m1) (m_state m1) (o_state o) (o_state o1) (o_state o1) (failed d) (failed d1) (failed d1) (m_failed m) (m_failed m1) (m_failed m1) (o_failed o) (o_failed o1) (o_failed o1) 0
    (IsSettled first.cabinet.file.journal) (IsSettled here.cabinet.file.journal) (g.O.ByteSink.taken c.args.output.now) (g.O.ByteSink.taken c.running.output) (g.O.ByteSink.taken c.running.output) (g.O.ByteSink.faults c.args.output.now) (g.O.ByteSink.faults c.running.output) (g.O.ByteSink.faults c.running.output) c.args.text.now c.running.next.rest.now _ _ c.running.next.line i.on c.requires.short

pub returns-in-Err-clause-runs : goal.returns-in-Err-clause-runs
returns-in-Err-clause-runs g c =
    let first = c.args.twin in
    let here = c.running.next.twin in
    let i = c.running.invariant in
    let told = g.D.Disk.told in
    let m_told = g.M.Disk.told in
    let o_told = g.N.Disk.told in
    let state = g.D.Disk.state in
    let m_state = g.M.Disk.state in
    let o_state = g.N.Disk.state in
    let failed = g.D.Disk.faults in
    let m_failed = g.M.Disk.faults in
    let o_failed = g.N.Disk.faults in
    let d = first.cabinet.file.disk.disk.now in
    let m = first.feed.file.disk.disk.now in
    let o = first.outbox.file.disk.disk.now in
    let d1 = here.cabinet.file.disk.disk.now in
    let m1 = here.feed.file.disk.disk.now in
    let o1 = here.outbox.file.disk.disk.now in
    let f = c.in-Err.finished in
    let d2 = f.disks.cache.now in
    let m2 = f.disks.marks.now in
    let o2 = f.disks.outbox.now in
    text_then first.outbox.catalogue (g.S.Source.told c.args.source.now) (told d) (m_told m) (o_told o) (state d) (state d1) (state d2) (m_state m) (m_state m1) (m_state m2) (o_state o) (o_state o1) (o_state o2) (failed d) (failed d1) (failed d2) (m_failed m) (m_failed m1) (m_failed m2) (o_failed o) (o_failed o1) (o_failed o2) (g.S.Source.faults c.run_stretch.new.source)
    (IsSettled first.cabinet.file.journal) (IsSettled here.cabinet.file.journal) (g.O.ByteSink.taken c.args.output.now) (g.O.ByteSink.taken c.running.output) (g.O.ByteSink.taken c.run_stretch.new.output) (g.O.ByteSink.faults c.args.output.now) (g.O.ByteSink.faults c.running.output) (g.O.ByteSink.faults c.run_stretch.new.output) c.args.text.now c.running.next.rest.now _ _ c.running.next.line i.on
    f.end i.later (rw (i.catalogue, i.source_told, i.told, i.marks_told, i.outbox_told) at c.in-Err.ensures.ended)
