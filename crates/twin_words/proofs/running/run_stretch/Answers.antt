use Rattle.http_wire.proofs.TakesOn.{rose_before}
use Rattle.std.proofs.Common.{◌∷◌, ◌-◌, ◌^◌, ap, arith, refl, ◌∙◌}
use Rattle.tile_service.specs.Lines.{lines_of}
use Rattle.gate_journal.specs.Sound.{IsSettled}
use Rattle.command_status.specs.declared.status.Status.TheVariants as status
use Rattle.twin_events.specs.Twins.{standing}
use Rattle.twin_lines.specs.declared.lines.Halt.TheVariants as halt
use Rattle.twin_lines.specs.Steps.{TwinMoment, faults, moment}
use Rattle.twin_words.proofs.Going.{weight_counts, weight_then}
use Rattle.twin_words.proofs.Stretching.{run_ended, run_to_stop, stop_cut, stop_on, stop_refused}
use Rattle.twin_words.specs.Works.{weight}
use Rattle.twin_words.proofs.running.run_stretch.Goals as goal

pub returns-in-Done-clause-ended : goal.returns-in-Done-clause-ended
returns-in-Done-clause-ended g c =
    let old = c.args.twin in
    let new = c.run_lines.new.twin in
    let r = c.run_lines.ensures in
    let told = g.D.Disk.told in
    let m_told = g.M.Disk.told in
    let o_told = g.N.Disk.told in
    let state = g.D.Disk.state in
    let m_state = g.M.Disk.state in
    let o_state = g.N.Disk.state in
    let failed = g.D.Disk.faults in
    let m_failed = g.M.Disk.faults in
    let o_failed = g.N.Disk.faults in
    let d = old.cabinet.file.disk.disk.now in
    let m = old.feed.file.disk.disk.now in
    let o = old.outbox.file.disk.disk.now in
    let d1 = new.cabinet.file.disk.disk.now in
    let m1 = new.feed.file.disk.disk.now in
    let o1 = new.outbox.file.disk.disk.now in
    let s = standing old.outbox.out old.feed.stand old.cabinet.state old.sent.items in
    let t = standing new.outbox.out new.feed.stand new.cabinet.state new.sent.items in
    let source_failed = g.S.Source.faults c.args.source.now in
    let source_then = g.S.Source.faults c.run_lines.new.source in
    let e = c.end_run.ensures in
    rw (e.end, e.same, e.marks_same, e.outbox_same)
    (run_ended old.outbox.catalogue (g.S.Source.told c.args.source.now) (told d) (told d1) (m_told m) (o_told o) old.cabinet.file.journal new.cabinet.file.journal (state d) (state d1) (m_state m) (m_state m1) (o_state o) (o_state o1) (failed d) (failed d1) (m_failed m) (m_failed m1) (o_failed o) (o_failed o1) source_failed source_then _ c.args.line c.args.text.now s t halt.Done status.Done refl
    (rw c.requires.digest at c.in-Done.ensures.runs) r.lasts c.requires.ready.same (rw (r.catalogue, r.lasts.outlasts.same_told, r.marks_told, r.posts_told, e.same, e.marks_same, e.outbox_same) at e.left))

pub returns-in-Line-clause-ended : goal.returns-in-Line-clause-ended
returns-in-Line-clause-ended g c =
    let old = c.args.twin in
    let new = c.run_lines.new.twin in
    let r = c.run_lines.ensures in
    let told = g.D.Disk.told in
    let m_told = g.M.Disk.told in
    let o_told = g.N.Disk.told in
    let state = g.D.Disk.state in
    let m_state = g.M.Disk.state in
    let o_state = g.N.Disk.state in
    let failed = g.D.Disk.faults in
    let m_failed = g.M.Disk.faults in
    let o_failed = g.N.Disk.faults in
    let d = old.cabinet.file.disk.disk.now in
    let m = old.feed.file.disk.disk.now in
    let o = old.outbox.file.disk.disk.now in
    let d1 = new.cabinet.file.disk.disk.now in
    let m1 = new.feed.file.disk.disk.now in
    let o1 = new.outbox.file.disk.disk.now in
    let s = standing old.outbox.out old.feed.stand old.cabinet.state old.sent.items in
    let t = standing new.outbox.out new.feed.stand new.cabinet.state new.sent.items in
    let source_failed = g.S.Source.faults c.args.source.now in
    let source_then = g.S.Source.faults c.run_lines.new.source in
    let e = c.end_run-in-Line.ensures in
    rw (e.end, e.same, e.marks_same, e.outbox_same)
    (run_ended old.outbox.catalogue (g.S.Source.told c.args.source.now) (told d) (told d1) (m_told m) (o_told o) old.cabinet.file.journal new.cabinet.file.journal (state d) (state d1) (m_state m) (m_state m1) (o_state o) (o_state o1) (failed d) (failed d1) (m_failed m) (m_failed m1) (o_failed o) (o_failed o1) source_failed source_then _ c.args.line c.args.text.now s t (halt.Line c.in-Line.number) (status.Line c.in-Line.number) refl
    (rw c.requires.digest at c.in-Line.ensures.runs) r.lasts c.requires.ready.same (rw (r.catalogue, r.lasts.outlasts.same_told, r.marks_told, r.posts_told, e.same, e.marks_same, e.outbox_same) at e.left))

pub returns-in-WriteFault-clause-ended : goal.returns-in-WriteFault-clause-ended
returns-in-WriteFault-clause-ended g c =
    let old = c.args.twin in
    let new = c.run_lines.new.twin in
    let r = c.run_lines.ensures in
    let told = g.D.Disk.told in
    let m_told = g.M.Disk.told in
    let o_told = g.N.Disk.told in
    let state = g.D.Disk.state in
    let m_state = g.M.Disk.state in
    let o_state = g.N.Disk.state in
    let failed = g.D.Disk.faults in
    let m_failed = g.M.Disk.faults in
    let o_failed = g.N.Disk.faults in
    let d = old.cabinet.file.disk.disk.now in
    let m = old.feed.file.disk.disk.now in
    let o = old.outbox.file.disk.disk.now in
    let d1 = new.cabinet.file.disk.disk.now in
    let m1 = new.feed.file.disk.disk.now in
    let o1 = new.outbox.file.disk.disk.now in
    let s = standing old.outbox.out old.feed.stand old.cabinet.state old.sent.items in
    let t = standing new.outbox.out new.feed.stand new.cabinet.state new.sent.items in
    let source_failed = g.S.Source.faults c.args.source.now in
    let source_then = g.S.Source.faults c.run_lines.new.source in
    let e = c.end_run-in-WriteFault.ensures in
    rw (e.end, e.same, e.marks_same, e.outbox_same)
    (run_ended old.outbox.catalogue (g.S.Source.told c.args.source.now) (told d) (told d1) (m_told m) (o_told o) old.cabinet.file.journal new.cabinet.file.journal (state d) (state d1) (m_state m) (m_state m1) (o_state o) (o_state o1) (failed d) (failed d1) (m_failed m) (m_failed m1) (o_failed o) (o_failed o1) source_failed source_then _ c.args.line c.args.text.now s t halt.WriteFault status.WriteFault refl
    (rw c.requires.digest at c.in-WriteFault.ensures.runs) r.lasts c.requires.ready.same (rw (r.catalogue, r.lasts.outlasts.same_told, r.marks_told, r.posts_told, e.same, e.marks_same, e.outbox_same) at e.left))

pub returns-in-OutOfMemory-clause-ended : goal.returns-in-OutOfMemory-clause-ended
returns-in-OutOfMemory-clause-ended g c =
    let old = c.args.twin in
    let new = c.run_lines.new.twin in
    let r = c.run_lines.ensures in
    let told = g.D.Disk.told in
    let m_told = g.M.Disk.told in
    let o_told = g.N.Disk.told in
    let state = g.D.Disk.state in
    let m_state = g.M.Disk.state in
    let o_state = g.N.Disk.state in
    let failed = g.D.Disk.faults in
    let m_failed = g.M.Disk.faults in
    let o_failed = g.N.Disk.faults in
    let d = old.cabinet.file.disk.disk.now in
    let m = old.feed.file.disk.disk.now in
    let o = old.outbox.file.disk.disk.now in
    let d1 = new.cabinet.file.disk.disk.now in
    let m1 = new.feed.file.disk.disk.now in
    let o1 = new.outbox.file.disk.disk.now in
    let s = standing old.outbox.out old.feed.stand old.cabinet.state old.sent.items in
    let t = standing new.outbox.out new.feed.stand new.cabinet.state new.sent.items in
    let source_failed = g.S.Source.faults c.args.source.now in
    let source_then = g.S.Source.faults c.run_lines.new.source in
    let e = c.end_run-in-OutOfMemory.ensures in
    rw (e.end, e.same, e.marks_same, e.outbox_same)
    (run_ended old.outbox.catalogue (g.S.Source.told c.args.source.now) (told d) (told d1) (m_told m) (o_told o) old.cabinet.file.journal new.cabinet.file.journal (state d) (state d1) (m_state m) (m_state m1) (o_state o) (o_state o1) (failed d) (failed d1) (m_failed m) (m_failed m1) (o_failed o) (o_failed o1) source_failed source_then _ c.args.line c.args.text.now s t halt.OutOfMemory status.OutOfMemory refl
    (rw c.requires.digest at c.in-OutOfMemory.ensures.runs) r.lasts c.requires.ready.same (rw (r.catalogue, r.lasts.outlasts.same_told, r.marks_told, r.posts_told, e.same, e.marks_same, e.outbox_same) at e.left))

pub returns-in-Err-clause-ended : goal.returns-in-Err-clause-ended
returns-in-Err-clause-ended g c =
    let old = c.args.twin in
    let new = c.run_lines.new.twin in
    let r = c.run_lines.ensures in
    let told = g.D.Disk.told in
    let m_told = g.M.Disk.told in
    let o_told = g.N.Disk.told in
    let state = g.D.Disk.state in
    let m_state = g.M.Disk.state in
    let o_state = g.N.Disk.state in
    let failed = g.D.Disk.faults in
    let m_failed = g.M.Disk.faults in
    let o_failed = g.N.Disk.faults in
    let d = old.cabinet.file.disk.disk.now in
    let m = old.feed.file.disk.disk.now in
    let o = old.outbox.file.disk.disk.now in
    let d1 = new.cabinet.file.disk.disk.now in
    let m1 = new.feed.file.disk.disk.now in
    let o1 = new.outbox.file.disk.disk.now in
    let s = standing old.outbox.out old.feed.stand old.cabinet.state old.sent.items in
    let t = standing new.outbox.out new.feed.stand new.cabinet.state new.sent.items in
    let source_failed = g.S.Source.faults c.args.source.now in
    let source_then = g.S.Source.faults c.run_lines.new.source in
    let run = rw c.requires.digest at c.in-Stop.ensures.runs in
    let ends = run.ends in
    let before : TwinMoment = moment s (faults source_failed (o_failed o) (m_failed m) (failed d)) in
    let after : TwinMoment = moment t (faults source_then (o_failed o1) (m_failed m1) (failed d1)) in
    let source = g.S.Source.told c.args.source.now in
    let part = run_to_stop old.outbox.catalogue source (told d) (told d1) (m_told m) (o_told o) old.cabinet.file.journal new.cabinet.file.journal (state d) (state d1) (m_state m) (m_state m1) (o_state o) (o_state o1) (failed d) (failed d1) _ c.args.line c.args.text.now before after (halt.Stop c.in-Stop.side c.in-Stop.number c.in-Stop.rest) run r.lasts c.requires.ready.same refl refl ends.7 ends.0 ends.3 in
    let e = c.in-Err.ensures in
    let refusal = c.in-Err.refusal in
    let d2 = refusal.disks.cache.now in
    let m2 = refusal.disks.marks.now in
    let o2 = refusal.disks.outbox.now in
    rw c.status_of_opening.ensures
    (stop_refused old.outbox.catalogue source (told d) (m_told m) (o_told o) (state d) (state d1) (state d2) (m_state m) (m_state m1) (m_state m2) (o_state o) (o_state o1) (o_state o2) (failed d) (failed d1) (failed d2) (m_failed m) (m_failed m1) (m_failed m2) (o_failed o) (o_failed o1) (o_failed o2) source_then source_then
    (IsSettled old.cabinet.file.journal) (IsSettled new.cabinet.file.journal) (g.O.ByteSink.taken c.args.output.now) (g.O.ByteSink.taken c.run_lines.new.output) (g.O.ByteSink.faults c.args.output.now) (g.O.ByteSink.faults c.run_lines.new.output) c.args.line c.args.text.now before after ends.0 run.steps c.in-Stop.number ends.1 c.in-Stop.rest.now c.in-Stop.side part ends.2 ends.4 ends.5 ends.6 refl
    refusal.cause (rw (r.catalogue, r.lasts.outlasts.same_told, r.marks_told, r.posts_told) at (e.closed source_then)) e.refused_later e.refused_marks_later e.refused_outbox_later (omega arith))

pub returns-then-told_stopped-clause-on : goal.returns-then-told_stopped-clause-on
returns-then-told_stopped-clause-on g c =
    let old = c.args.twin in
    let new = c.run_lines.new.twin in
    let r = c.run_lines.ensures in
    let told = g.D.Disk.told in
    let m_told = g.M.Disk.told in
    let o_told = g.N.Disk.told in
    let state = g.D.Disk.state in
    let m_state = g.M.Disk.state in
    let o_state = g.N.Disk.state in
    let failed = g.D.Disk.faults in
    let m_failed = g.M.Disk.faults in
    let o_failed = g.N.Disk.faults in
    let d = old.cabinet.file.disk.disk.now in
    let m = old.feed.file.disk.disk.now in
    let o = old.outbox.file.disk.disk.now in
    let d1 = new.cabinet.file.disk.disk.now in
    let m1 = new.feed.file.disk.disk.now in
    let o1 = new.outbox.file.disk.disk.now in
    let s = standing old.outbox.out old.feed.stand old.cabinet.state old.sent.items in
    let t = standing new.outbox.out new.feed.stand new.cabinet.state new.sent.items in
    let source_failed = g.S.Source.faults c.args.source.now in
    let source_then = g.S.Source.faults c.run_lines.new.source in
    let run = rw c.requires.digest at c.in-Stop.ensures.runs in
    let ends = run.ends in
    let before : TwinMoment = moment s (faults source_failed (o_failed o) (m_failed m) (failed d)) in
    let after : TwinMoment = moment t (faults source_then (o_failed o1) (m_failed m1) (failed d1)) in
    let source = g.S.Source.told c.args.source.now in
    let part = run_to_stop old.outbox.catalogue source (told d) (told d1) (m_told m) (o_told o) old.cabinet.file.journal new.cabinet.file.journal (state d) (state d1) (m_state m) (m_state m1) (o_state o) (o_state o1) (failed d) (failed d1) _ c.args.line c.args.text.now before after (halt.Stop c.in-Stop.side c.in-Stop.number c.in-Stop.rest) run r.lasts c.requires.ready.same refl refl ends.7 ends.0 ends.3 in
    let restarts = c.in-Ok.ensures in
    let again = c.in-Ok.twin in
    let d2 = again.cabinet.file.disk.disk.now in
    let m2 = again.feed.file.disk.disk.now in
    let o2 = again.outbox.file.disk.disk.now in
    let u = standing again.outbox.out again.feed.stand again.cabinet.state again.sent.items in
    let last : TwinMoment = moment u (faults source_then (o_failed o2) (m_failed m2) (failed d2)) in
    let opened = rw (r.catalogue, r.lasts.outlasts.same_told, r.marks_told, r.posts_told) at (restarts.restarts source source_then) in
    stop_on old.outbox.catalogue source (told d) (m_told m) (o_told o) (state d) (state d1) (state d2) (m_state m) (m_state m1) (m_state m2) (o_state o) (o_state o1) (o_state o2) (failed d) (failed d1) (failed d2) (m_failed m) (m_failed m1) (m_failed m2) (o_failed o) (o_failed o1) (o_failed o2) source_then source_then
    (IsSettled old.cabinet.file.journal) (IsSettled new.cabinet.file.journal) (g.O.ByteSink.taken c.args.output.now) (g.O.ByteSink.taken c.run_lines.new.output) (g.O.ByteSink.faults c.args.output.now) (g.O.ByteSink.faults c.run_lines.new.output) c.args.line c.args.text.now before after ends.0 run.steps c.in-Stop.number ends.1 c.in-Stop.rest.now c.in-Stop.side part ends.2 ends.4 ends.5 ends.6 refl
    (IsSettled again.cabinet.file.journal) last (g.O.ByteSink.taken c.told_stopped.new.output) (g.O.ByteSink.faults c.told_stopped.new.output) opened
    (c.if-told_stopped.ensures.told c.in-Stop.side)

pub returns-else-told_stopped-clause-ended : goal.returns-else-told_stopped-clause-ended
returns-else-told_stopped-clause-ended g c =
    let old = c.args.twin in
    let new = c.run_lines.new.twin in
    let r = c.run_lines.ensures in
    let told = g.D.Disk.told in
    let m_told = g.M.Disk.told in
    let o_told = g.N.Disk.told in
    let state = g.D.Disk.state in
    let m_state = g.M.Disk.state in
    let o_state = g.N.Disk.state in
    let failed = g.D.Disk.faults in
    let m_failed = g.M.Disk.faults in
    let o_failed = g.N.Disk.faults in
    let d = old.cabinet.file.disk.disk.now in
    let m = old.feed.file.disk.disk.now in
    let o = old.outbox.file.disk.disk.now in
    let d1 = new.cabinet.file.disk.disk.now in
    let m1 = new.feed.file.disk.disk.now in
    let o1 = new.outbox.file.disk.disk.now in
    let s = standing old.outbox.out old.feed.stand old.cabinet.state old.sent.items in
    let t = standing new.outbox.out new.feed.stand new.cabinet.state new.sent.items in
    let source_failed = g.S.Source.faults c.args.source.now in
    let source_then = g.S.Source.faults c.run_lines.new.source in
    let run = rw c.requires.digest at c.in-Stop.ensures.runs in
    let ends = run.ends in
    let before : TwinMoment = moment s (faults source_failed (o_failed o) (m_failed m) (failed d)) in
    let after : TwinMoment = moment t (faults source_then (o_failed o1) (m_failed m1) (failed d1)) in
    let source = g.S.Source.told c.args.source.now in
    let part = run_to_stop old.outbox.catalogue source (told d) (told d1) (m_told m) (o_told o) old.cabinet.file.journal new.cabinet.file.journal (state d) (state d1) (m_state m) (m_state m1) (o_state o) (o_state o1) (failed d) (failed d1) _ c.args.line c.args.text.now before after (halt.Stop c.in-Stop.side c.in-Stop.number c.in-Stop.rest) run r.lasts c.requires.ready.same refl refl ends.7 ends.0 ends.3 in
    let restarts = c.in-Ok.ensures in
    let again = c.in-Ok.twin in
    let d2 = again.cabinet.file.disk.disk.now in
    let m2 = again.feed.file.disk.disk.now in
    let o2 = again.outbox.file.disk.disk.now in
    let u = standing again.outbox.out again.feed.stand again.cabinet.state again.sent.items in
    let last : TwinMoment = moment u (faults source_then (o_failed o2) (m_failed m2) (failed d2)) in
    let opened = rw (r.catalogue, r.lasts.outlasts.same_told, r.marks_told, r.posts_told) at (restarts.restarts source source_then) in
    let e = c.end_run-else-told_stopped.ensures in
    let cut = c.if-told_stopped.ensures.told c.in-Stop.side in
    rw (e.end, e.same, e.marks_same, e.outbox_same)
    (stop_cut old.outbox.catalogue source (told d) (m_told m) (o_told o) (state d) (state d1) (state d2) (m_state m) (m_state m1) (m_state m2) (o_state o) (o_state o1) (o_state o2) (failed d) (failed d1) (failed d2) (m_failed m) (m_failed m1) (m_failed m2) (o_failed o) (o_failed o1) (o_failed o2) source_then source_then
    (IsSettled old.cabinet.file.journal) (IsSettled new.cabinet.file.journal) (g.O.ByteSink.taken c.args.output.now) (g.O.ByteSink.taken c.run_lines.new.output) (g.O.ByteSink.faults c.args.output.now) (g.O.ByteSink.faults c.run_lines.new.output) c.args.line c.args.text.now before after ends.0 run.steps c.in-Stop.number ends.1 c.in-Stop.rest.now c.in-Stop.side part ends.2 ends.4 ends.5 ends.6 refl
    (IsSettled again.cabinet.file.journal) last (g.O.ByteSink.taken c.told_stopped.new.output) (g.O.ByteSink.faults c.told_stopped.new.output) opened
    cut.0 (rose_before (2 ^ 64 - 1) (g.O.ByteSink.faults c.args.output.now) (g.O.ByteSink.faults c.run_lines.new.output) (g.O.ByteSink.faults c.told_stopped.new.output) r.later cut.1) (rw (restarts.catalogue, r.catalogue, restarts.told, r.lasts.outlasts.same_told, restarts.marks_told, r.marks_told, restarts.outbox_told, r.posts_told, e.same, e.marks_same, e.outbox_same) at e.left) refl)

pub overflow_add-result : goal.overflow_add-result
overflow_add-result g c =
    let ends = c.in-Stop.ensures.runs.ends in
    let all = ap weight ends.2 ∙ weight_then ends.0 (ends.1 ∷ lines_of c.in-Stop.rest.now) in
    let few = weight_counts ends.0 in
    let number = ends.4 in
    let short = c.requires.short in
    omega (arith, all, few, number, short)
