use Rattle.std.proofs.Common.{Err, ap, arith, inl, inr, refl, sym, ◌∙◌}
use Rattle.change_feed.specs.Files.{MayEndIn}
use Rattle.gate_journal.specs.Sound.{IsSettled}
use Rattle.outbox.specs.Files.{MayOpenTo}
use Rattle.twin_events.specs.Twins.{standing}
use Rattle.twin_lines.specs.Ends.{passage}
use Rattle.twin_lines.specs.Steps.{TwinMoment, faults, moment}
use Rattle.twin_words.proofs.Joining.{same_count, same_leaves, unread_by}
use Rattle.twin_words.proofs.Stretching.{closed_part}
use Rattle.twin_words.specs.Opens.{IsLeftFor}
use Rattle.twin_words.proofs.running.run_input.Goals as goal

pub returns-in-Ok-clause-runs : goal.returns-in-Ok-clause-runs
returns-in-Ok-clause-runs g c =
    let whole = rw (sym c.as_slice.ensures.value) at c.in-Ok.ensures.whole in
    inl (c.as_slice.result.now, record { read = whole.0; at_end = whole.1; short = whole.2 }, c.run_text.ensures.runs)

pub returns-in-Err-clause-runs : goal.returns-in-Err-clause-runs
returns-in-Err-clause-runs g c =
    let twin = c.args.twin in
    let e = c.end_run.ensures in
    let told = g.D.Disk.told in
    let m_told = g.M.Disk.told in
    let o_told = g.N.Disk.told in
    let state = g.D.Disk.state in
    let m_state = g.M.Disk.state in
    let o_state = g.N.Disk.state in
    let failed = g.D.Disk.faults in
    let m_failed = g.M.Disk.faults in
    let o_failed = g.N.Disk.faults in
    let d = twin.cabinet.file.disk.disk.now in
    let m = twin.feed.file.disk.disk.now in
    let o = twin.outbox.file.disk.disk.now in
    let d' = c.end_run.result.disks.cache.now in
    let m' = c.end_run.result.disks.marks.now in
    let o' = c.end_run.result.disks.outbox.now in
    let s : TwinMoment = moment (standing twin.outbox.out twin.feed.stand twin.cabinet.state twin.sent.items) (faults (g.S.Source.faults c.args.source.now) (o_failed o) (m_failed m) (failed d)) in
    inr (
      record {
        works = record {
          part = closed_part twin.outbox.catalogue (g.S.Source.told c.args.source.now) (passage (told d) (state d) (state d')) (passage (m_told m) (m_state m) (m_state m')) (passage (o_told o) (o_state o) (o_state o')) (IsSettled twin.cabinet.file.journal) s
              (λ is. same_leaves state d d' (IsLeftFor twin.outbox.catalogue twin.cabinet.state) e.same) (λ is. same_leaves m_state m m' (MayEndIn twin.outbox.catalogue.digest twin.feed.stand) e.marks_same) (λ is. same_leaves o_state o o' (MayOpenTo twin.outbox.catalogue twin.outbox.out) e.outbox_same);
          counted = record { source = omega arith; cache = same_count failed d d' e.same; marks = same_count m_failed m m' e.marks_same; outbox = same_count o_failed o o' e.outbox_same };
          left = e.left;
        };
        quiet_output = refl;
        quiet_source = refl;
      },
      (c.in-Err.why, e.end ∙ c.status_of_input.ensures, unread_by _ c.in-Err.why (λ is. c.in-Err.ensures.fault (ap Err is)) (λ is. c.in-Err.ensures.long (ap Err is))),
    )
