use Rattle.std.proofs.Common.{refl, sym, ◌∙◌}
use Rattle.opened_cache.proofs.Closing.{has_opened}
use Rattle.opened_cache.proofs.Lasting.{worked}
use Rattle.opened_cache.proofs.Passing.{leads_passes}
use Rattle.disk_words.proofs.Passing.{runs_weaker}
use Rattle.disk_words.proofs.Running.{schedule_refused, schedule_tells}
use Rattle.disk_words.proofs.schedule_word.schedule_over.Goals as goal

pub returns-in-Ok-clause-runs : goal.returns-in-Ok-clause-runs
returns-in-Ok-clause-runs g c =
    let same = c.close_cache.ensures.same in
    let o = c.in-Ok.ensures in
    let work = c.run_and_save-end in
    let faults = g.D.Disk.faults in
    let first = c.in-Ok.cabinet in
    let last = work.new.counter.cabinet.cabinet in
    let outlasts = work.ensures.lasts.outlasts.outlasts in
    let told = outlasts.same_told ∙ o.told in
    rw (same, c.status_of_schedule.ensures)
    (schedule_tells _ _ _ _ _ _ _ _ _ work.result (
      first.state,
      last.state,
      has_opened _ _ _ _ _ (faults c.args.disk.now) (faults first.file.disk.disk.now) (faults last.file.disk.disk.now) first.file.journal last.file.journal _ _ _ _ _ c.requires.valid o.opened outlasts.same_catalogue told o.later o.settled outlasts.settled (rw (sym same) c.close_cache.ensures.closed),
      runs_weaker _ _
          (leads_passes work.new.counter.cabinet c.args.disk.now (λ k. k.cabinet.file.disk.disk.now) (λ k. k.cabinet.state) (λ k. k.cabinet.file.journal) g.D.Disk.told g.D.Disk.faults g.D.Disk.state g.met.D.Disk.lawful
          _ _ _ (record { cabinet = first }) o.opened o.lasts o.told c.leaves_now.ensures)
          _ _ _ _ _ _ work.result (work.ensures.runs _ o.later),
    ))

pub returns-in-Ok-clause-lasts : goal.returns-in-Ok-clause-lasts
returns-in-Ok-clause-lasts g c =
    let o = c.in-Ok.ensures in
    rw c.close_cache.ensures.same
    (worked _ _ _ _ _ _ _ _ _ _ _ _ _ _ _ (λ told. g.met.D.Disk.lawful c.args.disk.now told) o.opened o.lasts o.told c.run_and_save-end.ensures.lasts.outlasts.outlasts)

pub returns-in-Err-clause-runs : goal.returns-in-Err-clause-runs
returns-in-Err-clause-runs g c =
    let e = c.in-Err.ensures in
    rw c.status_of_opening.ensures (schedule_refused _ _ _ _ _ _ _ _ _ c.in-Err.refusal.0 e.refused e.refused_leaves refl (refl, refl))
