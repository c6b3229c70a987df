use Rattle.std.proofs.Common.{refl, sym, subst, ◌∙◌}
use Rattle.cabinet.specs.State.{State}
use Rattle.job_forms.specs.Job.{Fits}
use Rattle.job_words.proofs.Telling.{job_tells}
use Rattle.opened_cache.proofs.Closing.{has_opened}
use Rattle.opened_cache.proofs.Lasting.{worked}
use Rattle.tile_service.specs.Session.{IsAtRest}
use Rattle.job_words.proofs.word.run_over.Goals as goal

pub run_and_save-tally-requires-clause-fits : goal.run_and_save-tally-requires-clause-fits
run_and_save-tally-requires-clause-fits g c = subst (λ (s : State). Fits s.catalogue c.args.job.now) (sym c.in-Ok.ensures.opened.begins) c.requires.fits

pub run_and_save-tally-requires-clause-rest : goal.run_and_save-tally-requires-clause-rest
run_and_save-tally-requires-clause-rest g c = subst IsAtRest (sym c.in-Ok.ensures.opened.begins) refl

pub returns-in-Ok-clause-runs : goal.returns-in-Ok-clause-runs
returns-in-Ok-clause-runs g c =
    let same = c.close_cache-disk.ensures.same in
    let o = c.in-Ok.ensures in
    let work = c.run_and_save-tally in
    let faults = g.D.Disk.faults in
    let first = c.in-Ok.cabinet in
    let last = work.new.cabinet in
    let outlasts = work.ensures.lasts.outlasts in
    let told = outlasts.same_told ∙ o.told in
    let runs = work.ensures.runs (faults c.args.disk.now) o.later in
    rw same
    (job_tells _ _ c.args.job.now _ _ _ first.state last.state runs.0
    (has_opened _ _ _ _ _ (faults c.args.disk.now) (faults first.file.disk.disk.now) (faults last.file.disk.disk.now) first.file.journal last.file.journal _ _ _ _ _ c.requires.valid o.opened outlasts.same_catalogue told o.later o.settled outlasts.settled (rw (sym same) c.close_cache-disk.ensures.closed))
    runs.2 work.result runs.1 c.told_tally-status.result c.told_tally-status.ensures)

pub returns-in-Ok-clause-lasts : goal.returns-in-Ok-clause-lasts
returns-in-Ok-clause-lasts g c =
    let o = c.in-Ok.ensures in
    rw c.close_cache-disk.ensures.same
    (worked _ _ _ _ _ _ _ _ _ _ _ _ _ _ _ (λ told. g.met.D.Disk.lawful c.args.disk.now told) o.opened o.lasts o.told c.run_and_save-tally.ensures.lasts.outlasts)
