use Rattle.std.proofs.Common.{arith, subst, sym, All, List}
use Rattle.job_places.specs.declared.tally.Tally.{Tally}
use Rattle.seed_jobs.specs.Crews.{HaveWorked}
use Rattle.seed_jobs.specs.Members.{tallies_of, workers_of}
use Rattle.seed_jobs.specs.Totals.{HasFew}
use Rattle.seed_jobs.proofs.Shared.{all_after, are_of, ended_at_last, few, shared_at_last, worked_alike}
use Rattle.seed_jobs.proofs.crew.run_seed.Goals as goal

pub gather-watch-requires : goal.gather-watch-requires
gather-watch-requires g c =
    record { own = are_of c.args.hall.now.catalogue c.args.job.now c.args.hall.now.turnstile.table c.args.sheet.now (workers_of g.S.Source.told g.S.Source.faults g.S.Source.gave c.args.crew.now) (workers_of g.S.Source.told g.S.Source.faults g.S.Source.gave c.work_all.new.crew) (tallies_of c.work_all.new.crew) c.work_all.ensures.worked c.requires.crew }

pub total-requires-clause-few : goal.total-requires-clause-few
total-requires-clause-few g c =
    subst (λ (ts : List Tally). All HasFew ts) (sym c.gather-watch.ensures.tallies)
    (few c.args.hall.now.catalogue c.args.job.now c.args.hall.now.turnstile.table c.args.sheet.now (workers_of g.S.Source.told g.S.Source.faults g.S.Source.gave c.args.crew.now) (workers_of g.S.Source.told g.S.Source.faults g.S.Source.gave c.work_all.new.crew) (tallies_of c.work_all.new.crew) (omega (arith, c.requires.sheet, c.requires.fits.places)) c.work_all.ensures.worked c.requires.crew)

worked : (g : _) (c : goal.After-total g) → HaveWorked c.args.hall.now.catalogue c.args.job.now (workers_of g.S.Source.told g.S.Source.faults g.S.Source.gave c.args.crew.now) (workers_of g.S.Source.told g.S.Source.faults g.S.Source.gave c.gather-watch.new.crew) (tallies_of c.gather-watch.new.crew)
worked g c =
    subst (λ (ts : List Tally). HaveWorked c.args.hall.now.catalogue c.args.job.now (workers_of g.S.Source.told g.S.Source.faults g.S.Source.gave c.args.crew.now) (workers_of g.S.Source.told g.S.Source.faults g.S.Source.gave c.gather-watch.new.crew) ts) (sym c.gather-watch.ensures.tallies)
    (worked_alike c.args.hall.now.catalogue c.args.job.now (workers_of g.S.Source.told g.S.Source.faults g.S.Source.gave c.args.crew.now) (workers_of g.S.Source.told g.S.Source.faults g.S.Source.gave c.work_all.new.crew) (workers_of g.S.Source.told g.S.Source.faults g.S.Source.gave c.gather-watch.new.crew) (tallies_of c.work_all.new.crew) c.work_all.ensures.worked c.gather-watch.ensures.alike)

pub returns-clause-worked : goal.returns-clause-worked
returns-clause-worked g c = worked g c

pub returns-clause-shared : goal.returns-clause-shared
returns-clause-shared g c all =
    shared_at_last c.args.hall.now.catalogue c.args.job.now c.args.sheet.now (workers_of g.S.Source.told g.S.Source.faults g.S.Source.gave c.args.crew.now) (workers_of g.S.Source.told g.S.Source.faults g.S.Source.gave c.gather-watch.new.crew) (tallies_of c.gather-watch.new.crew) c.total.result (worked g c) all
    (c.gather-watch.ensures.shared (all_after c.args.hall.now.catalogue c.args.job.now c.args.sheet.now (workers_of g.S.Source.told g.S.Source.faults g.S.Source.gave c.args.crew.now) (workers_of g.S.Source.told g.S.Source.faults g.S.Source.gave c.work_all.new.crew) (tallies_of c.work_all.new.crew) c.work_all.ensures.worked all)) c.total.ensures

pub returns-clause-ended : goal.returns-clause-ended
returns-clause-ended g c all =
    ended_at_last c.args.hall.now.catalogue c.args.job.now c.args.sheet.now (workers_of g.S.Source.told g.S.Source.faults g.S.Source.gave c.args.crew.now) (workers_of g.S.Source.told g.S.Source.faults g.S.Source.gave c.gather-watch.new.crew) (tallies_of c.gather-watch.new.crew) c.total.result c.gather-watch.result (worked g c) all
    (c.gather-watch.ensures.ended (all_after c.args.hall.now.catalogue c.args.job.now c.args.sheet.now (workers_of g.S.Source.told g.S.Source.faults g.S.Source.gave c.args.crew.now) (workers_of g.S.Source.told g.S.Source.faults g.S.Source.gave c.work_all.new.crew) (tallies_of c.work_all.new.crew) c.work_all.ensures.worked all)) c.total.ensures
