use Rattle.seed_jobs.specs.Workers.{MayWork}
use Rattle.seed_jobs.proofs.Together.{each_of, has_worked, have_worked}
use Rattle.seed_jobs.proofs.crew.work_all.Goals as goal

pub for_each_mut-requires-clause-accepts : goal.for_each_mut-requires-clause-accepts
for_each_mut-requires-clause-accepts g c κs within i p below is =
    let may = each_of g.S.Source.told g.S.Source.faults g.S.Source.gave (MayWork c.args.hall.now.turnstile.table c.args.hall.now.catalogue c.args.sheet.now) c.args.crew.now c.requires.crew i p.now below in
    (c.requires.valid, c.requires.fits, c.requires.sheet, rw is may)

pub returns : goal.returns
returns g c =
    record {
      worked = have_worked g.S.Source.told g.S.Source.faults g.S.Source.gave c.args.hall.now.catalogue c.args.job.now c.args.crew.now c.for_each_mut.new.s c.for_each_mut.auto.s (λ i d below.
          let at = (c.for_each_mut.ensures i d below).1 in
          has_worked g.S.Source.told g.S.Source.faults g.S.Source.gave c.args.hall.now.catalogue c.args.job.now _ _ at.argument.now at.after_call.now at.argument_is at.left at.call);
    }
