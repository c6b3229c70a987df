use Rattle.seed_jobs.proofs.Working.{at_first, countable, goes_on, works}
use Rattle.seed_jobs.proofs.worker.work.Goals as goal

pub working-init : goal.working-init
working-init g c = rw c.new-tally.ensures (at_first _ _ _ _ _ c.requires.worker)

pub and-tally-requires : goal.and-tally-requires
and-tally-requires g c = countable c.working.invariant c.in-Some.ensures.some _ c.laws.ensures.within c.requires.sheet c.requires.fits.places

pub working-preserved : goal.working-preserved
working-preserved g c =
    goes_on c.working.invariant c.in-Some.ensures.some _ c.visit-end.ensures.visited c.visit-end.ensures.told c.visit-end.ensures.of c.report.ensures c.and-tally.result c.laws.ensures.within c.and-tally.ensures

pub returns : goal.returns
returns g c = record { works = works c.working.invariant c.claim.new.hand c.in_default.ensures.none }
