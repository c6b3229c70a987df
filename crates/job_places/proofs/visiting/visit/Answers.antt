use Rattle.job_places.proofs.Cutting.{visits_cut}
use Rattle.job_places.proofs.visiting.visit.Goals as goal

pub returns-in-Truncate-clause-visits : goal.returns-in-Truncate-clause-visits
returns-in-Truncate-clause-visits g c =
    visits_cut (g.A.Access.gains c.args.access.now) c.args.cache.now c.cut.new.cache _ _ c.args.job.now c.args.place _ _ _ c.cut.result c.in-Truncate.is c.requires.place c.cut.ensures.cut
