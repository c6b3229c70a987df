use Rattle.job_places.proofs.Cutting.{cut_so}
use Rattle.job_places.proofs.visiting.cut.Goals as goal

pub returns-clause-cut : goal.returns-clause-cut
returns-clause-cut g c =
    rw c.end_of_cut.ensures
    (cut_so (g.A.Access.gains c.args.access.now) c.args.cache.now c.cut.new.cache c.args.cover.now c.cut.result c.cut.ensures.done c.cut.ensures.refused)
