use Rattle.kept_areas.proofs.Bounded.{bounded_more}
use Rattle.kept_areas.proofs.bounds.bounds_of.Goals as goal

pub widening-preserved : goal.widening-preserved
widening-preserved c = rw c.widened-bounds.ensures (bounded_more c.args.spots.now c.widening.at _ c.widening.bounds c.widening-test.true c.widening.invariant)
