use Rattle.std.proofs.Common.{◌≡◌, None, List, subst}
use Rattle.kept_areas.specs.declared.spot.KeptSpot.{KeptSpot}
use Rattle.kept_areas.specs.Areas.{number_in}
use Rattle.kept_areas.proofs.Bounded.{outside}
use Rattle.kept_areas.proofs.area.Area.index_of.Goals as goal

pub returns-then-not-may_have-clause-none : goal.returns-then-not-may_have-clause-none
returns-then-not-may_have-clause-none c =
    subst (λ (zs : List KeptSpot). number_in zs c.args.meta.now ≡ None) c.self.view_is
    (outside c.self.inside.spots.items c.self.inside.bounds c.args.meta.now c.self.invariant.2.within (λ w. let yes = c.may_have.ensures w in let no = c.if-not-may_have.true in absurd (cc)))
