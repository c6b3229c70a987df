use Rattle.std.proofs.Common.{◌∙◌, List, ap, take}
use Rattle.kept_areas.specs.declared.spot.KeptSpot.{KeptSpot}
use Rattle.kept_areas.specs.Areas.{Areas, all_spots, least_in}
use Rattle.kept_areas.proofs.Used.{spots_first}
use Rattle.kept_areas.proofs.areas.KeptAreas.least_with.Goals as goal

pub returns-clause-least : goal.returns-clause-least
returns-clause-least c =
    let same = spots_first c.self.inside.chunks.items c.first_of.result.now c.self.inside.used (c.first_of.ensures ∙ ap (take c.self.inside.used) c.as_slice.ensures.value) c.self.invariant.first.none in
    c.least_among.ensures ∙ ap (λ (ss : List KeptSpot). least_in c.args.was ss) (same ∙ ap (λ (a : Areas). all_spots a.chunks) c.self.view_is)
