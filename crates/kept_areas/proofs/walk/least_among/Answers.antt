use Rattle.std.proofs.Common.{ℕ, ◌++◌, List, Option, ap, sym, take, ◌∙◌}
use Rattle.kept_areas.specs.declared.spot.KeptSpot.{KeptSpot}
use Rattle.kept_areas.specs.Areas.{all_spots, least_in}
use Rattle.kept_areas.proofs.InChunks.{taken_more}
use Rattle.kept_areas.proofs.Least.{least_joined}
use Rattle.kept_areas.proofs.walk.least_among.Goals as goal

pub comparing-preserved : goal.comparing-preserved
comparing-preserved c =
    let sss = c.args.chunks.now in let n = c.comparing.at in let read = c.index-chunks-at.result in
    let whole = taken_more sss n read c.comparing-test.true ∙ ap (λ (zs : List KeptSpot). all_spots (take n sss) ++ zs) (sym c.index-chunks-at.is) in
    c.least_with-least.ensures ∙ ap (λ (o : Option ℕ). least_in o read) c.comparing.invariant ∙ least_joined c.args.was (all_spots (take n sss)) read ∙ sym (ap (λ (zs : List KeptSpot). least_in c.args.was zs) whole)
