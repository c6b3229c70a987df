use Rattle.std.proofs.Common.{◌++◌, ◌∙◌, List, ap, arith, sym, take}
use Rattle.kept_areas.specs.declared.spot.KeptSpot.{KeptSpot}
use Rattle.kept_areas.specs.Areas.{all_spots, number_in}
use Rattle.kept_areas.proofs.InChunks.{number_joined, taken_more}
use Rattle.kept_areas.proofs.looking.search.Goals as goal

pub searching-preserved : goal.searching-preserved
searching-preserved c =
    let sss = c.args.chunks.now in let n = c.searching.chunk in let some = c.searching-test.true in let read = c.index-chunks-chunk.result in
    let whole = taken_more sss n read some ∙ ap (λ (zs : List KeptSpot). all_spots (take n sss) ++ zs) (sym c.index-chunks-chunk.is) in (
      omega arith,
      ap (λ (zs : List KeptSpot). number_in zs c.args.meta.now) whole ∙ number_joined c.args.meta.now (all_spots (take n sss)) read c.searching.invariant.1 ∙ c.in-None.ensures.none,
    )
