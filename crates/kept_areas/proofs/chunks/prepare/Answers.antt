use Rattle.std.proofs.Common.{◌/◌, List, arith, length, subst}
use Rattle.kept_areas.specs.declared.spot.KeptSpot.{KeptSpot}
use Rattle.kept_areas.specs.Kept.{AreCrowded}
use Rattle.kept_areas.proofs.Crowded.{crowded_many}
use Rattle.kept_areas.proofs.chunks.prepare.Goals as goal

pub returns-in-None-clause-free : goal.returns-in-None-clause-free
returns-in-None-clause-free c =
    let chunks = c.args.chunks.now.items in
    let crowded = subst (λ (sss : List (List KeptSpot)). AreCrowded sss) c.as_slice.ensures.value c.in-None.ensures.none in
    let many = crowded_many (length chunks / 2) chunks (omega arith) crowded in
    let spare = c.requires.spare in
    absurd (omega arith)
