use Rattle.std.proofs.Common.{◌/◌, List, arith, length, subst}
use Rattle.extent_map.specs.declared.part.Extent.{Extent}
use Rattle.extent_map.specs.Chunks.{AreCrowded}
use Rattle.extent_map.proofs.Crowded.{crowded_many}
use Rattle.extent_map.proofs.edits.prepare.Goals as goal

pub returns-in-None-clause-free : goal.returns-in-None-clause-free
returns-in-None-clause-free c =
    let chunks = c.args.chunks.now.items in
    let crowded = subst (λ (pss : List (List Extent)). AreCrowded pss) c.as_slice.ensures.value c.in-None.ensures.none in
    let many = crowded_many (length chunks / 2) chunks (omega arith) crowded in
    let spare = c.requires.spare in
    absurd (omega arith)
