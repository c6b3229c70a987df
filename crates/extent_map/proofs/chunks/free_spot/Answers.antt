use Rattle.std.proofs.Common.{◌≡◌, ◌+◌, ◌≤◌, ◌∙◌, List, arith, get_or, subst, sym}
use Rattle.std.proofs.lemmas.Bool.Decides.{nat_tests}
use Rattle.extent_map.specs.declared.part.Extent.{Extent}
use Rattle.extent_map.specs.Parts.{part_at, LieInOrder}
use Rattle.extent_map.specs.Spaces.{IsFree}
use Rattle.extent_map.specs.Holes.{IsHole}
use Rattle.extent_map.proofs.InChunks.{chunk_order}
use Rattle.extent_map.proofs.Spots.{all_end_by, claim_fits, claim_none, fits_behind}
use Rattle.extent_map.proofs.chunks.free_spot.Goals as goal

own : (c : goal.After-parts) → c.parts.result.now ≡ get_or c.args.chunks.now c.chunk_of-chunk.result c.index-chunks-chunk.result
own c = c.parts.ensures ∙ c.index-chunks-chunk.is

pub hole_at-requires-clause-ordered : goal.hole_at-requires-clause-ordered
hole_at-requires-clause-ordered c =
    subst (λ (ps : List Extent). LieInOrder 0 ps c.args.size) (sym (own c)) (chunk_order 0 c.args.chunks.now c.args.size c.chunk_of-chunk.result c.index-chunks-chunk.result c.if-chunk-chunks.true c.requires.ordered)

pub returns-in-Some-clause-fits : goal.returns-in-Some-clause-fits
returns-in-Some-clause-fits c =
    claim_fits c.args.chunks.now c.args.size c.chunk_of-chunk.result c.in-Some.index c.index-chunks-chunk.result (part_at c.args.place c.args.bytes) c.if-chunk-chunks.true c.requires.ordered c.chunk_of-chunk.ensures.before
    (c.chunk_of-chunk.ensures.at c.if-chunk-chunks.true) (subst (λ (ps : List Extent). IsHole ps c.args.size c.in-Some.index (part_at c.args.place c.args.bytes)) (c.parts.ensures ∙ c.index-chunks-chunk.is) c.in-Some.ensures.hole)

pub returns-in-None-clause-none : goal.returns-in-None-clause-none
returns-in-None-clause-none c = λ free.
    c.in-None.ensures.none
    (subst (λ (ps : List Extent). IsFree ps c.args.size (part_at c.args.place c.args.bytes)) (sym (c.parts.ensures ∙ c.index-chunks-chunk.is))
    (claim_none c.args.chunks.now c.args.size c.chunk_of-chunk.result c.index-chunks-chunk.result (part_at c.args.place c.args.bytes) c.if-chunk-chunks.true free))

pub returns-clause-fits : goal.returns-clause-fits
returns-clause-fits c =
    let told = c.fits.ensures in let yes = c.if-not-fits.false in
    let within : c.args.place + c.args.bytes ≤ c.args.size = grind (arith, nat_tests) in
    let end = c.if-chunk-chunks.false in
    fits_behind c.args.chunks.now c.args.size c.end_spot.result.chunk c.end_spot.result.index (part_at c.args.place c.args.bytes) c.end_spot.ensures.spot c.requires.ordered c.end_spot.ensures.before c.end_spot.ensures.behind
    (all_end_by c.args.chunks.now c.args.place c.chunk_of-chunk.result (omega arith) c.chunk_of-chunk.ensures.before) within
