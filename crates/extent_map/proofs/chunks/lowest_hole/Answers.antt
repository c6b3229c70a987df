use Rattle.std.proofs.Common.{◌+◌, ◌≤◌, ◌∙◌, List, ap, arith, subst}
use Rattle.std.proofs.lemmas.Bool.Decides.{nat_tests}
use Rattle.std.proofs.lemmas.List.{get_or_default}
use Rattle.extent_map.specs.declared.part.Extent.{Extent}
use Rattle.extent_map.specs.Parts.{part_at}
use Rattle.extent_map.specs.Holes.{last_end, FitsBeforeNone, IsFirstHole}
use Rattle.extent_map.proofs.InChunks.{chunk_order_from}
use Rattle.extent_map.proofs.Spots.{fits_behind, found_fits, found_lowest, searched_all, searched_lowest, searched_more, searched_none, searched_start}
use Rattle.extent_map.proofs.chunks.lowest_hole.Goals as goal

pub loop-chunk-init : goal.loop-chunk-init
loop-chunk-init c = searched_start c.args.chunks.now c.args.bytes

pub hole_in-requires-clause-ordered : goal.hole_in-requires-clause-ordered
hole_in-requires-clause-ordered c =
    rw (c.loop-chunk.invariant.place_is, c.index-chunks-chunk.is) (chunk_order_from c.args.chunks.now c.args.size c.loop-chunk.chunk c.index-chunks-chunk.result c.loop-chunk-test.true c.requires.ordered)

pub returns-in-Some-clause-fits : goal.returns-in-Some-clause-fits
returns-in-Some-clause-fits c =
    found_fits c.args.chunks.now c.args.size c.args.bytes c.loop-chunk.chunk c.loop-chunk.place c.in-Some.hole.index c.in-Some.hole.place c.index-chunks-chunk.result c.loop-chunk-test.true c.requires.ordered c.loop-chunk.invariant
    (subst (λ (ps : List Extent). IsFirstHole ps c.loop-chunk.place c.in-Some.hole.index c.in-Some.hole.place c.args.bytes) c.index-chunks-chunk.is c.in-Some.ensures.hole)

pub returns-in-Some-clause-lowest : goal.returns-in-Some-clause-lowest
returns-in-Some-clause-lowest c =
    found_lowest c.args.chunks.now c.args.size c.args.bytes c.loop-chunk.chunk c.loop-chunk.place c.in-Some.hole.index c.in-Some.hole.place c.index-chunks-chunk.result c.loop-chunk-test.true c.loop-chunk.invariant
    (subst (λ (ps : List Extent). IsFirstHole ps c.loop-chunk.place c.in-Some.hole.index c.in-Some.hole.place c.args.bytes) c.index-chunks-chunk.is c.in-Some.ensures.hole)

pub loop-chunk-preserved : goal.loop-chunk-preserved
loop-chunk-preserved c =
    let chunks = c.args.chunks.now in let chunk = c.loop-chunk.chunk in
    let first = c.index-chunks-chunk.result in
    let again = c.index-chunks-chunk-in-None.is ∙ get_or_default chunks chunk c.index-chunks-chunk-in-None.result first c.loop-chunk-test.true in
    searched_more chunks c.args.bytes chunk c.loop-chunk.place c.end_behind-place.result first c.loop-chunk-test.true c.loop-chunk.invariant
    (subst (FitsBeforeNone c.args.bytes c.loop-chunk.place) c.index-chunks-chunk.is c.in-None.ensures.none) (c.end_behind-place.ensures ∙ ap (last_end c.loop-chunk.place) again)

pub returns-then-fits-clause-fits : goal.returns-then-fits-clause-fits
returns-then-fits-clause-fits c =
    let told = c.fits.ensures in let yes = c.if-fits.true in
    let within : c.loop-chunk.place + c.args.bytes ≤ c.args.size = grind (arith, nat_tests) in
    let end = c.loop-chunk-test.false in
    let place = searched_all c.args.chunks.now c.args.bytes c.loop-chunk.chunk c.loop-chunk.place (omega arith) c.loop-chunk.invariant in
    fits_behind c.args.chunks.now c.args.size c.end_spot.result.chunk c.end_spot.result.index (part_at c.loop-chunk.place c.args.bytes) c.end_spot.ensures.spot c.requires.ordered c.end_spot.ensures.before c.end_spot.ensures.behind (omega arith) within

pub returns-then-fits-clause-lowest : goal.returns-then-fits-clause-lowest
returns-then-fits-clause-lowest c = searched_lowest c.args.chunks.now c.args.size c.args.bytes c.loop-chunk.chunk c.loop-chunk.place c.loop-chunk.invariant

pub returns-clause-none : goal.returns-clause-none
returns-clause-none c =
    let told = c.fits.ensures in let no = c.if-fits.false in
    searched_none c.args.chunks.now c.args.size c.args.bytes c.loop-chunk.chunk c.loop-chunk.place c.loop-chunk.invariant (λ h. grind (arith, nat_tests))
