use Rattle.std.proofs.Common.{◌<◌, ◌∙◌, List, ap, arith, subst, sym, take}
use Rattle.extent_map.specs.declared.part.Extent.{Extent}
use Rattle.extent_map.specs.Parts.{part_at, LieInOrder}
use Rattle.extent_map.specs.Spaces.{IsFree, NoneFree, NoneFreeBelow, Space}
use Rattle.extent_map.specs.Chunks.{parts_before, parts_behind}
use Rattle.extent_map.proofs.InChunks.{around}
use Rattle.extent_map.proofs.Search.{fits_free}
use Rattle.extent_map.proofs.Used.{parts_first, some_first}
use Rattle.extent_map.proofs.extents.Extents.lowest.Goals as goal

pub lowest_hole-requires-clause-ordered : goal.lowest_hole-requires-clause-ordered
lowest_hole-requires-clause-ordered c =
    let same = parts_first c.self.inside.chunks.items c.first_of-first.result.now c.self.inside.used (c.first_of-first.ensures ∙ ap (take c.self.inside.used) c.as_slice.ensures.value) c.self.invariant.first.none in
    subst (λ (ps : List Extent). LieInOrder 0 ps c.self.inside.size) (sym same) c.self.invariant.ordered

pub lowest_hole-requires-clause-chunks : goal.lowest_hole-requires-clause-chunks
lowest_hole-requires-clause-chunks c =
    let more = subst (λ (s : Space). 0 < s.spare) (sym c.self.view_is) c.requires.spare in
    let enough = c.self.invariant.enough in
    some_first c.self.inside.chunks.items c.first_of-first.result.now c.self.inside.used (c.first_of-first.ensures ∙ ap (take c.self.inside.used) c.as_slice.ensures.value) (omega arith) c.self.invariant.first.some

pub returns-in-None-clause-none : goal.returns-in-None-clause-none
returns-in-None-clause-none c =
    let same = parts_first c.self.inside.chunks.items c.first_of-first.result.now c.self.inside.used (c.first_of-first.ensures ∙ ap (take c.self.inside.used) c.as_slice.ensures.value) c.self.invariant.first.none in
    rw (← c.self.view_is) (subst (λ (ps : List Extent). NoneFree ps c.self.inside.size c.args.length) same c.in-None.ensures.none)

pub returns-in-Some-clause-free : goal.returns-in-Some-clause-free
returns-in-Some-clause-free c =
    let first = c.first_of-first.result.now in
    let spot = c.in-Some.found.spot in
    let p = part_at c.in-Some.found.place c.args.length in
    let fits = c.in-Some.ensures.fits in
    let same = parts_first c.self.inside.chunks.items first c.self.inside.used (c.first_of-first.ensures ∙ ap (take c.self.inside.used) c.as_slice.ensures.value) c.self.invariant.first.none in
    rw (← c.self.view_is)
    (subst (λ (ps : List Extent). IsFree ps c.self.inside.size p) (sym (around first spot.chunk spot.index) ∙ same)
    (fits_free (parts_before first spot.chunk spot.index) (parts_behind first spot.chunk spot.index) c.self.inside.size p fits.before fits.behind))

pub returns-in-Some-clause-lowest : goal.returns-in-Some-clause-lowest
returns-in-Some-clause-lowest c =
    let same = parts_first c.self.inside.chunks.items c.first_of-first.result.now c.self.inside.used (c.first_of-first.ensures ∙ ap (take c.self.inside.used) c.as_slice.ensures.value) c.self.invariant.first.none in
    rw (← c.self.view_is) (subst (λ (ps : List Extent). NoneFreeBelow ps c.self.inside.size c.args.length c.in-Some.found.place) same c.in-Some.ensures.lowest)
