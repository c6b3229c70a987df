use Rattle.std.proofs.Common.{◌-◌, ◌<◌, ◌∙◌, List, ap, arith, length, refl, subst, sym, take}
use Rattle.extent_map.specs.declared.part.Extent.{Extent}
use Rattle.extent_map.specs.Parts.{part_at, LieInOrder}
use Rattle.extent_map.specs.Spaces.{Space, NoneFree, NoneFreeBelow}
use Rattle.extent_map.specs.Chunks.{all_parts}
use Rattle.extent_map.proofs.Keeps.{IsEntered, entered_first, entered_free, entered_is, entered_kept, entered_ordered}
use Rattle.extent_map.proofs.Used.{fits_first, parts_first, some_first, spot_first}
use Rattle.extent_map.proofs.extents.Extents.take.Goals as goal

pub lowest_hole-requires-clause-ordered : goal.lowest_hole-requires-clause-ordered
lowest_hole-requires-clause-ordered c =
    let is = c.first_of-first.ensures ∙ ap (take c.prepare-self-inside.result) c.as_slice.ensures.value in
    let same = parts_first c.prepare-self-inside.new.chunks.items c.first_of-first.result.now c.prepare-self-inside.result is c.prepare-self-inside.ensures.first.none ∙ c.prepare-self-inside.ensures.parts ∙ ap all_parts c.refresh.ensures in
    subst (λ (ps : List Extent). LieInOrder 0 ps c.self.inside.size) (sym same) c.self.invariant.ordered

pub lowest_hole-requires-clause-chunks : goal.lowest_hole-requires-clause-chunks
lowest_hole-requires-clause-chunks c =
    let free = c.prepare-self-inside.ensures.free in
    let is = c.first_of-first.ensures ∙ ap (take c.prepare-self-inside.result) c.as_slice.ensures.value in
    some_first c.prepare-self-inside.new.chunks.items c.first_of-first.result.now c.prepare-self-inside.result is (omega arith) c.prepare-self-inside.ensures.first.some

pub returns-in_err-found-clause-none : goal.returns-in_err-found-clause-none
returns-in_err-found-clause-none c =
    let is = c.first_of-first.ensures ∙ ap (take c.prepare-self-inside.result) c.as_slice.ensures.value in
    let same = parts_first c.prepare-self-inside.new.chunks.items c.first_of-first.result.now c.prepare-self-inside.result is c.prepare-self-inside.ensures.first.none ∙ c.prepare-self-inside.ensures.parts ∙ ap all_parts c.refresh.ensures in
    rw (c.from_residual.ensures, ← c.self.view_is) (subst (λ (ps : List Extent). NoneFree ps c.self.inside.size c.args.length) same c.in_err-found.ensures.none)

pub enter-self-inside-requires-clause-fits : goal.enter-self-inside-requires-clause-fits
enter-self-inside-requires-clause-fits c =
    let is = c.first_of-first.ensures ∙ ap (take c.prepare-self-inside.result) c.as_slice.ensures.value in
    fits_first c.prepare-self-inside.new.chunks.items c.first_of-first.result.now c.self.inside.size c.prepare-self-inside.result c.in_ok-found.found.spot.chunk c.in_ok-found.found.spot.index (part_at c.in_ok-found.found.place c.args.length) is
    c.prepare-self-inside.ensures.first.none c.in_ok-found.ensures.fits

pub enter-self-inside-requires-clause-known : goal.enter-self-inside-requires-clause-known
enter-self-inside-requires-clause-known c =
    let is = c.first_of-first.ensures ∙ ap (take c.prepare-self-inside.result) c.as_slice.ensures.value in
    (spot_first c.prepare-self-inside.new.chunks.items c.first_of-first.result.now c.prepare-self-inside.result c.in_ok-found.found.spot.chunk is c.in_ok-found.ensures.fits.spot.known).0

entered : (c : goal.After-self-3-1)
    → IsEntered c.self.inside.chunks.items c.prepare-self-inside.new.chunks.items c.enter-self-inside.new.chunks.items c.self.inside.size c.in_ok-found.found.spot.chunk c.in_ok-found.found.spot.index
    (part_at c.in_ok-found.found.place c.args.length)
entered c =
    entered_first c.self.inside.chunks.items c.prepare-self-inside.new.chunks.items c.first_of-first.result.now c.enter-self-inside.new.chunks.items c.self.inside.size c.prepare-self-inside.result c.in_ok-found.found.spot.chunk
    c.in_ok-found.found.spot.index (part_at c.in_ok-found.found.place c.args.length) (c.prepare-self-inside.ensures.parts ∙ ap all_parts c.refresh.ensures)
    (c.prepare-self-inside.ensures.len ∙ ap (λ (pss : List (List Extent)). length pss) c.refresh.ensures) (c.first_of-first.ensures ∙ ap (take c.prepare-self-inside.result) c.as_slice.ensures.value) c.prepare-self-inside.ensures.first
    c.in_ok-found.ensures.fits c.requires.some c.enter-self-inside.ensures.parts c.enter-self-inside.ensures.len

spare : (c : goal.After-self-3-1) → 0 < c.self.inside.room - c.self.inside.taken
spare c = subst (λ (s : Space). 0 < s.spare) (sym c.self.view_is) c.requires.spare

pub invariant_of-self-2 : goal.invariant_of-self-2
invariant_of-self-2 c = let more = spare c in entered_kept _ _ _ _ _ _ _ (entered c) c.self.inside.taken c.self.inside.room c.self.inside.used c.enter-self-inside.result c.self.invariant (omega arith) c.enter-self-inside.ensures.first

pub returns-clause-free : goal.returns-clause-free
returns-clause-free c = rw (← c.self.view_is) (entered_free _ _ _ _ _ _ _ (entered c))

pub returns-clause-lowest : goal.returns-clause-lowest
returns-clause-lowest c =
    let is = c.first_of-first.ensures ∙ ap (take c.prepare-self-inside.result) c.as_slice.ensures.value in
    let same = parts_first c.prepare-self-inside.new.chunks.items c.first_of-first.result.now c.prepare-self-inside.result is c.prepare-self-inside.ensures.first.none ∙ c.prepare-self-inside.ensures.parts ∙ ap all_parts c.refresh.ensures in
    rw (← c.self.view_is) (subst (λ (ps : List Extent). NoneFreeBelow ps c.self.inside.size c.args.length c.in_ok-found.found.place) same c.in_ok-found.ensures.lowest)

pub returns-clause-taken : goal.returns-clause-taken
returns-clause-taken c = let more = spare c in rw (← c.self.view_is) (record { entered = entered_is _ _ _ _ _ _ _ (entered c); same_size = refl; one_less = omega arith })

pub returns-clause-sound : goal.returns-clause-sound
returns-clause-sound c = entered_ordered _ _ _ _ _ _ _ (entered c)
