use Rattle.std.proofs.Common.{◌≡◌, ◌-◌, ◌<◌, ◌∙◌, List, ap, arith, refl, subst, sym, take}
use Rattle.std.proofs.lemmas.Bool.{false≢true}
use Rattle.extent_map.specs.declared.part.Extent.{Extent}
use Rattle.extent_map.specs.Parts.{part_at, LieInOrder}
use Rattle.extent_map.specs.Spaces.{IsFree, Space}
use Rattle.extent_map.specs.Chunks.{all_parts}
use Rattle.extent_map.proofs.Keeps.{IsEntered, entered_first, entered_free, entered_is, entered_kept, entered_ordered}
use Rattle.extent_map.proofs.Used.{fits_first, parts_first, some_first, spot_first}
use Rattle.extent_map.proofs.extents.Extents.claim_at.Goals as goal

first : (c : goal.After-first_of-first) → c.first_of-first.result.now ≡ take c.prepare-self-inside.result c.prepare-self-inside.new.chunks.items
first c = c.first_of-first.ensures ∙ ap (take c.prepare-self-inside.result) c.as_slice.ensures.value

-- the parts of the first chunks are all that were there before
same_parts : (c : goal.After-first_of-first) → all_parts c.first_of-first.result.now ≡ all_parts c.self.inside.chunks.items
same_parts c = parts_first c.prepare-self-inside.new.chunks.items c.first_of-first.result.now c.prepare-self-inside.result (first c) c.prepare-self-inside.ensures.first.none ∙ c.prepare-self-inside.ensures.parts

pub free_spot-requires-clause-ordered : goal.free_spot-requires-clause-ordered
free_spot-requires-clause-ordered c = subst (λ (ps : List Extent). LieInOrder 0 ps c.self.inside.size) (sym (same_parts c)) c.self.invariant.ordered

pub free_spot-requires-clause-chunks : goal.free_spot-requires-clause-chunks
free_spot-requires-clause-chunks c =
    let free = c.prepare-self-inside.ensures.free in
    some_first c.prepare-self-inside.new.chunks.items c.first_of-first.result.now c.prepare-self-inside.result (first c) (omega arith) c.prepare-self-inside.ensures.first.some

pub enter-self-inside-requires-clause-fits : goal.enter-self-inside-requires-clause-fits
enter-self-inside-requires-clause-fits c =
    let is = c.first_of-first.ensures ∙ ap (take c.prepare-self-inside.result) c.as_slice.ensures.value in
    fits_first c.prepare-self-inside.new.chunks.items c.first_of-first.result.now c.self.inside.size c.prepare-self-inside.result c.in-Some.spot.chunk c.in-Some.spot.index (part_at c.args.place c.args.length) is
    c.prepare-self-inside.ensures.first.none c.in-Some.ensures.fits

pub enter-self-inside-requires-clause-known : goal.enter-self-inside-requires-clause-known
enter-self-inside-requires-clause-known c =
    let is = c.first_of-first.ensures ∙ ap (take c.prepare-self-inside.result) c.as_slice.ensures.value in
    (spot_first c.prepare-self-inside.new.chunks.items c.first_of-first.result.now c.prepare-self-inside.result c.in-Some.spot.chunk is c.in-Some.ensures.fits.spot.known).0

entered : (c : goal.After-self-in-Some-2-1)
    → IsEntered c.self.inside.chunks.items c.prepare-self-inside.new.chunks.items c.enter-self-inside.new.chunks.items c.self.inside.size c.in-Some.spot.chunk c.in-Some.spot.index (part_at c.args.place c.args.length)
entered c =
    entered_first c.self.inside.chunks.items c.prepare-self-inside.new.chunks.items c.first_of-first.result.now c.enter-self-inside.new.chunks.items c.self.inside.size c.prepare-self-inside.result c.in-Some.spot.chunk c.in-Some.spot.index (part_at c.args.place c.args.length)
    c.prepare-self-inside.ensures.parts c.prepare-self-inside.ensures.len (c.first_of-first.ensures ∙ ap (take c.prepare-self-inside.result) c.as_slice.ensures.value) c.prepare-self-inside.ensures.first
    c.in-Some.ensures.fits c.requires.some c.enter-self-inside.ensures.parts c.enter-self-inside.ensures.len

spare : (c : goal.After-self-in-Some-2-1) → 0 < c.self.inside.room - c.self.inside.taken
spare c = subst (λ (s : Space). 0 < s.spare) (sym c.self.view_is) c.requires.spare

pub invariant_of-self : goal.invariant_of-self
invariant_of-self c = let more = spare c in entered_kept _ _ _ _ _ _ _ (entered c) c.self.inside.taken c.self.inside.room c.self.inside.used c.enter-self-inside.result c.self.invariant (omega arith) c.enter-self-inside.ensures.first

pub returns-in-None-clause-free : goal.returns-in-None-clause-free
returns-in-None-clause-free c =
    let is = c.first_of-first.ensures ∙ ap (take c.prepare-self-inside.result) c.as_slice.ensures.value in
    let same = parts_first c.prepare-self-inside.new.chunks.items c.first_of-first.result.now c.prepare-self-inside.result is c.prepare-self-inside.ensures.first.none ∙ c.prepare-self-inside.ensures.parts in
    rw (← c.self.view_is) (λ told. absurd (false≢true told), λ free. absurd (c.in-None.ensures.none (subst (λ (ps : List Extent). IsFree ps c.self.inside.size (part_at c.args.place c.args.length)) (sym same) free)))

pub returns-in-Some-clause-free : goal.returns-in-Some-clause-free
returns-in-Some-clause-free c = rw (← c.self.view_is) (λ t. entered_free _ _ _ _ _ _ _ (entered c), λ f. refl)

pub returns-in-Some-clause-taken : goal.returns-in-Some-clause-taken
returns-in-Some-clause-taken c = let more = spare c in rw (← c.self.view_is) (λ t. record { entered = entered_is _ _ _ _ _ _ _ (entered c); same_size = refl; one_less = omega arith })

pub returns-in-Some-clause-sound : goal.returns-in-Some-clause-sound
returns-in-Some-clause-sound c = entered_ordered _ _ _ _ _ _ _ (entered c)
