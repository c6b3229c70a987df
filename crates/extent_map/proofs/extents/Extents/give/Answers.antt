use Rattle.std.proofs.Common.{◌≡◌, ◌<◌, ◌∙◌, Contains, List, ap, arith, get_or, length, refl, subst, sym, take}
use Rattle.extent_map.specs.declared.part.Extent.{Extent}
use Rattle.extent_map.specs.Parts.{part_at, LieInOrder}
use Rattle.extent_map.specs.Spaces.{Space}
use Rattle.extent_map.specs.Chunks.{all_parts, chunk_at}
use Rattle.extent_map.proofs.Keeps.{IsLeft, left_fewer, left_is, left_kept, left_ordered}
use Rattle.extent_map.proofs.Used.{chunk_first, parts_first, spot_first}
use Rattle.extent_map.proofs.extents.Extents.give.Goals as goal

-- the first chunks have all parts
same_parts : (c : goal.After-first_of-first) → all_parts c.first_of-first.result.now ≡ all_parts c.self.inside.chunks.items
same_parts c = parts_first c.self.inside.chunks.items c.first_of-first.result.now c.self.inside.used (c.first_of-first.ensures ∙ ap (take c.self.inside.used) c.as_slice.ensures.value) c.self.invariant.first.none

pub spot_of-spot-requires-clause-ordered : goal.spot_of-spot-requires-clause-ordered
spot_of-spot-requires-clause-ordered c = subst (λ (ps : List Extent). LieInOrder 0 ps c.self.inside.size) (sym (same_parts c)) c.self.invariant.ordered

pub spot_of-spot-requires-clause-known : goal.spot_of-spot-requires-clause-known
spot_of-spot-requires-clause-known c =
    let has = subst (λ (s : Space). Contains s.parts (part_at c.args.place c.args.length)) (sym c.self.view_is) c.requires.taken in
    subst (λ (ps : List Extent). Contains ps (part_at c.args.place c.args.length)) (sym (same_parts c)) has

spot : (c : goal.After-self-1) → (c.spot_of-spot.result.chunk < c.self.inside.used) × (c.spot_of-spot.result.chunk < length c.self.inside.chunks.items)
spot c = spot_first c.self.inside.chunks.items c.first_of-first.result.now c.self.inside.used c.spot_of-spot.result.chunk (c.first_of-first.ensures ∙ ap (take c.self.inside.used) c.as_slice.ensures.value) c.spot_of-spot.ensures.known

own : (c : goal.After-self-1) → chunk_at c.first_of-first.result.now c.spot_of-spot.result.chunk ≡ chunk_at c.self.inside.chunks.items c.spot_of-spot.result.chunk
own c =
    ap (λ (pss : List (List Extent)). chunk_at pss c.spot_of-spot.result.chunk) (c.first_of-first.ensures ∙ ap (take c.self.inside.used) c.as_slice.ensures.value)
    ∙ chunk_first c.self.inside.chunks.items c.self.inside.used c.spot_of-spot.result.chunk (spot c).0

left : (c : goal.After-self-1) → IsLeft c.self.inside.chunks.items c.leave.new.chunks.items c.self.inside.size c.spot_of-spot.result.chunk c.spot_of-spot.result.index (part_at c.args.place c.args.length)
left c = record {
  known = (spot c).1;
  within = subst (λ (ps : List Extent). c.spot_of-spot.result.index < length ps) (own c) c.spot_of-spot.ensures.within;
  at = subst (λ (ps : List Extent). get_or ps c.spot_of-spot.result.index (part_at c.args.place c.args.length) ≡ part_at c.args.place c.args.length) (own c) c.spot_of-spot.ensures.at;
  parts = c.leave.ensures.parts;
  len = c.leave.ensures.len;
}

pub invariant_of-self : goal.invariant_of-self
invariant_of-self c =
    left_kept _ _ _ _ _ _ (left c) c.self.inside.taken c.self.inside.room c.self.inside.used c.self.invariant (c.leave.ensures.first c.self.inside.used (spot c).0 c.self.invariant.first)

pub returns-clause-given : goal.returns-clause-given
returns-clause-given c =
    let fewer = left_fewer _ _ _ _ _ _ (left c) in let counted = c.self.invariant.counted in let within = c.self.invariant.within in
    rw (← c.self.view_is) (record { entered = left_is _ _ _ _ _ _ (left c) c.self.invariant.ordered; same_size = refl; one_less = omega arith })

pub returns-clause-sound : goal.returns-clause-sound
returns-clause-sound c = left_ordered _ _ _ _ _ _ (left c) c.self.invariant.ordered
