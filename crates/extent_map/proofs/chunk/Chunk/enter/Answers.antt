use Rattle.std.proofs.Common.{◌≡◌, ◌+◌, ◌≤◌, ◌∙◌, List, ap, arith, drop, length, subst, sym, take}
use Rattle.std.specs.List.{insert}
use Rattle.std.proofs.lemmas.List.Edits.{length-insert}
use Rattle.extent_map.specs.declared.part.Extent.{Extent}
use Rattle.extent_map.specs.Holes.{first_start, last_end, IsSummed}
use Rattle.extent_map.proofs.WithPart.{summed_with}
use Rattle.extent_map.proofs.chunk.Chunk.enter.Goals as goal

pub invariant_of-self : goal.invariant_of-self
invariant_of-self c =
    let old = c.self.inside.parts.items in
    let index = c.args.index in
    let part = c.args.part in
    let long = ap (λ (ps : List Extent). length ps) c.self.view_is in
    let known = c.requires.within in
    let free = c.requires.room in
    let within : index ≤ length old = omega (arith, long, known) in
    let all : c.as_slice-all.result.now ≡ insert old index part = c.as_slice-all.ensures.value ∙ c.insert_within.ensures.items in
    let room = c.self.invariant.0 in
    let same = c.insert_within.ensures.capacity in
    let entered = ap (λ (ps : List Extent). length ps) c.insert_within.ensures.items in
    let more = length-insert old index part within in
    let old_wide = c.larger-2.ensures.one in
    let new_wide = c.larger-2.ensures.other in
    let before_wide = c.larger.ensures.one in
    let behind_wide = c.larger.ensures.other in (
      omega (arith, room, same),
      omega (arith, free, long, entered, more),
      subst (λ (ps : List Extent). IsSummed ps c.start_behind.result c.end_before.result c.larger-2.result) (sym c.insert_within.ensures.items)
          (summed_with old index c.self.inside.summary.widest c.larger-2.result c.start_behind.result c.end_before.result part within c.larger-2.ensures.one c.self.invariant.2.bounded
          (λ some. let hole = subst (λ (ps : List Extent). first_start (drop index ps) 0 ≤ last_end 0 (take index ps) + c.hole_before-before.result) all (c.hole_before-before.ensures some) in omega (arith, hole, before_wide, new_wide))
          (let hole = subst (λ (ps : List Extent). first_start (drop (index + 1) ps) 0 ≤ last_end 0 (take (index + 1) ps) + c.hole_before-behind.result) all (c.hole_before-behind.ensures (omega arith)) in omega (arith, hole, behind_wide, new_wide))
          (c.start_behind.ensures ∙ ap (λ (ps : List Extent). first_start ps 0) all) (c.end_before.ensures ∙ ap (λ (ps : List Extent). last_end 0 (take (length ps) ps)) all)),
    )
