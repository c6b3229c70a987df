use Rattle.std.proofs.Common.{◌≡◌, ◌+◌, ◌<◌, ◌≤◌, ◌∙◌, List, ap, arith, drop, length, subst, sym, take}
use Rattle.std.specs.List.{remove}
use Rattle.std.proofs.lemmas.List.Edits.{length-remove}
use Rattle.extent_map.specs.declared.part.Extent.{Extent}
use Rattle.extent_map.specs.Holes.{first_start, last_end, IsSummed}
use Rattle.extent_map.proofs.Without.{summed_without}
use Rattle.extent_map.proofs.chunk.Chunk.leave.Goals as goal

pub invariant_of-self : goal.invariant_of-self
invariant_of-self c =
    let old = c.self.inside.parts.items in
    let index = c.args.index in
    let long = ap (λ (ps : List Extent). length ps) c.self.view_is in
    let known = c.requires.within in
    let within : index < length old = omega (arith, long, known) in
    let others : c.as_slice-others.result.now ≡ remove old index = c.as_slice-others.ensures.value ∙ c.remove.ensures.items in
    let wider = c.larger.ensures.other in
    let room = c.self.invariant.0 in
    let most = c.self.invariant.1 in
    let same = c.remove.ensures.capacity in
    let left = ap (λ (ps : List Extent). length ps) c.remove.ensures.items in
    let fewer = length-remove old index within in (
      omega (arith, room, same),
      omega (arith, most, left, fewer),
      subst (λ (ps : List Extent). IsSummed ps c.start_behind.result c.end_before.result c.larger.result) (sym c.remove.ensures.items)
          (summed_without old index c.self.inside.summary.widest c.larger.result c.start_behind.result c.end_before.result within c.larger.ensures.one c.self.invariant.2.bounded
          (λ some. let hole = subst (λ (ps : List Extent). first_start (drop index ps) 0 ≤ last_end 0 (take index ps) + c.hole_before.result) others (c.hole_before.ensures some) in omega (arith, hole, wider))
          (c.start_behind.ensures ∙ ap (λ (ps : List Extent). first_start ps 0) others) (c.end_before.ensures ∙ ap (λ (ps : List Extent). last_end 0 (take (length ps) ps)) others)),
    )
