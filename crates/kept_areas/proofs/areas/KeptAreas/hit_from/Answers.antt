use Rattle.std.proofs.Common.{◌≡◌, ◌∙◌, ℕ, IfNone, IfSome, IsSome, List, ap, false, subst, take}
use Rattle.metatile_locks.specs.Running.{hits_in}
use Rattle.metatile_plan.specs.declared.metatile.MetaKey.{MetaKey}
use Rattle.kept_areas.specs.declared.spot.KeptSpot.{KeptSpot}
use Rattle.kept_areas.specs.Areas.{Areas, NoneHit, all_spots, number_in}
use Rattle.kept_areas.proofs.Used.{spots_first, taken_first}
use Rattle.kept_areas.proofs.areas.KeptAreas.hit_from.Goals as goal

-- all keys are among the first chunks
same : (c : goal.After-hit_among) → all_spots c.first_of-first.result.now ≡ all_spots c.args.self.now.chunks
same c =
    spots_first c.self.inside.chunks.items c.first_of-first.result.now c.self.inside.used (c.first_of-first.ensures ∙ ap (take c.self.inside.used) c.as_slice.ensures.value) c.self.invariant.first.none
    ∙ ap (λ (a : Areas). all_spots a.chunks) c.self.view_is

same_taken : (c : goal.After-hit_among) (n : ℕ) → all_spots (take n c.first_of-first.result.now) ≡ all_spots (take n c.args.self.now.chunks)
same_taken c n =
    taken_first c.self.inside.chunks.items c.first_of-first.result.now c.self.inside.used n (c.first_of-first.ensures ∙ ap (take c.self.inside.used) c.as_slice.ensures.value) c.self.invariant.first.none
    ∙ ap (λ (a : Areas). all_spots (take n a.chunks)) c.self.view_is

pub returns-clause-kept : goal.returns-clause-kept
returns-clause-kept c = subst (λ (ss : List KeptSpot). IfSome c.hit_among.result (λ hit. IsSome (number_in ss hit.meta))) (same c) c.hit_among.ensures.kept

pub returns-clause-clear : goal.returns-clause-clear
returns-clause-clear c =
    let h = hits_in c.args.f.now c.args.grid.now c.args.cover.now in
    subst (λ (taken : ℕ → List KeptSpot). IfSome c.hit_among.result (λ hit. NoneHit h (taken c.args.from) → NoneHit h (taken hit.at))) (λ i n. same_taken c n i) c.hit_among.ensures.clear

pub returns-clause-none : goal.returns-clause-none
returns-clause-none c =
    let h = hits_in c.args.f.now c.args.grid.now c.args.cover.now in
    subst (λ (taken : List KeptSpot). IfNone c.hit_among.result (NoneHit h taken → (m : MetaKey) → IsSome (number_in (all_spots c.args.self.now.chunks) m) → h m ≡ false)) (same_taken c c.args.from)
    (subst (λ (ss : List KeptSpot). IfNone c.hit_among.result (NoneHit h (all_spots (take c.args.from c.first_of-first.result.now)) → (m : MetaKey) → IsSome (number_in ss m) → h m ≡ false)) (same c) c.hit_among.ensures.none)
