use Rattle.std.proofs.Common.{◌≡◌, ◌++◌, ◌∙◌, IsSome, false, List, ap, arith, subst, sym, take}
use Rattle.metatile_locks.specs.Running.{hits_in}
use Rattle.metatile_locks.proofs.Lists.{all_joined}
use Rattle.kept_areas.specs.declared.spot.KeptSpot.{KeptSpot}
use Rattle.kept_areas.specs.Areas.{NoneHit, all_spots, number_in}
use Rattle.kept_areas.proofs.InChunks.{taken_all, taken_more, there_in}
use Rattle.kept_areas.proofs.Numbers.{there_not_hit}
use Rattle.kept_areas.proofs.walk.hit_among.Goals as goal

pub returns-in-Some-clause-kept : goal.returns-in-Some-clause-kept
returns-in-Some-clause-kept c =
    there_in c.in-Some.meta c.args.chunks.now c.walking.at c.index-chunks-at.result c.walking-test.true (subst (λ (zs : List KeptSpot). IsSome (number_in zs c.in-Some.meta)) c.index-chunks-at.is c.in-Some.ensures.kept)

pub walking-preserved : goal.walking-preserved
walking-preserved c =
    let sss = c.args.chunks.now in let n = c.walking.at in let read = c.index-chunks-at.result in
    let h = hits_in c.args.f.now c.args.grid.now c.args.cover.now in
    let from = c.walking.invariant.0 in
    let whole = taken_more sss n read c.walking-test.true ∙ ap (λ (zs : List KeptSpot). all_spots (take n sss) ++ zs) (sym c.index-chunks-at.is) in (
      omega arith,
      λ clear. subst (NoneHit h) (sym whole) (all_joined (λ (s : KeptSpot). h s.meta ≡ false) (all_spots (take n sss)) read (c.walking.invariant.1 clear) c.in-None.ensures.none),
      c.hit.ensures.aimed,
    )

pub returns-clause-none : goal.returns-clause-none
returns-clause-none c = λ clear m some.
    let h = hits_in c.args.f.now c.args.grid.now c.args.cover.now in
    let over = c.walking-test.false in
    there_not_hit h (all_spots c.args.chunks.now) m (subst (λ (sss : List (List KeptSpot)). NoneHit h (all_spots sss)) (taken_all c.args.chunks.now c.walking.at (omega arith)) (c.walking.invariant.1 clear)) some
