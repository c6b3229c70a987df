use Rattle.std.proofs.Common.{◌≡◌, ◌+◌, ◌-◌, arith, drop, inl, inr, length, subst, suc}
use Rattle.std.proofs.lemmas.Bool.{cases_lt}
use Rattle.kept_areas.specs.Kept.{AreCrowded}
use Rattle.kept_areas.proofs.Crowded.{crowded_last, crowded_more}
use Rattle.kept_areas.proofs.chunks.loose_pair.Goals as goal

pub loop-chunk-preserved : goal.loop-chunk-preserved
loop-chunk-preserved c =
    let chunks = c.args.chunks.now in
    let chunk = c.loop-chunk.chunk - 1 in
    let long = c.loop-chunk.invariant.0 in
    let some = c.loop-chunk-test.true in
    let next : c.loop-chunk.chunk ≡ suc chunk = omega arith in (
      omega arith,
      elim (cases_lt (chunk + 1) (length chunks)) [
        | inl under ↦ crowded_more chunks chunk under (c.is_loose.ensures.crowded c.if-is_loose.false under) (subst (λ n. AreCrowded (drop n chunks)) next c.loop-chunk.invariant.1)
        | inr over ↦ crowded_last chunks chunk over
      ],
    )
