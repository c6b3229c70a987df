use Rattle.std.proofs.Common.{◌++◌, ◌∷◌, [], ◌∙◌, List, ap, arith, length}
use Rattle.std.proofs.lemmas.List.{length_push}
use Rattle.kept_areas.specs.declared.spot.KeptSpot.{KeptSpot}
use Rattle.kept_areas.specs.Areas.{all_spots}
use Rattle.kept_areas.proofs.InChunks.{all_with_free}
use Rattle.kept_areas.proofs.Used.{used_pushed}
use Rattle.kept_areas.proofs.chunks.grow.Goals as goal

pub growing-preserved : goal.growing-preserved
growing-preserved c =
    let chunks = c.growing.chunks.items in
    let items = c.in_ok-push.ensures.items in
    let long = ap (λ (sss : List (List KeptSpot)). length sss) items ∙ length_push chunks c.in_ok-chunk.chunk in
    let more = c.growing.invariant.1 in let counted = c.growing.invariant.2 in (
      ap all_spots items ∙ ap (λ (ss : List KeptSpot). all_spots (chunks ++ ss ∷ [])) c.in_ok-chunk.ensures ∙ all_with_free chunks ∙ c.growing.invariant.0,
      omega arith,
      omega arith,
      λ used u. used_pushed chunks _ used (items ∙ ap (λ (ss : List KeptSpot). chunks ++ ss ∷ []) c.in_ok-chunk.ensures) (c.growing.invariant.3 used u),
    )
