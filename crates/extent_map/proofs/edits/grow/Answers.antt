use Rattle.std.proofs.Common.{◌++◌, ◌∷◌, [], ◌∙◌, List, ap, arith, length}
use Rattle.std.proofs.lemmas.List.{length_push}
use Rattle.extent_map.specs.declared.part.Extent.{Extent}
use Rattle.extent_map.specs.Chunks.{all_parts}
use Rattle.extent_map.proofs.InChunks.{all_with_free}
use Rattle.extent_map.proofs.Used.{used_pushed}
use Rattle.extent_map.proofs.edits.grow.Goals as goal

pub growing-preserved : goal.growing-preserved
growing-preserved c =
    let chunks = c.growing.chunks.items in
    let items = c.in_ok-push.ensures.items in
    let long = ap (λ (pss : List (List Extent)). length pss) items ∙ length_push chunks c.in_ok-chunk.chunk in
    let more = c.growing.invariant.1 in let counted = c.growing.invariant.2 in (
      ap all_parts items ∙ ap (λ (ps : List Extent). all_parts (chunks ++ ps ∷ [])) c.in_ok-chunk.ensures ∙ all_with_free chunks ∙ c.growing.invariant.0,
      omega arith,
      omega arith,
      λ used u. used_pushed chunks _ used (items ∙ ap (λ (ps : List Extent). chunks ++ ps ∷ []) c.in_ok-chunk.ensures) (c.growing.invariant.3 used u),
    )
