use Rattle.std.proofs.Common.{List, rules, subst, sym}
use Rattle.extent_map.specs.declared.part.Extent.{Extent}
use Rattle.extent_map.specs.Parts.{LieInOrder}
use Rattle.extent_map.specs.Chunks.{all_parts}
use Rattle.extent_map.proofs.InChunks.{chunk_order}
use Rattle.extent_map.proofs.edits.refresh.Goals as goal

pub refresh-requires : goal.refresh-requires
refresh-requires c =
    let chunks = c.loop-chunk.chunks.items in
    let ordered = subst (λ (pss : List (List Extent)). LieInOrder 0 (all_parts pss) c.args.size) (sym c.loop-chunk.invariant) c.requires.ordered in
    record { ordered = subst (λ (ps : List Extent). LieInOrder 0 ps c.args.size) (sym c.index_mut.ensures.value) (chunk_order 0 chunks c.args.size c.loop-chunk.chunk c.index_mut.result.now (search rules) ordered) }
