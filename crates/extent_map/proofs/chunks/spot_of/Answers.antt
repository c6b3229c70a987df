use Rattle.std.proofs.Common.{◌≡◌, ◌<◌, ◌∙◌, [], AllPairs, Contains, List, get_or, length, subst, sym}
use Rattle.std.proofs.lemmas.List.{get_or_default}
use Rattle.extent_map.specs.declared.part.Extent.{Extent}
use Rattle.extent_map.proofs.Order.{rises}
use Rattle.extent_map.proofs.InChunks.{chunk_order}
use Rattle.extent_map.proofs.Spots.{part_known, part_within}
use Rattle.extent_map.proofs.chunks.spot_of.Goals as goal

known : (c : goal.After-chunk_of-chunk) → c.chunk_of-chunk.result < length c.args.chunks.now
known c = part_known c.args.chunks.now c.args.size c.chunk_of-chunk.result c.args.part c.requires.ordered c.chunk_of-chunk.ensures.before c.requires.known

pub bounds-chunks-chunk : goal.bounds-chunks-chunk
bounds-chunks-chunk c = known c

known_at : (c : goal.After-parts) → c.chunk_of-chunk.result < length c.args.chunks.now
known_at c = part_known c.args.chunks.now c.args.size c.chunk_of-chunk.result c.args.part c.requires.ordered c.chunk_of-chunk.ensures.before c.requires.known

pub index_of-requires-clause-rising : goal.index_of-requires-clause-rising
index_of-requires-clause-rising c =
    subst (λ (ps : List Extent). AllPairs (λ p q. p.place < q.place) ps) (sym (c.parts.ensures ∙ c.index-chunks-chunk.is))
    (rises 0 (get_or c.args.chunks.now c.chunk_of-chunk.result c.index-chunks-chunk.result) c.args.size (chunk_order 0 c.args.chunks.now c.args.size c.chunk_of-chunk.result c.index-chunks-chunk.result (known_at c) c.requires.ordered))

pub index_of-requires-clause-known : goal.index_of-requires-clause-known
index_of-requires-clause-known c =
    subst (λ (ps : List Extent). Contains ps c.args.part) (sym (c.parts.ensures ∙ c.index-chunks-chunk.is))
    (part_within c.args.chunks.now c.args.size c.chunk_of-chunk.result c.index-chunks-chunk.result c.args.part c.requires.ordered c.chunk_of-chunk.ensures.before (known_at c) (c.chunk_of-chunk.ensures.at (known_at c)) c.requires.known)

known_end : (c : goal.After-index_of) → c.chunk_of-chunk.result < length c.args.chunks.now
known_end c = part_known c.args.chunks.now c.args.size c.chunk_of-chunk.result c.args.part c.requires.ordered c.chunk_of-chunk.ensures.before c.requires.known

own : (c : goal.After-index_of) → c.parts.result.now ≡ get_or c.args.chunks.now c.chunk_of-chunk.result []
own c = c.parts.ensures ∙ c.index-chunks-chunk.is ∙ get_or_default c.args.chunks.now c.chunk_of-chunk.result c.index-chunks-chunk.result [] (known_end c)

pub returns-clause-known : goal.returns-clause-known
returns-clause-known c = known_end c

pub returns-clause-within : goal.returns-clause-within
returns-clause-within c = subst (λ (ps : List Extent). c.index_of.result < length ps) (own c) c.index_of.ensures.within

pub returns-clause-at : goal.returns-clause-at
returns-clause-at c = subst (λ (ps : List Extent). get_or ps c.index_of.result c.args.part ≡ c.args.part) (own c) c.index_of.ensures.at
