-- Chunks of which no two side by side fit into one.
use Rattle.std.proofs.Common.{ℕ, zero, suc, ◌+◌, ◌*◌, ◌<◌, ◌≤◌, List, [], ◌∷◌, ◌++◌, length, drop, arith, length-append}
use Rattle.extent_map.specs.declared.part.Extent.{Extent}
use Rattle.extent_map.specs.Chunks.{all_parts, chunk_at, chunk_room, AreCrowded}

crowded_rest : (ps : List Extent) (pss : List (List Extent)) → AreCrowded (ps ∷ pss) → AreCrowded pss
crowded_rest ps [] h = tt
crowded_rest ps (qs ∷ pss) h = h.1

-- half of the chunks, filled, would not hold more parts
pub crowded_many : (half : ℕ) (pss : List (List Extent)) → 2 * half ≤ length pss → AreCrowded pss → half * 1024 ≤ length (all_parts pss)
crowded_many zero pss l h = omega arith
crowded_many (suc half) [] l h = absurd (omega arith)
crowded_many (suc half) (p ∷ []) l h = absurd (omega arith)
crowded_many (suc half) (p ∷ q ∷ pss) l h =
    let rest = crowded_many half pss (omega arith) (crowded_rest q pss h.1) in
    let here = h.0 in
    let first = length-append p (q ++ all_parts pss) in
    let second = length-append q (all_parts pss) in
    omega arith

-- one chunk more, before those from the next one on
pub crowded_more : (pss : List (List Extent)) (chunk : ℕ) → chunk + 1 < length pss → chunk_room < length (chunk_at pss chunk) + length (chunk_at pss (suc chunk)) → AreCrowded (drop (suc chunk) pss) → AreCrowded (drop chunk pss)
crowded_more [] chunk l wide h = absurd (omega arith)
crowded_more (ps ∷ []) chunk l wide h = absurd (omega arith)
crowded_more (ps ∷ qs ∷ pss) zero l wide h = (wide, h)
crowded_more (ps ∷ qs ∷ pss) (suc chunk) l wide h = crowded_more (qs ∷ pss) chunk (omega arith) wide h

pub crowded_last : (pss : List (List Extent)) (chunk : ℕ) → length pss ≤ chunk + 1 → AreCrowded (drop chunk pss)
crowded_last [] zero l = tt
crowded_last [] (suc chunk) l = tt
crowded_last (ps ∷ []) zero l = tt
crowded_last (ps ∷ qs ∷ pss) zero l = absurd (omega arith)
crowded_last (ps ∷ pss) (suc chunk) l = crowded_last pss chunk (omega arith)
