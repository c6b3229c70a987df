-- Chunks of which no two side by side fit into one.
use Rattle.std.proofs.Common.{ℕ, zero, suc, ◌+◌, ◌*◌, ◌<◌, ◌≤◌, List, [], ◌∷◌, ◌++◌, length, drop, arith, length-append}
use Rattle.kept_areas.specs.declared.spot.KeptSpot.{KeptSpot}
use Rattle.kept_areas.specs.Areas.{all_spots}
use Rattle.kept_areas.specs.Kept.{AreCrowded, chunk_at, chunk_room}

crowded_rest : (ss : List KeptSpot) (sss : List (List KeptSpot)) → AreCrowded (ss ∷ sss) → AreCrowded sss
crowded_rest ss [] h = tt
crowded_rest ss (ts ∷ sss) h = h.1

-- half of the chunks, filled, would not hold more keys
pub crowded_many : (half : ℕ) (sss : List (List KeptSpot)) → 2 * half ≤ length sss → AreCrowded sss → half * 512 ≤ length (all_spots sss)
crowded_many zero sss l h = omega arith
crowded_many (suc half) [] l h = absurd (omega arith)
crowded_many (suc half) (p ∷ []) l h = absurd (omega arith)
crowded_many (suc half) (p ∷ q ∷ sss) l h =
    let rest = crowded_many half sss (omega arith) (crowded_rest q sss h.1) in
    let here = h.0 in
    let first = length-append p (q ++ all_spots sss) in
    let second = length-append q (all_spots sss) in
    omega arith

-- one chunk more, before those from the next one on
pub crowded_more : (sss : List (List KeptSpot)) (chunk : ℕ) → chunk + 1 < length sss → chunk_room < length (chunk_at sss chunk) + length (chunk_at sss (suc chunk)) → AreCrowded (drop (suc chunk) sss) → AreCrowded (drop chunk sss)
crowded_more [] chunk l wide h = absurd (omega arith)
crowded_more (ss ∷ []) chunk l wide h = absurd (omega arith)
crowded_more (ss ∷ ts ∷ sss) zero l wide h = (wide, h)
crowded_more (ss ∷ ts ∷ sss) (suc chunk) l wide h = crowded_more (ts ∷ sss) chunk (omega arith) wide h

pub crowded_last : (sss : List (List KeptSpot)) (chunk : ℕ) → length sss ≤ chunk + 1 → AreCrowded (drop chunk sss)
crowded_last [] zero l = tt
crowded_last [] (suc chunk) l = tt
crowded_last (ss ∷ []) zero l = tt
crowded_last (ss ∷ ts ∷ sss) zero l = absurd (omega arith)
crowded_last (ss ∷ sss) (suc chunk) l = crowded_last sss chunk (omega arith)
