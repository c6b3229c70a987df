-- what holds of the holes of a list once a part is taken out, and where chunks end
use Rattle.std.proofs.Common.{◌≡◌, ℕ, zero, suc, ◌+◌, ◌<◌, ◌≤◌, List, [], ◌∷◌, length, take, drop, refl, ap, inl, inr, subst, sym, ◌∙◌, arith}
use Rattle.std.specs.List.{remove}
use Rattle.std.proofs.lemmas.Bool.{cases_eq, cases_lt}
use Rattle.std.proofs.lemmas.List.{take_all}
use Rattle.extent_map.specs.declared.part.Extent.{Extent}
use Rattle.extent_map.specs.Parts.{end_of, LieInOrder}
use Rattle.extent_map.specs.Holes.{first_start, last_end, FitsBeforeNone, IsSummed}
use Rattle.extent_map.specs.Chunks.{all_parts, chunk_at}
use Rattle.extent_map.proofs.InChunks.{chunk_order}
use Rattle.extent_map.proofs.Order.{back}
use Rattle.extent_map.proofs.Passed.{last_end_any, none_more_bytes, none_with_first}

-- A PART TAKEN OUT

take_removed : (ps : List Extent) (index : ℕ) → index < length ps → take index (remove ps index) ≡ take index ps
take_removed [] index l = absurd (omega arith)
take_removed (p ∷ ps) zero l = refl
take_removed (p ∷ ps) (suc index) l = ap (λ (qs : List Extent). p ∷ qs) (take_removed ps index (omega arith))

drop_removed : (ps : List Extent) (index : ℕ) → index < length ps → drop index (remove ps index) ≡ drop (suc index) ps
drop_removed [] index l = absurd (omega arith)
drop_removed (p ∷ ps) zero l = refl
drop_removed (p ∷ ps) (suc index) l = drop_removed ps index (omega arith)

none_without : (ps : List Extent) (from index bytes more : ℕ) → index < length ps → bytes ≤ more → FitsBeforeNone bytes from ps → first_start (drop (suc index) ps) 0 < last_end from (take index ps) + more → FitsBeforeNone more from (remove ps index)
none_without [] from index bytes more l m h gap = absurd (omega arith)
none_without (p ∷ ps) from zero bytes more l m h gap = none_with_first more (end_of p) from ps gap (none_more_bytes bytes more (end_of p) ps m h.1)
none_without (p ∷ ps) from (suc index) bytes more l m h gap = (let first = h.0 in omega arith, none_without ps (end_of p) index bytes more (omega arith) m h.1 gap)

bounded_without : (ps : List Extent) (index widest more : ℕ) → index < length ps → widest ≤ more → FitsBeforeNone (widest + 1) (first_start ps 0) ps
    → (1 ≤ index → first_start (drop index (remove ps index)) 0 ≤ last_end 0 (take index (remove ps index)) + more) → FitsBeforeNone (more + 1) (first_start (remove ps index) 0) (remove ps index)
bounded_without [] index widest more l m h gap = absurd (omega arith)
bounded_without (p ∷ ps) zero widest more l m h gap = none_with_first (more + 1) (end_of p) (first_start ps 0) ps (omega arith) (none_more_bytes (widest + 1) (more + 1) (end_of p) ps (omega arith) h.1)
bounded_without (p ∷ ps) (suc index) widest more l m h gap =
    let within : index < length ps = omega arith in
    let hole : first_start (drop index (remove ps index)) 0 ≤ last_end (end_of p) (take index (remove ps index)) + more = gap (omega arith) in
    let behind = ap (λ (qs : List Extent). first_start qs 0) (drop_removed ps index within) in
    let before = ap (λ (qs : List Extent). last_end (end_of p) qs) (take_removed ps index within) in
    (omega arith, none_without ps (end_of p) index (widest + 1) (more + 1) within (omega arith) h.1 (omega (arith, hole, behind, before)))

pub summed_without : (ps : List Extent) (index widest more start end : ℕ) → index < length ps → widest ≤ more → FitsBeforeNone (widest + 1) (first_start ps 0) ps
    → (1 ≤ index → first_start (drop index (remove ps index)) 0 ≤ last_end 0 (take index (remove ps index)) + more) → start ≡ first_start (remove ps index) 0
    → end ≡ last_end 0 (take (length (remove ps index)) (remove ps index)) → IsSummed (remove ps index) start end more
summed_without ps index widest more start end l m h gap s e = record {
  start_is = s;
  end_is = e ∙ ap (last_end 0) (take_all (length (remove ps index)) (remove ps index) (omega arith));
  bounded = bounded_without ps index widest more l m h gap;
}

-- WHERE CHUNKS END

grows : (low : ℕ) (ps : List Extent) (high : ℕ) → LieInOrder low ps high → low ≤ last_end low ps
grows low [] high h = omega arith
grows low (p ∷ ps) high h = let first = h.0 in let rest = grows (end_of p) ps high h.2 in omega arith

from_none : (low : ℕ) (ps : List Extent) → last_end 0 ps ≤ last_end low ps
from_none low [] = omega arith
from_none low (p ∷ ps) = omega arith

-- no chunk ends behind a later one that has parts
pub ends_rise : (low : ℕ) (pss : List (List Extent)) (size k chunk : ℕ) → LieInOrder low (all_parts pss) size → k < chunk → chunk < length pss → 1 ≤ length (chunk_at pss chunk) → last_end 0 (chunk_at pss k) ≤ last_end 0 (chunk_at pss chunk)
ends_rise low [] size k chunk h b l some = absurd (omega arith)
ends_rise low (ps ∷ pss) size k zero h b l some = absurd (omega arith)
ends_rise low (ps ∷ pss) size zero (suc chunk) h b l some =
    let mid = last_end low ps in
    let own = chunk_order mid pss size chunk [] (omega arith) (back low ps (all_parts pss) size h) in
    let most = grows mid (chunk_at pss chunk) size own in
    let same = last_end_any mid 0 (chunk_at pss chunk) some in
    let least = from_none low ps in
    omega (arith, most, same, least)
ends_rise low (ps ∷ pss) size (suc k) (suc chunk) h b l some = ends_rise (last_end low ps) pss size k chunk (back low ps (all_parts pss) size h) (omega arith) (omega arith) some

-- where the last chunk with parts before a chunk ends by a place, so do all before it
pub all_before : (pss : List (List Extent)) (size place used chunk : ℕ) → LieInOrder 0 (all_parts pss) size → used < length pss → (0 < used → 1 ≤ length (chunk_at pss used)) → ((k : ℕ) → used < k → k < chunk → chunk_at pss k ≡ [])
    → last_end 0 (chunk_at pss used) ≤ place → (k : ℕ) → k < chunk → last_end 0 (chunk_at pss k) ≤ place
all_before pss size place used chunk h known some others end k b =
    elim (cases_lt k used) [
      | inl less ↦ let rise = ends_rise 0 pss size k used h less known (some (omega arith)) in omega (arith, rise, end)
      | inr more ↦ elim (cases_eq k used) [
        | inl same ↦ subst (λ (i : ℕ). last_end 0 (chunk_at pss i) ≤ place) (sym same) end
        | inr other ↦ let none = ap (λ (qs : List Extent). last_end 0 qs) (others k (omega arith) b) in omega (arith, none)
      ]
    ]
