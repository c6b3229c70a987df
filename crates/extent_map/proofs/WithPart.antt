-- what holds of the holes of a list once a part is entered
use Rattle.std.proofs.Common.{◌≡◌, ℕ, zero, suc, ◌+◌, ◌<◌, ◌≤◌, List, [], ◌∷◌, length, take, drop, refl, ap, ◌∙◌, arith}
use Rattle.std.specs.List.{insert}
use Rattle.std.proofs.lemmas.List.{take_all}
use Rattle.extent_map.specs.declared.part.Extent.{Extent}
use Rattle.extent_map.specs.Parts.{end_of}
use Rattle.extent_map.specs.Holes.{first_start, last_end, FitsBeforeNone, IsSummed}
use Rattle.extent_map.proofs.Passed.{none_more_bytes}

-- BEFORE THE PART, AND BEHIND IT

take_inserted : (ps : List Extent) (index : ℕ) (p : Extent) → index ≤ length ps → take index (insert ps index p) ≡ take index ps
take_inserted [] zero p l = refl
take_inserted [] (suc index) p l = absurd (omega arith)
take_inserted (q ∷ qs) zero p l = refl
take_inserted (q ∷ qs) (suc index) p l = ap (λ (ps : List Extent). q ∷ ps) (take_inserted qs index p (omega arith))

drop_inserted : (ps : List Extent) (index : ℕ) (p : Extent) → index ≤ length ps → drop index (insert ps index p) ≡ p ∷ drop index ps
drop_inserted [] zero p l = refl
drop_inserted [] (suc index) p l = absurd (omega arith)
drop_inserted (q ∷ qs) zero p l = refl
drop_inserted (q ∷ qs) (suc index) p l = drop_inserted qs index p (omega arith)

end_inserted : (from : ℕ) (ps : List Extent) (index : ℕ) (p : Extent) → index ≤ length ps → last_end from (take (suc index) (insert ps index p)) ≡ end_of p
end_inserted from [] zero p l = refl
end_inserted from [] (suc index) p l = absurd (omega arith)
end_inserted from (q ∷ qs) zero p l = refl
end_inserted from (q ∷ qs) (suc index) p l = end_inserted (end_of q) qs index p (omega arith)

drop_behind : (ps : List Extent) (index : ℕ) (p : Extent) → index ≤ length ps → drop (suc index) (insert ps index p) ≡ drop index ps
drop_behind [] zero p l = refl
drop_behind [] (suc index) p l = absurd (omega arith)
drop_behind (q ∷ qs) zero p l = refl
drop_behind (q ∷ qs) (suc index) p l = drop_behind qs index p (omega arith)

-- SO MANY BYTES FIT BEFORE NONE

none_with : (ps : List Extent) (from index bytes more : ℕ) (p : Extent) → index ≤ length ps → bytes ≤ more → FitsBeforeNone bytes from ps → p.place < last_end from (take index ps) + more → first_start (drop index ps) 0 < end_of p + more
    → FitsBeforeNone more from (insert ps index p)
none_with [] from zero bytes more p l m h before behind = (before, tt)
none_with [] from (suc index) bytes more p l m h before behind = absurd (omega arith)
none_with (q ∷ qs) from zero bytes more p l m h before behind = (before, (behind, none_more_bytes bytes more (end_of q) qs m h.1))
none_with (q ∷ qs) from (suc index) bytes more p l m h before behind = (let first = h.0 in omega arith, none_with qs (end_of q) index bytes more p (omega arith) m h.1 before behind)

bounded_with : (ps : List Extent) (index widest more : ℕ) (p : Extent) → index ≤ length ps → widest ≤ more → FitsBeforeNone (widest + 1) (first_start ps 0) ps → (1 ≤ index → p.place ≤ last_end 0 (take index ps) + more)
    → first_start (drop index ps) 0 ≤ end_of p + more → FitsBeforeNone (more + 1) (first_start (insert ps index p) 0) (insert ps index p)
bounded_with [] zero widest more p l m h before behind = (omega arith, tt)
bounded_with [] (suc index) widest more p l m h before behind = absurd (omega arith)
bounded_with (q ∷ qs) zero widest more p l m h before behind = (omega arith, (omega arith, none_more_bytes (widest + 1) (more + 1) (end_of q) qs (omega arith) h.1))
bounded_with (q ∷ qs) (suc index) widest more p l m h before behind =
    let hole : p.place ≤ last_end (end_of q) (take index qs) + more = before (omega arith) in
    (omega arith, none_with qs (end_of q) index (widest + 1) (more + 1) p (omega arith) (omega arith) h.1 (omega (arith, hole)) (omega (arith, behind)))

pub summed_with : (ps : List Extent) (index widest more start end : ℕ) (p : Extent) → index ≤ length ps → widest ≤ more → FitsBeforeNone (widest + 1) (first_start ps 0) ps
    → (1 ≤ index → first_start (drop index (insert ps index p)) 0 ≤ last_end 0 (take index (insert ps index p)) + more)
    → first_start (drop (index + 1) (insert ps index p)) 0 ≤ last_end 0 (take (index + 1) (insert ps index p)) + more → start ≡ first_start (insert ps index p) 0
    → end ≡ last_end 0 (take (length (insert ps index p)) (insert ps index p)) → IsSummed (insert ps index p) start end more
summed_with ps index widest more start end p l m h before behind s e =
    let own = ap (λ (qs : List Extent). first_start qs 0) (drop_inserted ps index p l) in
    let others = ap (last_end 0) (take_inserted ps index p l) in
    let one : index + 1 ≡ suc index = omega arith in
    let next = ap (λ n. first_start (drop n (insert ps index p)) 0) one ∙ ap (λ (qs : List Extent). first_start qs 0) (drop_behind ps index p l) in
    let own_end = ap (λ n. last_end 0 (take n (insert ps index p))) one ∙ end_inserted 0 ps index p l in
    record {
      start_is = s;
      end_is = e ∙ ap (last_end 0) (take_all (length (insert ps index p)) (insert ps index p) (omega arith));
      bounded = bounded_with ps index widest more p l m h (λ some. let hole = before some in omega (arith, own, others, hole)) (omega (arith, next, own_end, behind));
    }
