-- A part at a place that is asked for.
use Rattle.std.proofs.Common.{◌≡◌, ℕ, ◌+◌, ◌<◌, ◌≤◌, List, [], ◌∷◌, All, AllPairs, Contains, length, get_or, take, drop, inl, inr, ap, subst, sym, ◌∙◌, arith}
use Rattle.std.specs.List.{AllByRecursion, AllWithin}
use Rattle.std.proofs.lemmas.Bool.{cases_lt}
use Rattle.std.proofs.lemmas.List.{take_more, drop_more, take-append-drop, get_or-take, get_or-drop, length-take, length-drop}
use Rattle.std.proofs.lemmas.List.Elements.{All-from_recursion, recursion_from_All, All-take, All-drop}
use Rattle.extent_map.specs.declared.part.Extent.{Extent}
use Rattle.extent_map.specs.Parts.{end_of, AreApart, LieInOrder}
use Rattle.extent_map.specs.Spaces.{IsFree}
use Rattle.extent_map.specs.Holes.{first_start, last_end, IsHole}
use Rattle.extent_map.proofs.Order.{front, back, later, last_end_push}
use Rattle.extent_map.proofs.Search.{ahead_of}

-- BEFORE AND AFTER AN INDEX

pub within_take : (P : Extent → Type 0) (xs : List Extent) (index : ℕ) → AllWithin P xs 0 index → All P (take index xs)
within_take P xs index h = λ k d l.
    let n = length-take index xs in
    let under : k < index = omega arith in
    subst P (sym (get_or-take index xs k d under)) (h k d (omega arith) under)

pub within_drop : (P : Extent → Type 0) (xs : List Extent) (index : ℕ) → AllWithin P xs index (length xs) → All P (drop index xs)
within_drop P xs index h = λ k d l.
    let n = length-drop index xs in
    subst P (sym (get_or-drop index xs k d)) (h (index + k) d (omega arith) (omega arith))

pub last_end_at : (xs : List Extent) (index : ℕ) (d : Extent) → index < length xs → last_end 0 (take (index + 1) xs) ≡ end_of (get_or xs index d)
last_end_at xs index d l = ap (last_end 0) (take_more xs index d l) ∙ last_end_push 0 (take index xs) (get_or xs index d)

pub first_start_at : (xs : List Extent) (size index : ℕ) (d : Extent) → index < length xs → first_start (drop index xs) size ≡ (get_or xs index d).place
first_start_at xs size index d l = ap (λ (ps : List Extent). first_start ps size) (drop_more xs index d l)

-- FREE

pub claims_hole : (taken : List Extent) (size index : ℕ) (p : Extent) → index ≤ length taken → LieInOrder 0 taken size
    → last_end 0 (take index taken) ≤ p.place → end_of p ≤ first_start (drop index taken) size → IsHole taken size index p
claims_hole taken size index p within ordered low high =
    let whole = subst (λ (ps : List Extent). LieInOrder 0 ps size) (sym (take-append-drop index taken)) ordered in
    let ahead = back 0 (take index taken) (drop index taken) size whole in
    record {
      within = within;
      behind = later 0 (take index taken) (last_end 0 (take index taken)) p.place (front 0 (take index taken) (drop index taken) size whole) low;
      ahead = ahead_of (last_end 0 (take index taken)) (drop index taken) size p ahead high;
    }

-- NOT FREE

met_before : (low : ℕ) (xs : List Extent) (p : Extent) → AllByRecursion (λ q. q.place < p.place) xs → low ≤ p.place → p.place < last_end low xs → 1 ≤ p.length → AllByRecursion (λ q. AreApart q p) xs → ⊥
met_before low [] p starts l m some apart = omega arith
met_before low (x ∷ xs) p starts l m some apart = elim (apart.0) [
  | inl behind ↦ met_before (end_of x) xs p starts.1 behind m some apart.1
  | inr ahead ↦ let start = starts.0 in omega arith
]

met_behind : (low : ℕ) (ys : List Extent) (size : ℕ) (p : Extent) → LieInOrder low ys size → AllByRecursion (λ q. p.place ≤ q.place) ys → (end_of p ≤ first_start ys size → ⊥) → end_of p ≤ size → AllByRecursion (λ q. AreApart q p) ys → ⊥
met_behind low [] size p ordered starts tight within apart = tight within
met_behind low (y ∷ ys) size p ordered starts tight within apart = elim (apart.0) [
  | inl behind ↦ let some = ordered.1 in let start = starts.0 in omega arith
  | inr ahead ↦ tight ahead
]

pub claims_none_before : (taken : List Extent) (size index : ℕ) (p : Extent) → All (λ q. q.place < p.place) (take index taken) → p.place < last_end 0 (take index taken) → 1 ≤ p.length → IsFree taken size p → ⊥
claims_none_before taken size index p starts low some free =
    let apart = recursion_from_All (λ q. AreApart q p) (take index taken) (All-take (λ q. AreApart q p) index taken (All-from_recursion (λ q. AreApart q p) taken free.1)) in
    met_before 0 (take index taken) p (recursion_from_All (λ q. q.place < p.place) (take index taken) starts) (omega arith) low some apart

pub claims_none_behind : (taken : List Extent) (size index : ℕ) (p : Extent) → LieInOrder 0 taken size → All (λ q. p.place ≤ q.place) (drop index taken) → (end_of p ≤ first_start (drop index taken) size → ⊥) → IsFree taken size p → ⊥
claims_none_behind taken size index p ordered starts tight free =
    let whole = subst (λ (ps : List Extent). LieInOrder 0 ps size) (sym (take-append-drop index taken)) ordered in
    let apart = recursion_from_All (λ q. AreApart q p) (drop index taken) (All-drop (λ q. AreApart q p) index taken (All-from_recursion (λ q. AreApart q p) taken free.1)) in
    met_behind (last_end 0 (take index taken)) (drop index taken) size p (back 0 (take index taken) (drop index taken) size whole) (recursion_from_All (λ q. p.place ≤ q.place) (drop index taken) starts) tight free.0 apart

-- THE INDEX OF A PART

-- the index of a taken part is the number of those that start before it
pub is_index : (taken : List Extent) (index : ℕ) (p : Extent) → AllPairs (λ p q. p.place < q.place) taken → index ≤ length taken → All (λ q. q.place < p.place) (take index taken) → All (λ q. p.place ≤ q.place) (drop index taken)
    → Contains taken p → (index < length taken) × (get_or taken index p ≡ p)
is_index taken index p rising within before behind has =
    let k = has.0 in
    let at : get_or taken k p ≡ p = has.2 in
    elim (cases_lt k index) [
      | inl under ↦
          let n = length-take index taken in
          let below : (get_or taken k p).place < p.place = subst (λ (q : Extent). q.place < p.place) (get_or-take index taken k p under) (before k p (omega arith)) in
          let same : (get_or taken k p).place ≡ p.place = ap (λ (q : Extent). q.place) at in
          absurd (omega arith)
      | inr over ↦ elim (cases_lt index k) [
        | inl above ↦
            let n = length-drop index taken in
            let inside = has.1 in
            let rise = rising index k p above inside in
            let first : p.place ≤ (get_or taken (index + 0) p).place = subst (λ (q : Extent). p.place ≤ q.place) (get_or-drop index taken 0 p) (behind 0 p (omega arith)) in
            let none : index + 0 ≡ index = omega arith in
            let start : p.place ≤ (get_or taken index p).place = subst (λ i. p.place ≤ (get_or taken i p).place) none first in
            let same : (get_or taken k p).place ≡ p.place = ap (λ (q : Extent). q.place) at in
            absurd (omega arith)
        | inr equal ↦
            let e : k ≡ index = omega arith in
            let inside = has.1 in
            (omega arith, subst (λ i. get_or taken i p ≡ p) e at)
      ]
    ]
