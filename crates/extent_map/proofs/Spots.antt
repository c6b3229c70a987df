-- Where a part fits among the chunks, and where a part that is there stands.
use Rattle.std.proofs.Common.{◌≡◌, ℕ, zero, suc, ◌+◌, ◌<◌, ◌≤◌, List, [], ◌∷◌, ◌++◌, Contains, length, get_or, take, drop, inl, inr, refl, ap, subst, sym, ◌∙◌, arith}
use Rattle.std.specs.List.{AllByRecursion}
use Rattle.std.proofs.lemmas.List.{take_all, get_or_default, take-append-drop, length-drop}
use Rattle.std.proofs.lemmas.List.Elements.{Contains-append_cases}
use Rattle.std.proofs.lemmas.Bool.{cases_lt}
use Rattle.extent_map.specs.declared.part.Extent.{Extent}
use Rattle.extent_map.specs.Parts.{part_at, end_of, AreApart, LieInOrder}
use Rattle.extent_map.specs.Spaces.{IsFree, NoneFree, NoneFreeBelow}
use Rattle.extent_map.specs.Holes.{first_start, last_end, FitsBeforeNone, IsFirstHole, IsHole}
use Rattle.extent_map.specs.Chunks.{all_parts, chunk_at, parts_before, parts_behind, FitsAt, IsSearched, IsSpot}
use Rattle.extent_map.proofs.Order.{at_least, back, earlier, end_within, front, later, low_high}
use Rattle.extent_map.proofs.Search.{ahead_of}
use Rattle.extent_map.proofs.Passed.{last_end_joined, none_joined}
use Rattle.extent_map.proofs.InChunks.{around, before_all, before_first, before_in, before_next, behind_in}

-- LISTS

all_left : (P : Extent → Type 0) (xs ys : List Extent) → AllByRecursion P (xs ++ ys) → AllByRecursion P xs
all_left P [] ys h = tt
all_left P (x ∷ xs) ys h = (h.0, all_left P xs ys h.1)

all_right : (P : Extent → Type 0) (xs ys : List Extent) → AllByRecursion P (xs ++ ys) → AllByRecursion P ys
all_right P [] ys h = h
all_right P (x ∷ xs) ys h = all_right P xs ys h.1

first_start_joined : (xs ys : List Extent) (size other : ℕ) → 1 ≤ length xs → first_start (xs ++ ys) size ≡ first_start xs other
first_start_joined [] ys size other l = absurd (omega arith)
first_start_joined (x ∷ xs) ys size other l = refl

first_start_ahead : (low : ℕ) (xs ys : List Extent) (size high : ℕ) → 1 ≤ length xs → LieInOrder low xs high → low ≤ first_start (xs ++ ys) size
first_start_ahead low [] ys size high l h = absurd (omega arith)
first_start_ahead low (x ∷ xs) ys size high l h = h.0

last_end_by : (from place : ℕ) (ps : List Extent) → from ≤ place → last_end 0 ps ≤ place → last_end from ps ≤ place
last_end_by from place [] l m = l
last_end_by from place (p ∷ ps) l m = m

last_end_later : (from : ℕ) (ps : List Extent) → last_end 0 ps ≤ last_end from ps
last_end_later from [] = omega arith
last_end_later from (p ∷ ps) = omega arith

order_end : (low : ℕ) (xs : List Extent) (high : ℕ) → LieInOrder low xs high → last_end low xs ≤ high
order_end low [] high h = h
order_end low (x ∷ xs) high h = order_end (end_of x) xs high h.2

pub order_take : (count : ℕ) (ps : List Extent) (size : ℕ) → LieInOrder 0 ps size → LieInOrder 0 (take count ps) size
order_take count ps size h =
    let whole = subst (λ (qs : List Extent). LieInOrder 0 qs size) (sym (take-append-drop count ps)) h in
    later 0 (take count ps) (last_end 0 (take count ps)) size (front 0 (take count ps) (drop count ps) size whole) (low_high (last_end 0 (take count ps)) (drop count ps) size (back 0 (take count ps) (drop count ps) size whole))

pub order_drop : (count : ℕ) (ps : List Extent) (size : ℕ) → LieInOrder 0 ps size → LieInOrder 0 (drop count ps) size
order_drop count ps size h =
    let whole = subst (λ (qs : List Extent). LieInOrder 0 qs size) (sym (take-append-drop count ps)) h in
    earlier 0 (last_end 0 (take count ps)) (drop count ps) size (omega arith) (back 0 (take count ps) (drop count ps) size whole)

-- A PART FITS

pub fits_around : (pss : List (List Extent)) (size chunk index : ℕ) (p : Extent) → IsSpot pss chunk index → LieInOrder 0 (all_parts pss) size
    → last_end 0 (parts_before pss chunk index) ≤ p.place → end_of p ≤ first_start (parts_behind pss chunk index) size → FitsAt pss size chunk index p
fits_around pss size chunk index p spot ordered low high =
    let before = parts_before pss chunk index in
    let behind = parts_behind pss chunk index in
    let whole = subst (λ (ps : List Extent). LieInOrder 0 ps size) (around pss chunk index) ordered in
    record {
      spot = spot;
      before = later 0 before (last_end 0 before) p.place (front 0 before behind size whole) low;
      behind = ahead_of (last_end 0 before) behind size p (back 0 before behind size whole) high;
    }

-- behind all parts
pub fits_behind : (pss : List (List Extent)) (size chunk index : ℕ) (p : Extent) → IsSpot pss chunk index → LieInOrder 0 (all_parts pss) size → parts_before pss chunk index ≡ all_parts pss → parts_behind pss chunk index ≡ []
    → last_end 0 (all_parts pss) ≤ p.place → end_of p ≤ size → FitsAt pss size chunk index p
fits_behind pss size chunk index p spot ordered before behind low high =
    fits_around pss size chunk index p spot ordered (subst (λ (ps : List Extent). last_end 0 ps ≤ p.place) (sym before) low) (subst (λ (ps : List Extent). end_of p ≤ first_start ps size) (sym behind) high)

-- THE SEARCH

met_before : (from : ℕ) (xs : List Extent) (bytes lower : ℕ) → from ≤ lower → lower < last_end from xs → FitsBeforeNone bytes from xs → AllByRecursion (λ q. AreApart q (part_at lower bytes)) xs → ⊥
met_before from [] bytes lower l m none apart = omega arith
met_before from (x ∷ xs) bytes lower l m none apart = elim (apart.0) [
  | inl behind ↦ met_before (end_of x) xs bytes lower behind m none.1 apart.1
  | inr ahead ↦ let tight = none.0 in omega arith
]

none_below : (pss : List (List Extent)) (size bytes chunk index place : ℕ) → FitsBeforeNone bytes 0 (parts_before pss chunk index) → place ≡ last_end 0 (parts_before pss chunk index) → NoneFreeBelow (all_parts pss) size bytes place
none_below pss size bytes chunk index place none e = λ lower l free.
    met_before 0 (parts_before pss chunk index) bytes lower (omega arith) (subst (λ n. lower < n) e l) none
    (all_left (λ q. AreApart q (part_at lower bytes)) (parts_before pss chunk index) (parts_behind pss chunk index) (subst (AllByRecursion (λ q. AreApart q (part_at lower bytes))) (around pss chunk index) free.1))

before_found : (pss : List (List Extent)) (bytes chunk from index place : ℕ) (d : List Extent) → chunk < length pss → IsSearched pss bytes chunk from → IsFirstHole (get_or pss chunk d) from index place bytes
    → (place ≡ last_end 0 (parts_before pss chunk index)) × FitsBeforeNone bytes 0 (parts_before pss chunk index)
before_found pss bytes chunk from index place d l s hole =
    let first = parts_before pss chunk 0 in
    let own = take index (get_or pss chunk d) in
    let parted = sym (before_in pss chunk index d l) in (
      hole.place_is ∙ ap (λ n. last_end n own) s.place_is ∙ sym (last_end_joined 0 first own) ∙ ap (last_end 0) parted,
      subst (FitsBeforeNone bytes 0) parted (none_joined bytes 0 first own s.none (subst (λ n. FitsBeforeNone bytes n own) s.place_is hole.none)),
    )

pub found_lowest : (pss : List (List Extent)) (size bytes chunk from index place : ℕ) (d : List Extent) → chunk < length pss → IsSearched pss bytes chunk from → IsFirstHole (get_or pss chunk d) from index place bytes
    → NoneFreeBelow (all_parts pss) size bytes place
found_lowest pss size bytes chunk from index place d l s hole =
    let b = before_found pss bytes chunk from index place d l s hole in
    none_below pss size bytes chunk index place b.1 b.0

pub found_fits : (pss : List (List Extent)) (size bytes chunk from index place : ℕ) (d : List Extent) → chunk < length pss → LieInOrder 0 (all_parts pss) size → IsSearched pss bytes chunk from
    → IsFirstHole (get_or pss chunk d) from index place bytes → FitsAt pss size chunk index (part_at place bytes)
found_fits pss size bytes chunk from index place d l ordered s hole =
    let b = before_found pss bytes chunk from index place d l s hole in
    let low = b.0 in
    let own = get_or pss chunk d in
    let same = ap (λ (ps : List Extent). length ps) (get_or_default pss chunk d [] l) in
    let within = hole.within in
    let rest = length-drop index own in
    let high : first_start (parts_behind pss chunk index) size ≡ first_start (drop index own) 0 =
    ap (λ (ps : List Extent). first_start ps size) (behind_in pss chunk index d l) ∙ first_start_joined (drop index own) (parts_behind pss (suc chunk) 0) size 0 (omega arith) in
    let fits = hole.fits in
    fits_around pss size chunk index (part_at place bytes) (record { known = l; within = omega arith }) ordered (omega arith) (subst (λ n. place + bytes ≤ n) (sym high) fits)

pub searched_start : (pss : List (List Extent)) (bytes : ℕ) → IsSearched pss bytes 0 0
searched_start pss bytes = record {
  within = omega arith;
  place_is = ap (last_end 0) (sym (before_first pss));
  none = subst (FitsBeforeNone bytes 0) (sym (before_first pss)) tt;
}

pub searched_more : (pss : List (List Extent)) (bytes chunk place next : ℕ) (d : List Extent) → chunk < length pss → IsSearched pss bytes chunk place → FitsBeforeNone bytes place (get_or pss chunk d) → next ≡ last_end place (get_or pss chunk d)
    → IsSearched pss bytes (chunk + 1) next
searched_more pss bytes chunk place next d l s none is =
    let first = parts_before pss chunk 0 in
    let own = get_or pss chunk d in
    let one : suc chunk ≡ chunk + 1 = omega arith in
    let parted = sym (before_next pss chunk d l) ∙ ap (λ n. parts_before pss n 0) one in
    record {
      within = omega arith;
      place_is = is ∙ ap (λ n. last_end n own) s.place_is ∙ sym (last_end_joined 0 first own) ∙ ap (last_end 0) parted;
      none = subst (FitsBeforeNone bytes 0) parted (none_joined bytes 0 first own s.none (subst (λ n. FitsBeforeNone bytes n own) s.place_is none));
    }

pub searched_all : (pss : List (List Extent)) (bytes chunk place : ℕ) → length pss ≤ chunk → IsSearched pss bytes chunk place → place ≡ last_end 0 (all_parts pss)
searched_all pss bytes chunk place l s = s.place_is ∙ ap (last_end 0) (before_all pss chunk l)

pub searched_lowest : (pss : List (List Extent)) (size bytes chunk place : ℕ) → IsSearched pss bytes chunk place → NoneFreeBelow (all_parts pss) size bytes place
searched_lowest pss size bytes chunk place s = none_below pss size bytes chunk 0 place s.none s.place_is

pub searched_none : (pss : List (List Extent)) (size bytes chunk place : ℕ) → IsSearched pss bytes chunk place → (place + bytes ≤ size → ⊥) → NoneFree (all_parts pss) size bytes
searched_none pss size bytes chunk place s tight = λ other free. elim (cases_lt other place) [
  | inl under ↦ searched_lowest pss size bytes chunk place s other under free
  | inr over ↦ let within = free.0 in tight (omega arith)
]

-- A PLACE THAT IS ASKED FOR

ends_by : (from place : ℕ) (pss : List (List Extent)) (chunk : ℕ) → from ≤ place → ((k : ℕ) → k < chunk → last_end 0 (chunk_at pss k) ≤ place) → last_end from (parts_before pss chunk 0) ≤ place
ends_by from place [] chunk l h = l
ends_by from place (ps ∷ pss) zero l h = l
ends_by from place (ps ∷ pss) (suc chunk) l h =
    subst (λ n. n ≤ place) (sym (last_end_joined from ps (parts_before pss chunk 0))) (ends_by (last_end from ps) place pss chunk (last_end_by from place ps l (h zero (omega arith))) (λ k m. h (suc k) (omega arith)))

pub all_end_by : (pss : List (List Extent)) (place chunk : ℕ) → length pss ≤ chunk → ((k : ℕ) → k < chunk → last_end 0 (chunk_at pss k) ≤ place) → last_end 0 (all_parts pss) ≤ place
all_end_by pss place chunk l h = subst (λ (ps : List Extent). last_end 0 ps ≤ place) (before_all pss chunk l) (ends_by 0 place pss chunk (omega arith) h)

pub claim_fits : (pss : List (List Extent)) (size chunk index : ℕ) (d : List Extent) (p : Extent) → chunk < length pss → LieInOrder 0 (all_parts pss) size → ((k : ℕ) → k < chunk → last_end 0 (chunk_at pss k) ≤ p.place)
    → p.place < last_end 0 (chunk_at pss chunk) → IsHole (get_or pss chunk d) size index p → FitsAt pss size chunk index p
claim_fits pss size chunk index d p l ordered before at hole =
    let own = get_or pss chunk d in
    let same = get_or_default pss chunk d [] l in
    let long = ap (λ (ps : List Extent). length ps) same in
    let first = ends_by 0 p.place pss chunk (omega arith) before in
    let mine = order_end 0 (take index own) p.place hole.behind in
    let low : last_end 0 (parts_before pss chunk index) ≤ p.place =
    subst (λ n. n ≤ p.place) (sym (ap (last_end 0) (before_in pss chunk index d l) ∙ last_end_joined 0 (parts_before pss chunk 0) (take index own))) (last_end_by (last_end 0 (parts_before pss chunk 0)) p.place (take index own) first mine) in
    let within = hole.within in
    let inside : index < length own = elim (cases_lt index (length own)) [
      | inl under ↦ under
      | inr over ↦ absurd (let end = subst (λ (ps : List Extent). last_end 0 ps ≤ p.place) (take_all index own over) mine in let other = ap (last_end 0) same in omega arith)
    ] in
    let rest = length-drop index own in
    let high = subst (λ (ps : List Extent). end_of p ≤ first_start ps size) (sym (behind_in pss chunk index d l)) (first_start_ahead (end_of p) (drop index own) (parts_behind pss (suc chunk) 0) size size (omega arith) hole.ahead) in
    fits_around pss size chunk index p (record { known = l; within = omega arith }) ordered low high

pub claim_none : (pss : List (List Extent)) (size chunk : ℕ) (d : List Extent) (p : Extent) → chunk < length pss → IsFree (all_parts pss) size p → IsFree (get_or pss chunk d) size p
claim_none pss size chunk d p l free =
    let first = parts_before pss chunk 0 in
    let own = get_or pss chunk d in
    let rest = parts_behind pss (suc chunk) 0 in
    let parted = around pss chunk 0 ∙ ap (λ (ps : List Extent). first ++ ps) (behind_in pss chunk 0 d l) in
    (free.0, all_left (λ q. AreApart q p) own rest (all_right (λ q. AreApart q p) first (own ++ rest) (subst (AllByRecursion (λ q. AreApart q p)) parted free.1)))

-- A PART THAT IS THERE

some_at : (low : ℕ) (xs : List Extent) (high : ℕ) → LieInOrder low xs high → (i : ℕ) (d : Extent) → i < length xs → 1 ≤ (get_or xs i d).length
some_at low [] high h i d l = absurd (omega arith)
some_at low (x ∷ xs) high h zero d l = h.1
some_at low (x ∷ xs) high h (suc i) d l = some_at (end_of x) xs high h.2 i d (omega arith)

not_before : (xs : List Extent) (p : Extent) → LieInOrder 0 xs p.place → Contains xs p → ⊥
not_before xs p h has =
    let within = end_within 0 xs p.place h has.0 p has.1 in
    let some = some_at 0 xs p.place h has.0 p has.1 in
    let place = ap (λ (q : Extent). q.place) has.2 in
    let long = ap (λ (q : Extent). q.length) has.2 in
    omega arith

not_behind : (low : ℕ) (xs : List Extent) (size : ℕ) (p : Extent) → LieInOrder low xs size → p.place < low → Contains xs p → ⊥
not_behind low xs size p h under has =
    let least = at_least low xs size h has.0 p has.1 in
    let place = ap (λ (q : Extent). q.place) has.2 in
    omega arith

chunk_before : (pss : List (List Extent)) (size chunk : ℕ) (p : Extent) → LieInOrder 0 (all_parts pss) size → ((k : ℕ) → k < chunk → last_end 0 (chunk_at pss k) ≤ p.place) → Contains (parts_before pss chunk 0) p → ⊥
chunk_before pss size chunk p ordered before has =
    let first = parts_before pss chunk 0 in
    let whole = subst (λ (ps : List Extent). LieInOrder 0 ps size) (around pss chunk 0) ordered in
    not_before first p (later 0 first (last_end 0 first) p.place (front 0 first (parts_behind pss chunk 0) size whole) (ends_by 0 p.place pss chunk (omega arith) before)) has

pub part_known : (pss : List (List Extent)) (size chunk : ℕ) (p : Extent) → LieInOrder 0 (all_parts pss) size → ((k : ℕ) → k < chunk → last_end 0 (chunk_at pss k) ≤ p.place) → Contains (all_parts pss) p → chunk < length pss
part_known pss size chunk p ordered before has = elim (cases_lt chunk (length pss)) [
  | inl under ↦ under
  | inr over ↦ absurd (chunk_before pss size chunk p ordered before (subst (λ (ps : List Extent). Contains ps p) (sym (before_all pss chunk over)) has))
]

pub part_within : (pss : List (List Extent)) (size chunk : ℕ) (d : List Extent) (p : Extent) → LieInOrder 0 (all_parts pss) size → ((k : ℕ) → k < chunk → last_end 0 (chunk_at pss k) ≤ p.place) → chunk < length pss
    → p.place < last_end 0 (chunk_at pss chunk) → Contains (all_parts pss) p → Contains (get_or pss chunk d) p
part_within pss size chunk d p ordered before l at has =
    let first = parts_before pss chunk 0 in
    let own = get_or pss chunk d in
    let rest = parts_behind pss (suc chunk) 0 in
    let parted = around pss chunk 0 ∙ ap (λ (ps : List Extent). first ++ ps) (behind_in pss chunk 0 d l) in
    let whole = back 0 first (own ++ rest) size (subst (λ (ps : List Extent). LieInOrder 0 ps size) parted ordered) in
    elim (Contains-append_cases first (own ++ rest) p (subst (λ (ps : List Extent). Contains ps p) parted has)) [
      | inl early ↦ absurd (chunk_before pss size chunk p ordered before early)
      | inr here ↦ elim (Contains-append_cases own rest p here) [
        | inl mine ↦ mine
        | inr late ↦
            let end = ap (last_end 0) (get_or_default pss chunk d [] l) in
            let more = last_end_later (last_end 0 first) own in
            absurd (not_behind (last_end (last_end 0 first) own) rest size p (back (last_end 0 first) own rest size whole) (omega arith) late)
      ]
    ]
