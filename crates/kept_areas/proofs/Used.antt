-- The first chunks, which are all that may have keys.
use Rattle.std.proofs.Common.{◌≡◌, ℕ, zero, suc, ◌+◌, ◌-◌, ◌<◌, ◌≤◌, List, [], ◌∷◌, ◌++◌, length, get_or, set, take, drop, Option, Some, refl, ap, sym, ◌∙◌, arith}
use Rattle.std.specs.List.{insert}
use Rattle.std.specs.Option.{option_to_list}
use Rattle.std.proofs.lemmas.List.{append-nil, take-append-drop, drop-set-lt, length_push, get_or_push, get_or-take, length-take}
use Rattle.kept_areas.specs.declared.spot.KeptSpot.{KeptSpot}
use Rattle.kept_areas.specs.Areas.{all_spots}
use Rattle.kept_areas.specs.Kept.{IsUsed, chunk_at}
use Rattle.kept_areas.proofs.InChunks.{all_joined, all_with_free}

-- NO KEYS

none_front : (xs ys : List KeptSpot) → xs ++ ys ≡ [] → xs ≡ []
none_front [] ys e = refl
none_front (x ∷ xs) ys e = absurd (let long = ap (λ (ss : List KeptSpot). length ss) e in omega arith)

none_back : (xs ys : List KeptSpot) → xs ++ ys ≡ [] → ys ≡ []
none_back [] ys e = e
none_back (x ∷ xs) ys e = absurd (let long = ap (λ (ss : List KeptSpot). length ss) e in omega arith)

none_dropped : (sss : List (List KeptSpot)) (count : ℕ) → all_spots sss ≡ [] → all_spots (drop count sss) ≡ []
none_dropped [] zero e = refl
none_dropped [] (suc count) e = refl
none_dropped (ss ∷ sss) zero e = e
none_dropped (ss ∷ sss) (suc count) e = none_dropped sss count (none_back ss (all_spots sss) e)

none_taken : (sss : List (List KeptSpot)) (count : ℕ) → all_spots sss ≡ [] → all_spots (take count sss) ≡ []
none_taken sss count e = none_front (all_spots (take count sss)) (all_spots (drop count sss)) (sym (all_joined (take count sss) (drop count sss)) ∙ ap all_spots (take-append-drop count sss) ∙ e)

-- AMONG THE FIRST

-- without those behind, all keys are there
all_first : (sss : List (List KeptSpot)) (used : ℕ) → all_spots (drop used sss) ≡ [] → all_spots (take used sss) ≡ all_spots sss
all_first sss used e =
    sym (append-nil (all_spots (take used sss))) ∙ ap (λ (ss : List KeptSpot). all_spots (take used sss) ++ ss) (sym e) ∙ sym (all_joined (take used sss) (drop used sss)) ∙ ap all_spots (take-append-drop used sss)

pub spots_first : (sss first : List (List KeptSpot)) (used : ℕ) → first ≡ take used sss → all_spots (drop used sss) ≡ [] → all_spots first ≡ all_spots sss
spots_first sss first used is e = ap all_spots is ∙ all_first sss used e

taken_twice : (sss : List (List KeptSpot)) (used count : ℕ) → all_spots (drop used sss) ≡ [] → all_spots (take count (take used sss)) ≡ all_spots (take count sss)
taken_twice sss used zero e = refl
taken_twice [] zero (suc count) e = refl
taken_twice [] (suc used) (suc count) e = refl
taken_twice (ss ∷ sss) zero (suc count) e = sym (none_taken (ss ∷ sss) (suc count) e)
taken_twice (ss ∷ sss) (suc used) (suc count) e = ap (λ (zs : List KeptSpot). ss ++ zs) (taken_twice sss used count e)

-- and so are all keys of the first of any count
pub taken_first : (sss first : List (List KeptSpot)) (used count : ℕ) → first ≡ take used sss → all_spots (drop used sss) ≡ [] → all_spots (take count first) ≡ all_spots (take count sss)
taken_first sss first used count is e = ap (λ (qss : List (List KeptSpot)). all_spots (take count qss)) is ∙ taken_twice sss used count e

pub place_first : (sss first : List (List KeptSpot)) (used chunk : ℕ) → first ≡ take used sss → chunk < length first → (chunk < used) × (chunk < length sss)
place_first sss first used chunk is h =
    let same = ap (λ (qss : List (List KeptSpot)). length qss) is in
    let long = length-take used sss in
    (omega arith, omega arith)

pub own_first : (sss first : List (List KeptSpot)) (used chunk : ℕ) → first ≡ take used sss → chunk < length first → chunk_at first chunk ≡ chunk_at sss chunk
own_first sss first used chunk is h = ap (λ (qss : List (List KeptSpot)). chunk_at qss chunk) is ∙ get_or-take used sss chunk [] (place_first sss first used chunk is h).0

-- THE FIRST CHUNKS AFTER A CHANGE

pub used_set : (sss : List (List KeptSpot)) (used chunk : ℕ) (ss : List KeptSpot) → chunk < used → IsUsed sss used → IsUsed (set sss chunk ss) used
used_set sss used chunk ss l u = record { some = u.some; none = ap all_spots (drop-set-lt used sss chunk ss l) ∙ u.none }

-- a chunk with no key behind the others
none_with_free : (sss : List (List KeptSpot)) (used : ℕ) → all_spots (drop used sss) ≡ [] → all_spots (drop used (sss ++ [] ∷ [])) ≡ []
none_with_free [] zero e = refl
none_with_free [] (suc used) e = none_dropped [] used refl
none_with_free (ss ∷ sss) zero e = all_with_free (ss ∷ sss) ∙ e
none_with_free (ss ∷ sss) (suc used) e = none_with_free sss used e

none_without_free : (sss : List (List KeptSpot)) (used : ℕ) → all_spots (drop used (sss ++ [] ∷ [])) ≡ [] → all_spots (drop used sss) ≡ []
none_without_free [] zero e = refl
none_without_free [] (suc used) e = refl
none_without_free (ss ∷ sss) zero e = sym (all_with_free (ss ∷ sss)) ∙ e
none_without_free (ss ∷ sss) (suc used) e = none_without_free sss used e

pub used_pushed : (old new : List (List KeptSpot)) (used : ℕ) → new ≡ old ++ [] ∷ [] → IsUsed old used → IsUsed new used
used_pushed old new used is u = record { some = u.some; none = ap (λ (qss : List (List KeptSpot)). all_spots (drop used qss)) is ∙ none_with_free old used u.none }

-- all but that last chunk
last_free : (sss : List (List KeptSpot)) → all_spots (drop (length sss) (sss ++ [] ∷ [])) ≡ []
last_free [] = refl
last_free (ss ∷ sss) = last_free sss

pub used_merged : (sss new : List (List KeptSpot)) (used : ℕ) → new ≡ sss ++ [] ∷ [] → used ≡ length sss → 1 ≤ used → IsUsed new used
used_merged sss new used is n some = record {
  some = some;
  none = ap (λ (qss : List (List KeptSpot)). all_spots (drop used qss)) is ∙ ap (λ k. all_spots (drop k (sss ++ [] ∷ []))) n ∙ last_free sss;
}

-- the last chunk, where not all are used, has no key
none_at : (sss : List (List KeptSpot)) (k : ℕ) (d : List KeptSpot) → k < length sss → all_spots sss ≡ [] → get_or sss k d ≡ []
none_at [] k d l e = absurd (omega arith)
none_at (ss ∷ sss) zero d l e = none_front ss (all_spots sss) e
none_at (ss ∷ sss) (suc k) d l e = none_at sss k d (omega arith) (none_back ss (all_spots sss) e)

none_last : (sss : List (List KeptSpot)) (used : ℕ) (d : List KeptSpot) → used < length sss → all_spots (drop used sss) ≡ [] → get_or sss (length sss - 1) d ≡ []
none_last [] used d l e = absurd (omega arith)
none_last (ss ∷ sss) zero d l e = none_at (ss ∷ sss) (length (ss ∷ sss) - 1) d (omega arith) e
none_last (ss ∷ []) (suc used) d l e = absurd (omega arith)
none_last (ss ∷ ts ∷ sss) (suc used) d l e =
    let is : length (ss ∷ ts ∷ sss) - 1 ≡ suc (length (ts ∷ sss) - 1) = omega arith in
    ap (λ k. get_or (ss ∷ ts ∷ sss) k d) is ∙ none_last (ts ∷ sss) used d (omega arith) e

pub popped : (old sss : List (List KeptSpot)) (last : Option (List KeptSpot)) (fresh : List KeptSpot) (used : ℕ) → old ≡ sss ++ option_to_list last → last ≡ Some fresh → used < length old → IsUsed old used → (fresh ≡ []) × (old ≡ sss ++ [] ∷ [])
popped old sss last fresh used items is free first =
    let whole : old ≡ sss ++ fresh ∷ [] = items ∙ ap (λ (o : Option (List KeptSpot)). sss ++ option_to_list o) is in
    let long : length old ≡ length sss + 1 = ap length whole ∙ length_push sss fresh in
    let place : length sss ≡ length old - 1 = omega arith in
    let read : get_or old (length old - 1) [] ≡ fresh = ap (λ (qss : List (List KeptSpot)). get_or qss (length old - 1) []) whole ∙ get_or_push sss fresh [] (length old - 1) place in
    let none : fresh ≡ [] = sym read ∙ none_last old used [] free first.none in
    (none, whole ∙ ap (λ (f : List KeptSpot). sss ++ f ∷ []) none)

-- one chunk divided
drop_divided : (sss : List (List KeptSpot)) (chunk used : ℕ) (left right : List KeptSpot) → chunk < used → used ≤ length sss → drop (suc used) (insert (set sss chunk left) (suc chunk) right) ≡ drop used sss
drop_divided [] chunk used left right l m = absurd (omega arith)
drop_divided (ss ∷ sss) chunk zero left right l m = absurd (omega arith)
drop_divided (ss ∷ sss) zero (suc used) left right l m = refl
drop_divided (ss ∷ sss) (suc chunk) (suc used) left right l m = drop_divided sss chunk used left right (omega arith) (omega arith)

pub used_divided : (sss old new : List (List KeptSpot)) (chunk next used : ℕ) (left right : List KeptSpot) → old ≡ sss ++ [] ∷ [] → next ≡ suc chunk → new ≡ insert (set sss chunk left) next right → chunk < used → used < length old → IsUsed old used → IsUsed new (used + 1)
used_divided sss old new chunk next used left right was step is l m u =
    let long = ap (λ (qss : List (List KeptSpot)). length qss) was ∙ length_push sss [] in
    let one : used + 1 ≡ suc used = omega arith in
    let rest : all_spots (drop used sss) ≡ [] = none_without_free sss used (ap (λ (qss : List (List KeptSpot)). all_spots (drop used qss)) (sym was) ∙ u.none) in
    record {
      some = omega arith;
      none = ap (λ k. all_spots (drop k new)) one ∙ ap (λ (qss : List (List KeptSpot)). all_spots (drop (suc used) qss)) (is ∙ ap (λ k. insert (set sss chunk left) k right) step)
          ∙ ap all_spots (drop_divided sss chunk used left right l (omega arith)) ∙ rest;
    }
