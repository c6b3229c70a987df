-- The first chunks, which are all that may have parts.
use Rattle.std.proofs.Common.{◌≡◌, ℕ, zero, suc, ◌+◌, ◌-◌, ◌<◌, ◌≤◌, List, [], ◌∷◌, ◌++◌, length, get_or, set, take, drop, refl, ap, subst, sym, ◌∙◌, arith}
use Rattle.std.specs.List.{insert}
use Rattle.std.proofs.lemmas.List.{append-nil, take-append-drop, drop-set-lt, length-set, length_push, get_or-take, length-take}
use Rattle.extent_map.specs.declared.part.Extent.{Extent}
use Rattle.extent_map.specs.Parts.{LieInOrder}
use Rattle.extent_map.specs.Chunks.{all_parts, chunk_at, parts_before, parts_behind, FitsAt, IsUsed}
use Rattle.extent_map.proofs.InChunks.{all_joined, all_with_free}

-- NO PARTS

none_front : (xs ys : List Extent) → xs ++ ys ≡ [] → xs ≡ []
none_front [] ys e = refl
none_front (x ∷ xs) ys e = absurd (let long = ap (λ (ps : List Extent). length ps) e in omega arith)

none_back : (xs ys : List Extent) → xs ++ ys ≡ [] → ys ≡ []
none_back [] ys e = e
none_back (x ∷ xs) ys e = absurd (let long = ap (λ (ps : List Extent). length ps) e in omega arith)

none_dropped : (pss : List (List Extent)) (count : ℕ) → all_parts pss ≡ [] → all_parts (drop count pss) ≡ []
none_dropped [] zero e = refl
none_dropped [] (suc count) e = refl
none_dropped (ps ∷ pss) zero e = e
none_dropped (ps ∷ pss) (suc count) e = none_dropped pss count (none_back ps (all_parts pss) e)

-- without those behind, all parts are there
pub all_first : (pss : List (List Extent)) (used : ℕ) → all_parts (drop used pss) ≡ [] → all_parts (take used pss) ≡ all_parts pss
all_first pss used e =
    sym (append-nil (all_parts (take used pss))) ∙ ap (λ (ps : List Extent). all_parts (take used pss) ++ ps) (sym e) ∙ sym (all_joined (take used pss) (drop used pss)) ∙ ap all_parts (take-append-drop used pss)

-- A SPOT AMONG THE FIRST

before_first : (pss : List (List Extent)) (used chunk index : ℕ) → chunk < used → parts_before (take used pss) chunk index ≡ parts_before pss chunk index
before_first pss zero chunk index l = absurd (omega arith)
before_first [] (suc used) chunk index l = refl
before_first (ps ∷ pss) (suc used) zero index l = refl
before_first (ps ∷ pss) (suc used) (suc chunk) index l = ap (λ (qs : List Extent). ps ++ qs) (before_first pss used chunk index (omega arith))

behind_first : (pss : List (List Extent)) (used chunk index : ℕ) → chunk < used → all_parts (drop used pss) ≡ [] → parts_behind (take used pss) chunk index ≡ parts_behind pss chunk index
behind_first pss zero chunk index l e = absurd (omega arith)
behind_first [] (suc used) chunk index l e = refl
behind_first (ps ∷ pss) (suc used) zero index l e = ap (λ (qs : List Extent). drop index ps ++ qs) (all_first pss used e)
behind_first (ps ∷ pss) (suc used) (suc chunk) index l e = behind_first pss used chunk index (omega arith) e

pub chunk_first : (pss : List (List Extent)) (used chunk : ℕ) → chunk < used → chunk_at (take used pss) chunk ≡ chunk_at pss chunk
chunk_first pss used chunk l = get_or-take used pss chunk [] l

pub spot_first : (pss first : List (List Extent)) (used chunk : ℕ) → first ≡ take used pss → chunk < length first → (chunk < used) × (chunk < length pss)
spot_first pss first used chunk is h =
    let same = ap (λ (qss : List (List Extent)). length qss) is in
    let long = length-take used pss in
    (omega arith, omega arith)

pub some_first : (pss first : List (List Extent)) (used : ℕ) → first ≡ take used pss → 1 ≤ length pss → 1 ≤ used → 0 < length first
some_first pss first used is l some =
    let same = ap (λ (qss : List (List Extent)). length qss) is in
    let long = length-take used pss in
    omega arith

pub parts_first : (pss first : List (List Extent)) (used : ℕ) → first ≡ take used pss → all_parts (drop used pss) ≡ [] → all_parts first ≡ all_parts pss
parts_first pss first used is e = ap all_parts is ∙ all_first pss used e

pub fits_first : (pss first : List (List Extent)) (size used chunk index : ℕ) (p : Extent) → first ≡ take used pss → all_parts (drop used pss) ≡ [] → FitsAt first size chunk index p → FitsAt pss size chunk index p
fits_first pss first size used chunk index p is e h =
    let f = subst (λ (qss : List (List Extent)). FitsAt qss size chunk index p) is h in
    let k = spot_first pss first used chunk is h.spot.known in
    record {
      spot = record {
        known = k.1;
        within = subst (λ (ps : List Extent). index ≤ length ps) (chunk_first pss used chunk k.0) f.spot.within;
      };
      before = subst (λ (ps : List Extent). LieInOrder 0 ps p.place) (before_first pss used chunk index k.0) f.before;
      behind = subst (λ (ps : List Extent). LieInOrder (p.place + p.length) ps size) (behind_first pss used chunk index k.0 e) f.behind;
    }

-- THE FIRST CHUNKS AFTER A CHANGE

pub used_set : (pss : List (List Extent)) (used chunk : ℕ) (ps : List Extent) → chunk < used → IsUsed pss used → IsUsed (set pss chunk ps) used
used_set pss used chunk ps l u = record {
  some = u.some;
  within = λ more. let n = length-set pss chunk ps in let w = u.within more in omega arith;
  none = ap all_parts (drop-set-lt used pss chunk ps l) ∙ u.none;
}

-- a chunk with no part behind the others
pub none_with_free : (pss : List (List Extent)) (used : ℕ) → all_parts (drop used pss) ≡ [] → all_parts (drop used (pss ++ [] ∷ [])) ≡ []
none_with_free [] zero e = refl
none_with_free [] (suc used) e = none_dropped [] used refl
none_with_free (ps ∷ pss) zero e = all_with_free (ps ∷ pss) ∙ e
none_with_free (ps ∷ pss) (suc used) e = none_with_free pss used e

none_without_free : (pss : List (List Extent)) (used : ℕ) → all_parts (drop used (pss ++ [] ∷ [])) ≡ [] → all_parts (drop used pss) ≡ []
none_without_free [] zero e = refl
none_without_free [] (suc used) e = refl
none_without_free (ps ∷ pss) zero e = sym (all_with_free (ps ∷ pss)) ∙ e
none_without_free (ps ∷ pss) (suc used) e = none_without_free pss used e

pub used_pushed : (old new : List (List Extent)) (used : ℕ) → new ≡ old ++ [] ∷ [] → IsUsed old used → IsUsed new used
used_pushed old new used is u = record {
  some = u.some;
  within = λ more. let long = ap (λ (qss : List (List Extent)). length qss) is ∙ length_push old [] in let w = u.within more in omega arith;
  none = ap (λ (qss : List (List Extent)). all_parts (drop used qss)) is ∙ none_with_free old used u.none;
}

-- all but that last chunk
last_free : (pss : List (List Extent)) → all_parts (drop (length pss) (pss ++ [] ∷ [])) ≡ []
last_free [] = refl
last_free (ps ∷ pss) = last_free pss

pub used_merged : (pss new : List (List Extent)) (used : ℕ) → new ≡ pss ++ [] ∷ [] → used ≡ length pss → 1 ≤ used → IsUsed new used
used_merged pss new used is n some = record {
  some = some;
  within = λ more. let long = ap (λ (qss : List (List Extent)). length qss) is ∙ length_push pss [] in omega arith;
  none = ap (λ (qss : List (List Extent)). all_parts (drop used qss)) is ∙ ap (λ k. all_parts (drop k (pss ++ [] ∷ []))) n ∙ last_free pss;
}

-- the last chunk, where not all are used, has no part
none_at : (pss : List (List Extent)) (k : ℕ) (d : List Extent) → k < length pss → all_parts pss ≡ [] → get_or pss k d ≡ []
none_at [] k d l e = absurd (omega arith)
none_at (ps ∷ pss) zero d l e = none_front ps (all_parts pss) e
none_at (ps ∷ pss) (suc k) d l e = none_at pss k d (omega arith) (none_back ps (all_parts pss) e)

pub none_last : (pss : List (List Extent)) (used : ℕ) (d : List Extent) → used < length pss → all_parts (drop used pss) ≡ [] → get_or pss (length pss - 1) d ≡ []
none_last [] used d l e = absurd (omega arith)
none_last (ps ∷ pss) zero d l e = none_at (ps ∷ pss) (length (ps ∷ pss) - 1) d (omega arith) e
none_last (ps ∷ []) (suc used) d l e = absurd (omega arith)
none_last (ps ∷ qs ∷ pss) (suc used) d l e =
    let is : length (ps ∷ qs ∷ pss) - 1 ≡ suc (length (qs ∷ pss) - 1) = omega arith in
    ap (λ k. get_or (ps ∷ qs ∷ pss) k d) is ∙ none_last (qs ∷ pss) used d (omega arith) e

-- one chunk divided
drop_divided : (pss : List (List Extent)) (chunk used : ℕ) (left right : List Extent) → chunk < used → used ≤ length pss → drop (suc used) (insert (set pss chunk left) (suc chunk) right) ≡ drop used pss
drop_divided [] chunk used left right l m = absurd (omega arith)
drop_divided (ps ∷ pss) chunk zero left right l m = absurd (omega arith)
drop_divided (ps ∷ pss) zero (suc used) left right l m = refl
drop_divided (ps ∷ pss) (suc chunk) (suc used) left right l m = drop_divided pss chunk used left right (omega arith) (omega arith)

pub used_divided : (pss old new : List (List Extent)) (chunk next used : ℕ) (left right : List Extent) → old ≡ pss ++ [] ∷ [] → next ≡ suc chunk → new ≡ insert (set pss chunk left) next right → length new ≡ length old → chunk < used → used < length old → IsUsed old used
    → IsUsed new (used + 1)
used_divided pss old new chunk next used left right was step is n l m u =
    let long = ap (λ (qss : List (List Extent)). length qss) was ∙ length_push pss [] in
    let one : used + 1 ≡ suc used = omega arith in
    let rest : all_parts (drop used pss) ≡ [] = none_without_free pss used (ap (λ (qss : List (List Extent)). all_parts (drop used qss)) (sym was) ∙ u.none) in
    record {
      some = omega arith;
      within = λ more. omega arith;
      none = ap (λ k. all_parts (drop k new)) one ∙ ap (λ (qss : List (List Extent)). all_parts (drop (suc used) qss)) (is ∙ ap (λ k. insert (set pss chunk left) k right) step)
          ∙ ap all_parts (drop_divided pss chunk used left right l (omega arith)) ∙ rest;
    }
