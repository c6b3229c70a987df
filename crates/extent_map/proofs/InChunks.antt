-- Parts in chunks: before and behind a spot, and after a change of one chunk.
use Rattle.std.proofs.Common.{◌≡◌, ℕ, zero, suc, ◌+◌, ◌<◌, ◌≤◌, List, [], ◌∷◌, ◌++◌, length, get_or, set, take, drop, refl, ap, subst, sym, ◌∙◌, arith}
use Rattle.std.specs.List.{insert, remove}
use Rattle.std.proofs.lemmas.List.{append_assoc, append-nil, take-append-drop, drop_all, drop_more, length-set, get_or-set_same, get_or_default}
use Rattle.std.proofs.lemmas.List.Edits.{get_or-remove_below}
use Rattle.extent_map.specs.declared.part.Extent.{Extent}
use Rattle.extent_map.specs.Parts.{end_of, LieInOrder}
use Rattle.extent_map.specs.Holes.{last_end}
use Rattle.extent_map.specs.Chunks.{all_parts, chunk_at, parts_before, parts_behind}
use Rattle.extent_map.proofs.Order.{back, earlier, front, joined, later, low_high, removed}

-- ALL PARTS

pub all_joined : (xs ys : List (List Extent)) → all_parts (xs ++ ys) ≡ all_parts xs ++ all_parts ys
all_joined [] ys = refl
all_joined (x ∷ xs) ys = ap (λ (ps : List Extent). x ++ ps) (all_joined xs ys) ∙ sym (append_assoc x (all_parts xs) (all_parts ys))

-- a chunk with no part behind the others changes nothing
pub all_with_free : (xs : List (List Extent)) → all_parts (xs ++ [] ∷ []) ≡ all_parts xs
all_with_free xs = all_joined xs ([] ∷ []) ∙ append-nil (all_parts xs)

pub none_of_all : (pss : List (List Extent)) → ((k : ℕ) → chunk_at pss k ≡ []) → all_parts pss ≡ []
none_of_all [] h = refl
none_of_all (ps ∷ pss) h = ap (λ (qs : List Extent). qs ++ all_parts pss) (h zero) ∙ none_of_all pss (λ k. h (suc k))

-- BEFORE AND BEHIND A SPOT

pub around : (pss : List (List Extent)) (chunk index : ℕ) → all_parts pss ≡ parts_before pss chunk index ++ parts_behind pss chunk index
around [] chunk index = refl
around (ps ∷ pss) zero index = ap (λ (qs : List Extent). qs ++ all_parts pss) (sym (take-append-drop index ps)) ∙ append_assoc (take index ps) (drop index ps) (all_parts pss)
around (ps ∷ pss) (suc chunk) index = ap (λ (qs : List Extent). ps ++ qs) (around pss chunk index) ∙ sym (append_assoc ps (parts_before pss chunk index) (parts_behind pss chunk index))

pub before_first : (pss : List (List Extent)) → parts_before pss 0 0 ≡ []
before_first [] = refl
before_first (ps ∷ pss) = refl

behind_first : (pss : List (List Extent)) → parts_behind pss 0 0 ≡ all_parts pss
behind_first [] = refl
behind_first (ps ∷ pss) = refl

pub before_in : (pss : List (List Extent)) (chunk index : ℕ) (d : List Extent) → chunk < length pss → parts_before pss chunk index ≡ parts_before pss chunk 0 ++ take index (get_or pss chunk d)
before_in [] chunk index d l = absurd (omega arith)
before_in (ps ∷ pss) zero index d l = refl
before_in (ps ∷ pss) (suc chunk) index d l = ap (λ (qs : List Extent). ps ++ qs) (before_in pss chunk index d (omega arith)) ∙ sym (append_assoc ps (parts_before pss chunk 0) (take index (get_or pss chunk d)))

pub behind_in : (pss : List (List Extent)) (chunk index : ℕ) (d : List Extent) → chunk < length pss → parts_behind pss chunk index ≡ drop index (get_or pss chunk d) ++ parts_behind pss (suc chunk) 0
behind_in [] chunk index d l = absurd (omega arith)
behind_in (ps ∷ pss) zero index d l = ap (λ (qs : List Extent). drop index ps ++ qs) (sym (behind_first pss))
behind_in (ps ∷ pss) (suc chunk) index d l = behind_in pss chunk index d (omega arith)

pub before_next : (pss : List (List Extent)) (chunk : ℕ) (d : List Extent) → chunk < length pss → parts_before pss (suc chunk) 0 ≡ parts_before pss chunk 0 ++ get_or pss chunk d
before_next [] chunk d l = absurd (omega arith)
before_next (ps ∷ pss) zero d l = ap (λ (qs : List Extent). ps ++ qs) (before_first pss) ∙ append-nil ps
before_next (ps ∷ pss) (suc chunk) d l = ap (λ (qs : List Extent). ps ++ qs) (before_next pss chunk d (omega arith)) ∙ sym (append_assoc ps (parts_before pss chunk 0) (get_or pss chunk d))

pub before_all : (pss : List (List Extent)) (chunk : ℕ) → length pss ≤ chunk → parts_before pss chunk 0 ≡ all_parts pss
before_all [] chunk l = refl
before_all (ps ∷ pss) zero l = absurd (omega arith)
before_all (ps ∷ pss) (suc chunk) l = ap (λ (qs : List Extent). ps ++ qs) (before_all pss chunk (omega arith))

-- behind the end of the last chunk that has parts there is none
pub behind_last : (pss : List (List Extent)) (chunk index : ℕ) → length (chunk_at pss chunk) ≤ index → ((k : ℕ) → chunk < k → chunk_at pss k ≡ []) → parts_behind pss chunk index ≡ []
behind_last [] chunk index l h = refl
behind_last (ps ∷ pss) zero index l h = ap (λ (qs : List Extent). qs ++ all_parts pss) (drop_all index ps l) ∙ none_of_all pss (λ k. h (suc k) (omega arith))
behind_last (ps ∷ pss) (suc chunk) index l h = behind_last pss chunk index l (λ k m. h (suc k) (omega arith))

-- ORDER IN ONE CHUNK

pub chunk_order : (low : ℕ) (pss : List (List Extent)) (size chunk : ℕ) (d : List Extent) → chunk < length pss → LieInOrder low (all_parts pss) size → LieInOrder low (get_or pss chunk d) size
chunk_order low [] size chunk d l h = absurd (omega arith)
chunk_order low (ps ∷ pss) size zero d l h = later low ps (last_end low ps) size (front low ps (all_parts pss) size h) (low_high (last_end low ps) (all_parts pss) size (back low ps (all_parts pss) size h))
chunk_order low (ps ∷ pss) size (suc chunk) d l h =
    earlier low (last_end low ps) (get_or pss chunk d) size (low_high low ps (last_end low ps) (front low ps (all_parts pss) size h)) (chunk_order (last_end low ps) pss size chunk d (omega arith) (back low ps (all_parts pss) size h))

-- from the place on where the chunks before it end
pub chunk_order_from : (pss : List (List Extent)) (size chunk : ℕ) (d : List Extent) → chunk < length pss → LieInOrder 0 (all_parts pss) size → LieInOrder (last_end 0 (parts_before pss chunk 0)) (get_or pss chunk d) size
chunk_order_from pss size chunk d l h =
    let before = parts_before pss chunk 0 in
    let behind = parts_behind pss (suc chunk) 0 in
    let own = get_or pss chunk d in
    let parted = subst (λ (ps : List Extent). LieInOrder 0 ps size) (around pss chunk 0 ∙ ap (λ (ps : List Extent). before ++ ps) (behind_in pss chunk 0 d l)) h in
    let rest = back 0 before (own ++ behind) size parted in
    later (last_end 0 before) own (last_end (last_end 0 before) own) size (front (last_end 0 before) own behind size rest) (low_high (last_end (last_end 0 before) own) behind size (back (last_end 0 before) own behind size rest))

-- what is written to a chunk lies in order where all parts do afterwards
pub written_order : (pss : List (List Extent)) (size chunk : ℕ) (new : List Extent) → chunk < length pss → LieInOrder 0 (all_parts (set pss chunk new)) size → LieInOrder 0 new size
written_order pss size chunk new l h =
    let n = length-set pss chunk new in
    subst (λ (ps : List Extent). LieInOrder 0 ps size) (get_or-set_same pss chunk new [] l) (chunk_order 0 (set pss chunk new) size chunk [] (omega arith) h)

-- ONE CHUNK CHANGED

pub put_parts : (pss : List (List Extent)) (chunk index : ℕ) (d : List Extent) (p : Extent) → chunk < length pss → all_parts (set pss chunk (insert (get_or pss chunk d) index p)) ≡ parts_before pss chunk index ++ p ∷ parts_behind pss chunk index
put_parts [] chunk index d p l = absurd (omega arith)
put_parts (ps ∷ pss) zero index d p l = append_assoc (take index ps) (p ∷ drop index ps) (all_parts pss)
put_parts (ps ∷ pss) (suc chunk) index d p l = ap (λ (qs : List Extent). ps ++ qs) (put_parts pss chunk index d p (omega arith)) ∙ sym (append_assoc ps (parts_before pss chunk index) (p ∷ parts_behind pss chunk index))

pub left_parts : (pss : List (List Extent)) (chunk index : ℕ) (d : List Extent) → chunk < length pss → all_parts (set pss chunk (remove (get_or pss chunk d) index)) ≡ parts_before pss chunk index ++ parts_behind pss chunk (suc index)
left_parts [] chunk index d l = absurd (omega arith)
left_parts (ps ∷ pss) zero index d l = append_assoc (take index ps) (drop (suc index) ps) (all_parts pss)
left_parts (ps ∷ pss) (suc chunk) index d l = ap (λ (qs : List Extent). ps ++ qs) (left_parts pss chunk index d (omega arith)) ∙ sym (append_assoc ps (parts_before pss chunk index) (parts_behind pss chunk (suc index)))

-- TWO CHUNKS MERGED

pub merged_parts : (pss : List (List Extent)) (chunk : ℕ) (d : List Extent) → chunk + 1 < length pss → all_parts (set (remove pss (suc chunk)) chunk (get_or pss chunk d ++ get_or pss (suc chunk) d)) ≡ all_parts pss
merged_parts [] chunk d l = absurd (omega arith)
merged_parts (p ∷ []) chunk d l = absurd (omega arith)
merged_parts (p ∷ q ∷ pss) zero d l = append_assoc p q (all_parts pss)
merged_parts (p ∷ q ∷ pss) (suc chunk) d l = ap (λ (qs : List Extent). p ++ qs) (merged_parts (q ∷ pss) chunk d (omega arith))

-- THE SAME, AS THE CHANGES SAY IT

pub entered_parts : (pss : List (List Extent)) (chunk index : ℕ) (read : List Extent) (p : Extent) → read ≡ get_or pss chunk read → chunk < length pss
    → all_parts (set pss chunk (insert read index p)) ≡ parts_before pss chunk index ++ p ∷ parts_behind pss chunk index
entered_parts pss chunk index read p is l = ap (λ (qs : List Extent). all_parts (set pss chunk (insert qs index p))) is ∙ put_parts pss chunk index read p l

pub entered_order : (pss : List (List Extent)) (size chunk index : ℕ) (p : Extent) → LieInOrder 0 (parts_before pss chunk index) p.place → LieInOrder (end_of p) (parts_behind pss chunk index) size → 1 ≤ p.length
    → LieInOrder 0 (parts_before pss chunk index ++ p ∷ parts_behind pss chunk index) size
entered_order pss size chunk index p before behind some = joined 0 (parts_before pss chunk index) (p ∷ parts_behind pss chunk index) p.place size before (omega arith, some, behind)

pub taken_parts : (pss : List (List Extent)) (chunk index : ℕ) (read : List Extent) → read ≡ get_or pss chunk read → chunk < length pss
    → all_parts (set pss chunk (remove read index)) ≡ parts_before pss chunk index ++ parts_behind pss chunk (suc index)
taken_parts pss chunk index read is l = ap (λ (qs : List Extent). all_parts (set pss chunk (remove qs index))) is ∙ left_parts pss chunk index read l

pub behind_more : (pss : List (List Extent)) (chunk index : ℕ) (e : Extent) → chunk < length pss → index < length (chunk_at pss chunk) → parts_behind pss chunk index ≡ get_or (chunk_at pss chunk) index e ∷ parts_behind pss chunk (suc index)
behind_more [] chunk index e l m = absurd (omega arith)
behind_more (ps ∷ pss) zero index e l m =
    let one : index + 1 ≡ suc index = omega arith in
    ap (λ (qs : List Extent). qs ++ all_parts pss) (drop_more ps index e m ∙ ap (λ n. get_or ps index e ∷ drop n ps) one)
behind_more (ps ∷ pss) (suc chunk) index e l m = behind_more pss chunk index e (omega arith) m

pub taken_order : (pss : List (List Extent)) (size chunk index : ℕ) → chunk < length pss → index < length (chunk_at pss chunk) → LieInOrder 0 (all_parts pss) size
    → LieInOrder 0 (parts_before pss chunk index ++ parts_behind pss chunk (suc index)) size
taken_order pss size chunk index l m h =
    let p = get_or (chunk_at pss chunk) index (record { place = 0; length = 0 }) in
    let parted = around pss chunk index ∙ ap (λ (ps : List Extent). parts_before pss chunk index ++ ps) (behind_more pss chunk index (record { place = 0; length = 0 }) l m) in
    removed 0 (parts_before pss chunk index) (parts_behind pss chunk (suc index)) p size (subst (λ (ps : List Extent). LieInOrder 0 ps size) parted h)

pub joined_parts : (old rest : List (List Extent)) (chunk next : ℕ) (read gone : List Extent) → next ≡ suc chunk → rest ≡ remove old next → read ≡ get_or rest chunk read → gone ≡ get_or old next gone → next < length old
    → all_parts (set rest chunk (read ++ gone)) ≡ all_parts old
joined_parts old rest chunk next read gone step rest_is read_is gone_is l =
    let first : read ≡ get_or old chunk read = read_is ∙ ap (λ (qss : List (List Extent)). get_or qss chunk read) rest_is ∙ get_or-remove_below old next read chunk (omega arith) l in
    let second : gone ≡ get_or old (suc chunk) read = gone_is ∙ get_or_default old next gone read l ∙ ap (λ n. get_or old n read) step in
    let whole : rest ≡ remove old (suc chunk) = rest_is ∙ ap (remove old) step in
    ap (λ (qss : List (List Extent)). all_parts (set qss chunk (read ++ gone))) whole
    ∙ ap (λ (qs : List Extent). all_parts (set (remove old (suc chunk)) chunk (read ++ qs))) second
    ∙ ap (λ (qs : List Extent). all_parts (set (remove old (suc chunk)) chunk (qs ++ get_or old (suc chunk) read))) first
    ∙ merged_parts old chunk read (omega arith)

pub fits_order : (pss : List (List Extent)) (size chunk index : ℕ) (p : Extent) → LieInOrder 0 (parts_before pss chunk index) p.place → LieInOrder (end_of p) (parts_behind pss chunk index) size → LieInOrder 0 (all_parts pss) size
fits_order pss size chunk index p before behind =
    subst (λ (ps : List Extent). LieInOrder 0 ps size) (sym (around pss chunk index))
    (joined 0 (parts_before pss chunk index) (parts_behind pss chunk index) p.place size before (earlier p.place (end_of p) (parts_behind pss chunk index) size (omega arith) behind))
