-- A chunk that is divided, and the free chunk behind all others that makes it possible.
use Rattle.std.proofs.Common.{◌≡◌, ℕ, zero, suc, ◌+◌, ◌-◌, ◌<◌, ◌≤◌, List, [], ◌∷◌, ◌++◌, Option, Some, length, get_or, set, take, drop, refl, ap, subst, sym, ◌∙◌, arith, length-append}
use Rattle.std.specs.List.{insert}
use Rattle.std.specs.Option.{option_to_list}
use Rattle.std.proofs.lemmas.List.{append_assoc, take-append-drop, take-take, drop-take, drop-drop, drop-append-le, length-take-le, length-set, length_push, get_or_push}
use Rattle.std.proofs.lemmas.List.Edits.{length-insert}
use Rattle.extent_map.specs.declared.part.Extent.{Extent}
use Rattle.extent_map.specs.Chunks.{all_parts, chunk_at, parts_before, parts_behind, IsDivided, IsUsed}
use Rattle.extent_map.proofs.InChunks.{all_with_free}
use Rattle.extent_map.proofs.Used.{none_last}

-- THE FREE CHUNK

pub popped : (old pss : List (List Extent)) (last : Option (List Extent)) (fresh : List Extent) (used : ℕ) → old ≡ pss ++ option_to_list last → last ≡ Some fresh → used < length old → IsUsed old used → (fresh ≡ []) × (old ≡ pss ++ [] ∷ [])
popped old pss last fresh used items is free first =
    let whole : old ≡ pss ++ fresh ∷ [] = items ∙ ap (λ (o : Option (List Extent)). pss ++ option_to_list o) is in
    let long : length old ≡ length pss + 1 = ap length whole ∙ length_push pss fresh in
    let place : length pss ≡ length old - 1 = omega arith in
    let read : get_or old (length old - 1) [] ≡ fresh = ap (λ (qss : List (List Extent)). get_or qss (length old - 1) []) whole ∙ get_or_push pss fresh [] (length old - 1) place in
    let none : fresh ≡ [] = sym read ∙ none_last old used [] free first.none in
    (none, whole ∙ ap (λ (f : List Extent). pss ++ f ∷ []) none)

-- ONE CHUNK DIVIDED

-- the chunks where one is divided
abbrev pub halves : List (List Extent) → ℕ → ℕ → List Extent → List (List Extent)
halves pss chunk kept d = insert (set pss chunk (take kept (get_or pss chunk d))) (suc chunk) (drop kept (get_or pss chunk d))

take_apart : (kept more : ℕ) (ps : List Extent) → take kept ps ++ take more (drop kept ps) ≡ take (kept + more) ps
take_apart kept more ps =
    ap (λ (qs : List Extent). qs ++ take more (drop kept ps)) (sym (take-take kept (kept + more) ps (omega arith))) ∙ ap (λ (qs : List Extent). take kept (take (kept + more) ps) ++ qs) (sym (drop-take kept more ps)) ∙ take-append-drop kept (take (kept + more) ps)

drop_apart : (index kept : ℕ) (ps : List Extent) → index ≤ kept → kept ≤ length ps → drop index (take kept ps) ++ drop kept ps ≡ drop index ps
drop_apart index kept ps l m =
    let n = length-take-le kept ps m in
    sym (drop-append-le index (take kept ps) (drop kept ps) (omega arith)) ∙ ap (drop index) (take-append-drop kept ps)

before_left : (pss : List (List Extent)) (chunk kept index : ℕ) (d : List Extent) → chunk < length pss → index ≤ kept → parts_before (halves pss chunk kept d) chunk index ≡ parts_before pss chunk index
before_left [] chunk kept index d l m = absurd (omega arith)
before_left (ps ∷ pss) zero kept index d l m = take-take index kept ps m
before_left (ps ∷ pss) (suc chunk) kept index d l m = ap (λ (qs : List Extent). ps ++ qs) (before_left pss chunk kept index d (omega arith) m)

behind_left : (pss : List (List Extent)) (chunk kept index : ℕ) (d : List Extent) → chunk < length pss → index ≤ kept → kept ≤ length (get_or pss chunk d) → parts_behind (halves pss chunk kept d) chunk index ≡ parts_behind pss chunk index
behind_left [] chunk kept index d l m n = absurd (omega arith)
behind_left (ps ∷ pss) zero kept index d l m n =
    sym (append_assoc (drop index (take kept ps)) (drop kept ps) (all_parts pss)) ∙ ap (λ (qs : List Extent). qs ++ all_parts pss) (drop_apart index kept ps m n)
behind_left (ps ∷ pss) (suc chunk) kept index d l m n = behind_left pss chunk kept index d (omega arith) m n

before_right : (pss : List (List Extent)) (chunk kept more : ℕ) (d : List Extent) → chunk < length pss → parts_before (halves pss chunk kept d) (suc chunk) more ≡ parts_before pss chunk (kept + more)
before_right [] chunk kept more d l = absurd (omega arith)
before_right (ps ∷ pss) zero kept more d l = take_apart kept more ps
before_right (ps ∷ pss) (suc chunk) kept more d l = ap (λ (qs : List Extent). ps ++ qs) (before_right pss chunk kept more d (omega arith))

behind_right : (pss : List (List Extent)) (chunk kept more : ℕ) (d : List Extent) → chunk < length pss → parts_behind (halves pss chunk kept d) (suc chunk) more ≡ parts_behind pss chunk (kept + more)
behind_right [] chunk kept more d l = absurd (omega arith)
behind_right (ps ∷ pss) zero kept more d l = ap (λ (qs : List Extent). qs ++ all_parts pss) (drop-drop more kept ps)
behind_right (ps ∷ pss) (suc chunk) kept more d l = behind_right pss chunk kept more d (omega arith)

at_left : (pss : List (List Extent)) (chunk kept : ℕ) (d : List Extent) → chunk < length pss → chunk_at (halves pss chunk kept d) chunk ≡ take kept (get_or pss chunk d)
at_left [] chunk kept d l = absurd (omega arith)
at_left (ps ∷ pss) zero kept d l = refl
at_left (ps ∷ pss) (suc chunk) kept d l = at_left pss chunk kept d (omega arith)

at_right : (pss : List (List Extent)) (chunk kept : ℕ) (d : List Extent) → chunk < length pss → chunk_at (halves pss chunk kept d) (suc chunk) ≡ drop kept (get_or pss chunk d)
at_right [] chunk kept d l = absurd (omega arith)
at_right (ps ∷ pss) zero kept d l = refl
at_right (ps ∷ pss) (suc chunk) kept d l = at_right pss chunk kept d (omega arith)

-- with a chunk with no part behind the others, all is as without it
before_with_free : (pss : List (List Extent)) (chunk index : ℕ) → chunk < length pss → parts_before (pss ++ [] ∷ []) chunk index ≡ parts_before pss chunk index
before_with_free [] chunk index l = absurd (omega arith)
before_with_free (ps ∷ pss) zero index l = refl
before_with_free (ps ∷ pss) (suc chunk) index l = ap (λ (qs : List Extent). ps ++ qs) (before_with_free pss chunk index (omega arith))

behind_with_free : (pss : List (List Extent)) (chunk index : ℕ) → chunk < length pss → parts_behind (pss ++ [] ∷ []) chunk index ≡ parts_behind pss chunk index
behind_with_free [] chunk index l = absurd (omega arith)
behind_with_free (ps ∷ pss) zero index l = ap (λ (qs : List Extent). drop index ps ++ qs) (all_with_free pss)
behind_with_free (ps ∷ pss) (suc chunk) index l = behind_with_free pss chunk index (omega arith)

pub at_with_free : (pss : List (List Extent)) (chunk : ℕ) (d : List Extent) → chunk < length pss → chunk_at (pss ++ [] ∷ []) chunk ≡ get_or pss chunk d
at_with_free [] chunk d l = absurd (omega arith)
at_with_free (ps ∷ pss) zero d l = refl
at_with_free (ps ∷ pss) (suc chunk) d l = at_with_free pss chunk d (omega arith)

pub divided : (pss old new : List (List Extent)) (chunk next kept : ℕ) (d : List Extent) → old ≡ pss ++ [] ∷ [] → next ≡ suc chunk → new ≡ insert (set pss chunk (take kept (get_or pss chunk d))) next (drop kept (get_or pss chunk d))
    → chunk < length pss → kept ≤ length (get_or pss chunk d) → IsDivided old chunk kept new
divided pss old new chunk next kept d was step is l m =
    let is_halves : new ≡ halves pss chunk kept d = subst (λ i. new ≡ insert (set pss chunk (take kept (get_or pss chunk d))) i (drop kept (get_or pss chunk d))) step is in
    let one : chunk + 1 ≡ suc chunk = omega arith in
    let was_long = length-append pss ([] ∷ []) in
    let same = length-set pss chunk (take kept (get_or pss chunk d)) in
    let is_long = length-insert (set pss chunk (take kept (get_or pss chunk d))) (suc chunk) (drop kept (get_or pss chunk d)) (omega arith) in
    rw (was, is_halves)
    (record {
      len = omega arith;
      known = omega arith;
      left = at_left pss chunk kept d l ∙ ap (take kept) (sym (at_with_free pss chunk d l));
      right = ap (chunk_at (halves pss chunk kept d)) one ∙ at_right pss chunk kept d l ∙ ap (drop kept) (sym (at_with_free pss chunk d l));
      before_left = λ index n. before_left pss chunk kept index d l n ∙ sym (before_with_free pss chunk index l);
      behind_left = λ index n. behind_left pss chunk kept index d l n m ∙ sym (behind_with_free pss chunk index l);
      before_right = λ index n. let e : kept + (index - kept) ≡ index = omega arith in ap (λ n. parts_before (halves pss chunk kept d) n (index - kept)) one ∙ before_right pss chunk kept (index - kept) d l ∙ ap (parts_before pss chunk) e ∙ sym (before_with_free pss chunk index l);
      behind_right = λ index n. let e : kept + (index - kept) ≡ index = omega arith in ap (λ n. parts_behind (halves pss chunk kept d) n (index - kept)) one ∙ behind_right pss chunk kept (index - kept) d l ∙ ap (parts_behind pss chunk) e ∙ sym (behind_with_free pss chunk index l);
    })
