-- Keys in chunks: what a change of one chunk is for them all.
use Rattle.std.proofs.Common.{ℕ, zero, suc, ◌≡◌, ◌+◌, ◌<◌, ◌≤◌, List, [], ◌∷◌, ◌++◌, length, get_or, set, take, drop, Some, None, IsSome, Bool, true, false, cond, find, refl, ap, subst, sym, ◌∙◌, arith, length-append}
use Rattle.std.specs.List.{insert, remove}
use Rattle.std.specs.Option.{option_map}
use Rattle.std.proofs.lemmas.List.{append_assoc, append-nil, take-append-drop, get_or_default, length-drop, length-set, length-take-le}
use Rattle.std.proofs.lemmas.List.Edits.{get_or-remove_below, length-insert}
use Rattle.metatile_plan.specs.declared.metatile.MetaKey.{MetaKey}
use Rattle.metatile_plan.specs.Keys.{same_meta}
use Rattle.kept_areas.specs.declared.spot.KeptSpot.{KeptSpot}
use Rattle.kept_areas.specs.Areas.{all_spots, is_spot_of, number_in}
use Rattle.kept_areas.specs.Kept.{IsEntered, chunk_at}

-- ALL KEYS

pub all_joined : (xs ys : List (List KeptSpot)) → all_spots (xs ++ ys) ≡ all_spots xs ++ all_spots ys
all_joined [] ys = refl
all_joined (x ∷ xs) ys = ap (λ (zs : List KeptSpot). x ++ zs) (all_joined xs ys) ∙ sym (append_assoc x (all_spots xs) (all_spots ys))

-- a chunk with no key behind the others changes nothing
pub all_with_free : (xs : List (List KeptSpot)) → all_spots (xs ++ [] ∷ []) ≡ all_spots xs
all_with_free xs = all_joined xs ([] ∷ []) ∙ append-nil (all_spots xs)

taken_next : (sss : List (List KeptSpot)) (n : ℕ) (d : List KeptSpot) → n < length sss → all_spots (take (suc n) sss) ≡ all_spots (take n sss) ++ get_or sss n d
taken_next [] n d l = absurd (omega arith)
taken_next (ss ∷ sss) zero d l = append-nil ss
taken_next (ss ∷ sss) (suc n) d l = ap (λ (zs : List KeptSpot). ss ++ zs) (taken_next sss n d (omega arith)) ∙ sym (append_assoc ss (all_spots (take n sss)) (get_or sss n d))

pub taken_more : (sss : List (List KeptSpot)) (n : ℕ) (d : List KeptSpot) → n < length sss → all_spots (take (n + 1) sss) ≡ all_spots (take n sss) ++ get_or sss n d
taken_more sss n d l = let one : n + 1 ≡ suc n = omega arith in ap (λ (k : ℕ). all_spots (take k sss)) one ∙ taken_next sss n d l

pub taken_all : (sss : List (List KeptSpot)) (n : ℕ) → length sss ≤ n → take n sss ≡ sss
taken_all [] zero l = refl
taken_all [] (suc n) l = refl
taken_all (ss ∷ sss) zero l = absurd (omega arith)
taken_all (ss ∷ sss) (suc n) l = ap (λ zs. ss ∷ zs) (taken_all sss n (omega arith))

-- WHAT IS THERE

pub number_joined : (m : MetaKey) (xs ys : List KeptSpot) → number_in xs m ≡ None → number_in (xs ++ ys) m ≡ number_in ys m
number_joined m [] ys e = refl
number_joined m (s ∷ ss) ys e = chosen (same_meta s.meta m) e (number_joined m ss ys)
  where
    chosen : (b : Bool) → option_map (λ (x : KeptSpot). x.number) (cond b (Some s) (find (is_spot_of m) ss)) ≡ None → (number_in ss m ≡ None → number_in (ss ++ ys) m ≡ number_in ys m)
        → option_map (λ (x : KeptSpot). x.number) (cond b (Some s) (find (is_spot_of m) (ss ++ ys))) ≡ number_in ys m
    chosen true e k = absurd (cc)
    chosen false e k = k e

pub none_left : (m : MetaKey) (xs ys : List KeptSpot) → number_in (xs ++ ys) m ≡ None → number_in xs m ≡ None
none_left m [] ys e = refl
none_left m (s ∷ ss) ys e = chosen (same_meta s.meta m) e (none_left m ss ys)
  where
    chosen : (b : Bool) → option_map (λ (x : KeptSpot). x.number) (cond b (Some s) (find (is_spot_of m) (ss ++ ys))) ≡ None → (number_in (ss ++ ys) m ≡ None → number_in ss m ≡ None)
        → option_map (λ (x : KeptSpot). x.number) (cond b (Some s) (find (is_spot_of m) ss)) ≡ None
    chosen true e k = absurd (cc)
    chosen false e k = k e

there_left : (m : MetaKey) (xs ys : List KeptSpot) → IsSome (number_in xs m) → IsSome (number_in (xs ++ ys) m)
there_left m [] ys h = absurd (cc)
there_left m (s ∷ ss) ys h = chosen (same_meta s.meta m) h (there_left m ss ys)
  where
    chosen : (b : Bool) → IsSome (option_map (λ (x : KeptSpot). x.number) (cond b (Some s) (find (is_spot_of m) ss))) → (IsSome (number_in ss m) → IsSome (number_in (ss ++ ys) m))
        → IsSome (option_map (λ (x : KeptSpot). x.number) (cond b (Some s) (find (is_spot_of m) (ss ++ ys))))
    chosen true h k = refl
    chosen false h k = k h

there_right : (m : MetaKey) (xs ys : List KeptSpot) → IsSome (number_in ys m) → IsSome (number_in (xs ++ ys) m)
there_right m [] ys h = h
there_right m (s ∷ ss) ys h = chosen (same_meta s.meta m) (there_right m ss ys h)
  where
    chosen : (b : Bool) → IsSome (number_in (ss ++ ys) m) → IsSome (option_map (λ (x : KeptSpot). x.number) (cond b (Some s) (find (is_spot_of m) (ss ++ ys))))
    chosen true h = refl
    chosen false h = h

-- what is in a chunk is among all
pub there_in : (m : MetaKey) (sss : List (List KeptSpot)) (chunk : ℕ) (d : List KeptSpot) → chunk < length sss → IsSome (number_in (get_or sss chunk d) m) → IsSome (number_in (all_spots sss) m)
there_in m [] chunk d l h = absurd (omega arith)
there_in m (ss ∷ sss) zero d l h = there_left m ss (all_spots sss) h
there_in m (ss ∷ sss) (suc chunk) d l h = there_right m ss (all_spots sss) (there_in m sss chunk d (omega arith) h)

-- ONE KEY MORE

pub inserted : (s : KeptSpot) (ss : List KeptSpot) (i : ℕ) → i ≤ length ss → IsEntered s ss (insert ss i s)
inserted s ss zero l = record { before = []; behind = ss; old_is = refl; new_is = refl }
inserted s [] (suc i) l = absurd (omega arith)
inserted s (t ∷ ss) (suc i) l =
    let e = inserted s ss i (omega arith) in
    record { before = t ∷ e.before; behind = e.behind; old_is = ap (λ zs. t ∷ zs) e.old_is; new_is = ap (λ zs. t ∷ zs) e.new_is }

pub removed : (ss : List KeptSpot) (i : ℕ) (d : KeptSpot) → i < length ss → IsEntered (get_or ss i d) (remove ss i) ss
removed [] i d l = absurd (omega arith)
removed (t ∷ ss) zero d l = record { before = []; behind = ss; old_is = refl; new_is = refl }
removed (t ∷ ss) (suc i) d l =
    let e = removed ss i d (omega arith) in
    record { before = t ∷ e.before; behind = e.behind; old_is = ap (λ zs. t ∷ zs) e.old_is; new_is = ap (λ zs. t ∷ zs) e.new_is }

widely : (s : KeptSpot) (xs old new zs : List KeptSpot) → IsEntered s old new → IsEntered s (xs ++ (old ++ zs)) (xs ++ (new ++ zs))
widely s xs old new zs e =
    record {
      before = xs ++ e.before;
      behind = e.behind ++ zs;
      old_is = ap (λ ts. xs ++ (ts ++ zs)) e.old_is ∙ ap (λ ts. xs ++ ts) (append_assoc e.before e.behind zs) ∙ sym (append_assoc xs e.before (e.behind ++ zs));
      new_is = ap (λ ts. xs ++ (ts ++ zs)) e.new_is ∙ ap (λ ts. xs ++ ts) (append_assoc e.before (s ∷ e.behind) zs) ∙ sym (append_assoc xs e.before (s ∷ (e.behind ++ zs)));
    }

-- a key more in a chunk is one more among all
pub entered_in : (s : KeptSpot) (sss : List (List KeptSpot)) (chunk : ℕ) (d new : List KeptSpot) → chunk < length sss → IsEntered s (get_or sss chunk d) new → IsEntered s (all_spots sss) (all_spots (set sss chunk new))
entered_in s [] chunk d new l e = absurd (omega arith)
entered_in s (ss ∷ sss) zero d new l e = widely s [] ss new (all_spots sss) e
entered_in s (ss ∷ sss) (suc chunk) d new l e =
    let f = entered_in s sss chunk d new (omega arith) e in
    record {
      before = ss ++ f.before;
      behind = f.behind;
      old_is = ap (λ ts. ss ++ ts) f.old_is ∙ sym (append_assoc ss f.before f.behind);
      new_is = ap (λ ts. ss ++ ts) f.new_is ∙ sym (append_assoc ss f.before (s ∷ f.behind));
    }

-- and so is one fewer
pub left_in : (s : KeptSpot) (sss : List (List KeptSpot)) (chunk : ℕ) (d left : List KeptSpot) → chunk < length sss → IsEntered s left (get_or sss chunk d) → IsEntered s (all_spots (set sss chunk left)) (all_spots sss)
left_in s [] chunk d left l e = absurd (omega arith)
left_in s (ss ∷ sss) zero d left l e = widely s [] left ss (all_spots sss) e
left_in s (ss ∷ sss) (suc chunk) d left l e =
    let f = left_in s sss chunk d left (omega arith) e in
    record {
      before = ss ++ f.before;
      behind = f.behind;
      old_is = ap (λ ts. ss ++ ts) f.old_is ∙ sym (append_assoc ss f.before f.behind);
      new_is = ap (λ ts. ss ++ ts) f.new_is ∙ sym (append_assoc ss f.before (s ∷ f.behind));
    }

pub entered_length : (s : KeptSpot) (old new : List KeptSpot) → IsEntered s old new → length new ≡ length old + 1
entered_length s old new e =
    let a = length-append e.before e.behind in let b = length-append e.before (s ∷ e.behind) in
    let c = ap (λ (zs : List KeptSpot). length zs) e.old_is in let d = ap (λ (zs : List KeptSpot). length zs) e.new_is in omega arith

-- TWO CHUNKS

-- the chunks where one is divided
abbrev pub halves : List (List KeptSpot) → ℕ → ℕ → List KeptSpot → List (List KeptSpot)
halves sss chunk kept d = insert (set sss chunk (take kept (get_or sss chunk d))) (suc chunk) (drop kept (get_or sss chunk d))

pub halves_spots : (sss : List (List KeptSpot)) (chunk kept : ℕ) (d : List KeptSpot) → chunk < length sss → all_spots (halves sss chunk kept d) ≡ all_spots sss
halves_spots [] chunk kept d l = absurd (omega arith)
halves_spots (ss ∷ sss) zero kept d l =
    sym (append_assoc (take kept ss) (drop kept ss) (all_spots sss)) ∙ ap (λ (zs : List KeptSpot). zs ++ all_spots sss) (take-append-drop kept ss)
halves_spots (ss ∷ sss) (suc chunk) kept d l = ap (λ (zs : List KeptSpot). ss ++ zs) (halves_spots sss chunk kept d (omega arith))

pub at_left : (sss : List (List KeptSpot)) (chunk kept : ℕ) (d : List KeptSpot) → chunk < length sss → chunk_at (halves sss chunk kept d) chunk ≡ take kept (get_or sss chunk d)
at_left [] chunk kept d l = absurd (omega arith)
at_left (ss ∷ sss) zero kept d l = refl
at_left (ss ∷ sss) (suc chunk) kept d l = at_left sss chunk kept d (omega arith)

pub at_right : (sss : List (List KeptSpot)) (chunk kept : ℕ) (d : List KeptSpot) → chunk < length sss → chunk_at (halves sss chunk kept d) (suc chunk) ≡ drop kept (get_or sss chunk d)
at_right [] chunk kept d l = absurd (omega arith)
at_right (ss ∷ sss) zero kept d l = refl
at_right (ss ∷ sss) (suc chunk) kept d l = at_right sss chunk kept d (omega arith)

pub at_with_free : (sss : List (List KeptSpot)) (chunk : ℕ) (d : List KeptSpot) → chunk < length sss → chunk_at (sss ++ [] ∷ []) chunk ≡ get_or sss chunk d
at_with_free [] chunk d l = absurd (omega arith)
at_with_free (ss ∷ sss) zero d l = refl
at_with_free (ss ∷ sss) (suc chunk) d l = at_with_free sss chunk d (omega arith)

-- a chunk is divided, with the free one behind all others
pub record IsDivided (old : List (List KeptSpot)) (chunk kept : ℕ) (new : List (List KeptSpot)) : Type 0 where
  pub spots : all_spots new ≡ all_spots old
  pub len : length new ≡ length old
  pub known : chunk + 1 < length new
  pub left : length (chunk_at new chunk) ≡ kept
  pub right : length (chunk_at new (chunk + 1)) + kept ≡ length (chunk_at old chunk)

pub divided : (sss old new : List (List KeptSpot)) (chunk next kept : ℕ) (d : List KeptSpot) → old ≡ sss ++ [] ∷ [] → next ≡ suc chunk → new ≡ insert (set sss chunk (take kept (get_or sss chunk d))) next (drop kept (get_or sss chunk d))
    → chunk < length sss → kept ≤ length (get_or sss chunk d) → IsDivided old chunk kept new
divided sss old new chunk next kept d was step is l m =
    let is_halves : new ≡ halves sss chunk kept d = subst (λ i. new ≡ insert (set sss chunk (take kept (get_or sss chunk d))) i (drop kept (get_or sss chunk d))) step is in
    let one : chunk + 1 ≡ suc chunk = omega arith in
    let was_long = length-append sss ([] ∷ []) in
    let same = length-set sss chunk (take kept (get_or sss chunk d)) in
    let is_long = length-insert (set sss chunk (take kept (get_or sss chunk d))) (suc chunk) (drop kept (get_or sss chunk d)) (omega arith) in
    let first = length-take-le kept (get_or sss chunk d) m in
    let behind = ap (λ (zs : List KeptSpot). length zs) (ap (λ n. chunk_at (halves sss chunk kept d) n) one ∙ at_right sss chunk kept d l) in
    let dropped = length-drop kept (get_or sss chunk d) in
    let whole = ap (λ (zs : List KeptSpot). length zs) (at_with_free sss chunk d l) in
    rw (was, is_halves)
    (record {
      spots = halves_spots sss chunk kept d l ∙ sym (all_with_free sss);
      len = omega arith;
      known = omega arith;
      left = ap (λ (zs : List KeptSpot). length zs) (at_left sss chunk kept d l) ∙ first;
      right = omega arith;
    })

merged : (sss : List (List KeptSpot)) (chunk : ℕ) (d : List KeptSpot) → suc chunk < length sss → all_spots (set (remove sss (suc chunk)) chunk (get_or sss chunk d ++ get_or sss (suc chunk) d)) ≡ all_spots sss
merged [] chunk d l = absurd (omega arith)
merged (ss ∷ []) chunk d l = absurd (omega arith)
merged (ss ∷ ts ∷ sss) zero d l = append_assoc ss ts (all_spots sss)
merged (ss ∷ ts ∷ sss) (suc chunk) d l = ap (λ (zs : List KeptSpot). ss ++ zs) (merged (ts ∷ sss) chunk d (omega arith))

pub joined_spots : (old rest : List (List KeptSpot)) (chunk next : ℕ) (read gone : List KeptSpot) → next ≡ suc chunk → rest ≡ remove old next → read ≡ get_or rest chunk read → gone ≡ get_or old next gone → next < length old
    → all_spots (set rest chunk (read ++ gone)) ≡ all_spots old
joined_spots old rest chunk next read gone step rest_is read_is gone_is l =
    let first : read ≡ get_or old chunk read = read_is ∙ ap (λ (qss : List (List KeptSpot)). get_or qss chunk read) rest_is ∙ get_or-remove_below old next read chunk (omega arith) l in
    let second : gone ≡ get_or old (suc chunk) read = gone_is ∙ get_or_default old next gone read l ∙ ap (λ n. get_or old n read) step in
    let whole : rest ≡ remove old (suc chunk) = rest_is ∙ ap (remove old) step in
    ap (λ (qss : List (List KeptSpot)). all_spots (set qss chunk (read ++ gone))) whole
    ∙ ap (λ (qs : List KeptSpot). all_spots (set (remove old (suc chunk)) chunk (read ++ qs))) second
    ∙ ap (λ (qs : List KeptSpot). all_spots (set (remove old (suc chunk)) chunk (qs ++ get_or old (suc chunk) read))) first
    ∙ merged old chunk read (omega arith)
