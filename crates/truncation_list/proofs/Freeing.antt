-- what the slots have after those are freed whose cuts lie within later ones
use Rattle.std.proofs.Common.{ℕ, zero, suc, ◌≡◌, ◌≢◌, ◌+◌, ◌<◌, ◌≤◌, ◌∙◌, inl, inr, subst, sym, ap, arith, Bool, true, false, not, cond, List, [], ◌∷◌, length, take, drop, get_or, map, IsTrue, None, is_some}
use Rattle.std.specs.List.{All}
use Rattle.std.proofs.lemmas.List.{drop_more, take-append-drop}
use Rattle.std.proofs.lemmas.List.Elements.{All-append, All-cons, All-filter, All-head, All-more, All-nil, All-tail, filter_passes}
use Rattle.slab.specs.Slab.{Slab, Updates, get, slab_len}
use Rattle.truncation_list.specs.declared.book.Cut.{Cut}
use Rattle.truncation_list.specs.Listed.{outermost}
use Rattle.truncation_list.specs.Purge.{IsByNumber, is_outdone_among}
use Rattle.truncation_list.specs.Slots.{AreTaken, cut_in, cuts_in, taken}
use Rattle.truncation_list.proofs.Along.{of_slots}
use Rattle.truncation_list.proofs.Filters.{filter-map, filter_where}
use Rattle.truncation_list.proofs.InSlots.{cuts_as_before}
use Rattle.truncation_list.proofs.Outdone.{Since}
use Rattle.truncation_list.proofs.Outermost.{outermost_by_rule}

-- NUMBERS BEFORE AND BEHIND A PLACE

module _ (f : ℕ → Cut) where
  first_less : (x : ℕ) (xs : List ℕ) (i d : ℕ) → i < length xs → All (λ other. (f x).number < other.number) (map f xs) → (f x).number < (f (get_or xs i d)).number
  first_less x xs i d l o = of_slots f (λ other. (f x).number < other.number) xs o i d l

  earlier : (xs : List ℕ) (i d : ℕ) → i < length xs → IsByNumber (map f xs) → All (λ x. (f x).number < (f (get_or xs i d)).number) (take i xs)
  earlier [] i d l o = absurd (omega arith)
  earlier (x ∷ xs) zero d l o = All-nil (λ y. (f y).number < (f x).number)
  earlier (x ∷ xs) (suc i) d l o =
      All-cons (λ y. (f y).number < (f (get_or xs i d)).number) x (take i xs) (first_less x xs i d (omega arith) o.0) (earlier xs i d (omega arith) o.1)

  later : (xs : List ℕ) (i d : ℕ) → i < length xs → IsByNumber (map f xs) → All (λ x. (f (get_or xs i d)).number < (f x).number) (drop (i + 1) xs)
  later [] i d l o = absurd (omega arith)
  later (x ∷ xs) zero d l o = of_slots f (λ other. (f x).number < other.number) xs o.0
  later (x ∷ xs) (suc i) d l o =
      let next : suc (i + 1) ≡ suc i + 1 = omega arith in
      subst (λ (j : ℕ). All (λ y. (f (get_or xs i d)).number < (f y).number) (drop j (x ∷ xs))) next (later xs i d (omega arith) o.1)

-- SO FAR

module _ (old : Slab Cut) (order : List ℕ) where
  abbrev pub is_out : ℕ → Bool
  is_out x = is_outdone_among (cuts_in old order) (cut_in old x)

  -- the slot is free where its cut lies within a later one, and else as before
  abbrev pub Passed : Slab Cut → ℕ → Type 0
  Passed new x = get new x ≡ cond (is_out x) None (get old x)

  -- the first so many slots of the order were gone over
  pub record Freeing (new : Slab Cut) (i : ℕ) : Type 0 where
    pub passed : All (Passed new) (take i order)
    pub ahead : All (λ x. get new x ≡ get old x) (drop i order)
    pub capacity : new.capacity ≡ old.capacity
    pub len : slab_len new ≤ slab_len old

  module _ (new : Slab Cut) (i d : ℕ) (l : i < length order) (o : IsByNumber (cuts_in old order)) (h : Freeing new i) where
    ahead_list : All (λ x. get new x ≡ get old x) (get_or order i d ∷ drop (i + 1) order)
    ahead_list = subst (All (λ x. get new x ≡ get old x)) (drop_more order i d l) h.ahead

    pub own_same : get new (get_or order i d) ≡ get old (get_or order i d)
    own_same = All-head (λ x. get new x ≡ get old x) (get_or order i d) (drop (i + 1) order) ahead_list

    rest_same : All (λ x. get new x ≡ get old x) (drop (i + 1) order)
    rest_same = All-tail (λ x. get new x ≡ get old x) (get_or order i d) (drop (i + 1) order) ahead_list

    passed_since : (x : ℕ) (v : Bool) → get new x ≡ cond v None (get old x) → (cut_in old x).number < (cut_in old (get_or order i d)).number → Since old new (cut_in old (get_or order i d)).number x
    passed_since x true e less = inr (e, less)
    passed_since x false e less = inl e

    pub all_since : All (Since old new (cut_in old (get_or order i d)).number) order
    all_since =
        let n = (cut_in old (get_or order i d)).number in
        let less = earlier (cut_in old) order i d l o in
        let front : All (Since old new n) (take i order) = λ k e b. passed_since (get_or (take i order) k e) (is_out (get_or (take i order) k e)) (h.passed k e b) (less k e b) in
        let back : All (Since old new n) (drop i order) = λ k e b. inl (h.ahead k e b) in
        subst (All (Since old new n)) (take-append-drop i order) (All-append (Since old new n) (take i order) (drop i order) front back)

    pub left_next : is_out (get_or order i d) ≡ false → Freeing new (i + 1)
    left_next stays = record {
      passed = All-more (Passed new) order i d l h.passed (own_same ∙ ap (λ (v : Bool). cond v None (get old (get_or order i d))) (sym stays));
      ahead = rest_same;
      capacity = h.capacity;
      len = h.len;
    }

    module _ (next : Slab Cut) (update : Updates new next (get_or order i d) None) where
      lesser_other : (x : ℕ) → (cut_in old x).number < (cut_in old (get_or order i d)).number → x ≢ get_or order i d
      lesser_other x less e = let same = ap (λ (y : ℕ). (cut_in old y).number) e in absurd (omega (arith, less, same))

      greater_other : (x : ℕ) → (cut_in old (get_or order i d)).number < (cut_in old x).number → x ≢ get_or order i d
      greater_other x more e = let same = ap (λ (y : ℕ). (cut_in old y).number) e in absurd (omega (arith, more, same))

      pub freed_next : IsTrue (is_out (get_or order i d)) → next.capacity ≡ new.capacity → slab_len next + 1 ≡ slab_len new → Freeing next (i + 1)
      freed_next out same fewer =
          let less = earlier (cut_in old) order i d l o in
          let more = later (cut_in old) order i d l o in
          let count = h.len in
          record {
            passed = All-more (Passed next) order i d l (λ k e b. update.others (get_or (take i order) k e) (lesser_other (get_or (take i order) k e) (less k e b)) ∙ h.passed k e b) (update.changed ∙ ap (λ (v : Bool). cond v None (get old (get_or order i d))) (sym out));
            ahead = λ k e b. update.others (get_or (drop (i + 1) order) k e) (greater_other (get_or (drop (i + 1) order) k e) (more k e b)) ∙ rest_same k e b;
            capacity = same ∙ h.capacity;
            len = omega (arith, count, fewer);
          }

  -- AT THE END

  module _ (new : Slab Cut) (freed : All (Passed new) order) where
    kept_as : (x : ℕ) (v : Bool) → get new x ≡ cond v None (get old x) → is_some (get new x) ≡ true → get new x ≡ get old x
    kept_as x true e t = absurd (let none = ap is_some e in cc)
    kept_as x false e t = e

    pub kept_same : All (λ x. get new x ≡ get old x) (taken new order)
    kept_same = λ k d b.
        kept_as (get_or (taken new order) k d) (is_out (get_or (taken new order) k d)) (All-filter (λ x. is_some (get new x)) (Passed new) order freed k d b)
        (filter_passes (λ x. is_some (get new x)) order k d b)

    stays_as : (x : ℕ) (v : Bool) → get new x ≡ cond v None (get old x) → is_some (get old x) ≡ true → is_some (get new x) ≡ not v
    stays_as x true e t = ap is_some e
    stays_as x false e t = ap is_some e ∙ t

    pub cuts_settled : AreTaken old order → IsByNumber (cuts_in old order) → cuts_in new (taken new order) ≡ outermost (cuts_in old order)
    cuts_settled h o =
        cuts_as_before old new (taken new order) kept_same
        ∙ ap (cuts_in old) (filter_where (λ x. is_some (get new x)) (λ x. not (is_out x)) order (λ k d b. stays_as (get_or order k d) (is_out (get_or order k d)) (freed k d b) (h k d b)))
        ∙ sym (filter-map (cut_in old) (λ cut. not (is_outdone_among (cuts_in old order) cut)) order)
        ∙ sym (outermost_by_rule (cuts_in old order) o)
