-- what becomes of an order of slots, and of the cuts in them, where one is taken out, some are freed or one is filled
use Rattle.std.proofs.Common.{ℕ, zero, suc, ◌≡◌, ◌≢◌, ◌+◌, ◌<◌, ◌≤◌, ◌==◌, refl, subst, ap, ◌∙◌, sym, arith, Bool, true, false, not, cond, List, [], ◌∷◌, ◌++◌, length, map, get_or, IsTrue, Option, Some, None, is_some, count_by}
use Rattle.std.specs.Prelude.{filter, unwrap_or}
use Rattle.std.specs.List.{All, remove}
use Rattle.std.proofs.lemmas.List.{append-nil, get_or-map, length-map, map_push}
use Rattle.std.proofs.lemmas.List.Elements.{All-cons, All-filter, All-get_or, All-head, All-push, All-tail, All-weaker, filter-append, filter_passes}
use Rattle.std.proofs.lemmas.List.Sums.{sum_by-cons}
use Rattle.slab.specs.Slab.{ContainsKey, Slab, Updates, get}
use Rattle.truncation_list.specs.declared.book.Cut.{Cut}
use Rattle.truncation_list.specs.declared.cover.Cover.{Cover}
use Rattle.truncation_list.specs.declared.index.Shelf.{Shelf}
use Rattle.truncation_list.specs.Covers.{IsWithinReach}
use Rattle.truncation_list.specs.Index.{IsIndexOf, IsIndexed, listed, standing, stands}
use Rattle.truncation_list.specs.Purge.{IsAbove, IsByNumber, IsInOrder}
use Rattle.truncation_list.specs.Slots.{AreTaken, cut_in, cuts_in, no_cut, stays, staying, taken, without}
use Rattle.truncation_list.proofs.Decided.{eq_is, is_eq}
use Rattle.truncation_list.proofs.Filters.{filter-map, filter_where, filter_whole, filters_swap, map-remove, map_where}
use Rattle.truncation_list.proofs.Remaining.{in_order_with}

-- THE ORDER

module _ (f : ℕ → Cut) where
  ordered_at : (x : ℕ) (v : Bool) (kept : List ℕ) → All (λ other. (f x).number < other.number) (map f kept) → IsByNumber (map f kept) → IsByNumber (map f (cond v (x ∷ kept) kept))
  ordered_at x true kept a o = (a, o)
  ordered_at x false kept a o = o

  -- what holds of the cuts of some slots holds of those that a filter keeps
  pub all_kept : (P : Cut → Type 0) (p : ℕ → Bool) (xs : List ℕ) → All P (map f xs) → All P (map f (filter p xs))
  all_kept P p [] h = h
  all_kept P p (x ∷ xs) h = kept_first (p x) (All-head P (f x) (map f xs) h) (all_kept P p xs (All-tail P (f x) (map f xs) h))
    where
      kept_first : (v : Bool) → P (f x) → All P (map f (filter p xs)) → All P (map f (cond v (x ∷ filter p xs) (filter p xs)))
      kept_first true a b = All-cons P (f x) (map f (filter p xs)) a b
      kept_first false a b = b

  pub by_number_kept : (p : ℕ → Bool) (xs : List ℕ) → IsByNumber (map f xs) → IsByNumber (map f (filter p xs))
  by_number_kept p [] o = o
  by_number_kept p (x ∷ xs) o =
      ordered_at x (p x) (filter p xs) (all_kept (λ other. (f x).number < other.number) p xs o.0) (by_number_kept p xs o.1)

  pub in_order_kept : (p : ℕ → Bool) (xs : List ℕ) → IsInOrder (map f xs) → IsInOrder (map f (filter p xs))
  in_order_kept p xs o = record {
    by_number = by_number_kept p xs o.by_number;
    within_reach = all_kept (λ cut. IsWithinReach cut.cover) p xs o.within_reach;
  }

  other_slot : (x y : ℕ) → (f x).number < (f y).number → not (x == y) ≡ true
  other_slot x y l = unequal (x == y) refl
    where
      unequal : (v : Bool) → (x == y) ≡ v → not v ≡ true
      unequal true e = let same = ap (λ (z : ℕ). (f z).number) (eq_is x y e) in absurd (omega (arith, same))
      unequal false e = refl

  later_slot : (x y : ℕ) → (f x).number < (f y).number → not (y == x) ≡ true
  later_slot x y l = unequal (y == x) refl
    where
      unequal : (v : Bool) → (y == x) ≡ v → not v ≡ true
      unequal true e = let same = ap (λ (z : ℕ). (f z).number) (eq_is y x e) in absurd (omega (arith, same))
      unequal false e = refl

  -- the order without the slot at a place
  pub removed : (xs : List ℕ) (i slot : ℕ) → i < length xs → slot ≡ get_or xs i 0 → IsByNumber (map f xs) → remove xs i ≡ without slot xs
  removed [] i slot l e o = absurd (omega arith)
  removed (x ∷ xs) zero slot l e o =
      let first : (x == slot) ≡ true = is_eq x slot (sym e) in
      let others : All (λ y. not (y == slot) ≡ true) xs = All-weaker (λ y. (f x).number < (f y).number) (λ y. not (y == slot) ≡ true) (λ y l. subst (λ (s : ℕ). not (y == s) ≡ true) (sym e) (later_slot x y l)) xs (above_first x xs o.0) in
      rw first (sym (filter_whole (λ y. not (y == slot)) xs others))
    where
      above_first : (x : ℕ) (xs : List ℕ) → All (λ other. (f x).number < other.number) (map f xs) → All (λ y. (f x).number < (f y).number) xs
      above_first x [] h = λ k d l. absurd (omega arith)
      above_first x (y ∷ ys) h =
          All-cons (λ z. (f x).number < (f z).number) y ys (All-head (λ other. (f x).number < other.number) (f y) (map f ys) h)
          (above_first x ys (All-tail (λ other. (f x).number < other.number) (f y) (map f ys) h))
  removed (x ∷ xs) (suc i) slot l e o =
      let within : i < length xs = omega arith in
      let long : i < length (map f xs) = omega (arith, length-map xs f) in
      let less : (f x).number < (get_or (map f xs) i (f 0)).number = All-get_or (λ other. (f x).number < other.number) (map f xs) i (f 0) long o.0 in
      let at : get_or (map f xs) i (f 0) ≡ f slot = get_or-map f xs i 0 (f 0) within ∙ ap f (sym e) in
      let first : not (x == slot) ≡ true = other_slot x slot (subst (λ (k : Cut). (f x).number < k.number) at less) in
      rw first (ap (λ (ys : List ℕ). x ∷ ys) (removed xs i slot within e o.1))

-- the lists without a slot
module _ (p : ℕ → Bool) (slot : ℕ) where
  not_first : (x : ℕ) (xs : List ℕ) → p slot ≡ false → filter p (without slot xs) ≡ filter p xs → (v u : Bool) → (x == slot) ≡ v → p x ≡ u → filter p (cond (not v) (x ∷ without slot xs) (without slot xs)) ≡ cond u (x ∷ filter p xs) (filter p xs)
  not_first x xs h ih true u e g = let no : u ≡ false = sym g ∙ ap p (eq_is x slot e) ∙ h in rw no ih
  not_first x xs h ih false true e g = rw (g, ih) refl
  not_first x xs h ih false false e g = rw (g, ih) refl

  not_kept : p slot ≡ false → (xs : List ℕ) → filter p (without slot xs) ≡ filter p xs
  not_kept h [] = refl
  not_kept h (x ∷ xs) = not_first x xs h (not_kept h xs) (x == slot) (p x) refl refl

  pub kept_without : (v : Bool) → p slot ≡ v → (xs : List ℕ) → filter p (without slot xs) ≡ cond v (without slot (filter p xs)) (filter p xs)
  kept_without true h xs = filters_swap p (λ other. not (other == slot)) xs
  kept_without false h xs = not_kept h xs

-- SLOTS THAT KEEP THEIR CUTS

module _ (old new : Slab Cut) (rest : List ℕ) (same : All (λ slot. get new slot ≡ get old slot) rest) where
  same_cuts : All (λ slot. cut_in new slot ≡ cut_in old slot) rest
  same_cuts = All-weaker (λ slot. get new slot ≡ get old slot) (λ slot. cut_in new slot ≡ cut_in old slot) (λ slot e. ap (λ (o : Option Cut). unwrap_or o no_cut) e) rest same

  pub cuts_as_before : cuts_in new rest ≡ cuts_in old rest
  cuts_as_before = map_where (cut_in new) (cut_in old) rest same_cuts

  pub standing_as_before : (l g k : ℕ) → standing l g k new rest ≡ standing l g k old rest
  standing_as_before l g k =
      filter_where (λ slot. stands l g k (cut_in new slot).cover) (λ slot. stands l g k (cut_in old slot).cover) rest
      (All-weaker (λ slot. cut_in new slot ≡ cut_in old slot) (λ slot. stands l g k (cut_in new slot).cover ≡ stands l g k (cut_in old slot).cover) (λ slot e. ap (λ (c : Cut). stands l g k c.cover) e) rest same_cuts)

  pub taken_as_before : AreTaken old rest → AreTaken new rest
  taken_as_before h = λ k d l. subst (λ (o : Option Cut). IsTrue (is_some o)) (sym (same k d l)) (h k d l)

-- A SLOT IS FREED

module _ (old new : Slab Cut) (order : List ℕ) (slot : ℕ) (update : Updates old new slot None) where
  unequal : (x : ℕ) → not (x == slot) ≡ true → x ≢ slot
  unequal x t e = let same = is_eq x slot e in absurd (let no : not (x == slot) ≡ false = rw same refl in cc)

  pub others_same : All (λ x. get new x ≡ get old x) (without slot order)
  others_same =
      All-weaker (λ x. not (x == slot) ≡ true) (λ x. get new x ≡ get old x) (λ x t. update.others x (unequal x t)) (without slot order) (filter_passes (λ x. not (x == slot)) order)

  module _ (shelves shelves' : List Shelf) (cover : Cover) (is : cover ≡ (cut_in old slot).cover) (left : (l g k : ℕ) → listed shelves' l g k ≡ cond (stands l g k cover) (without slot (listed shelves l g k)) (listed shelves l g k)) (h : IsIndexed old order shelves) where
    index_without : IsIndexOf shelves' new (without slot order)
    index_without l g k =
        left l g k
        ∙ ap (λ (c : Cover). cond (stands l g k c) (without slot (listed shelves l g k)) (listed shelves l g k)) is
        ∙ ap (λ (xs : List ℕ). cond (stands l g k (cut_in old slot).cover) (without slot xs) xs) (h.index l g k)
        ∙ sym (kept_without (λ x. stands l g k (cut_in old x).cover) slot (stands l g k (cut_in old slot).cover) refl order)
        ∙ sym (standing_as_before old new (without slot order) others_same l g k)

    pub freed_one : IsIndexed new (without slot order) shelves'
    freed_one = record {
      taken = taken_as_before old new (without slot order) others_same (All-filter (λ x. not (x == slot)) (ContainsKey old) order h.taken);
      in_order = subst IsInOrder (sym (cuts_as_before old new (without slot order) others_same)) (in_order_kept (cut_in old) (λ x. not (x == slot)) order h.in_order);
      index = index_without;
    }

  -- where it stood at a place
  pub cuts_removed : (i : ℕ) → remove order i ≡ without slot order → cuts_in new (without slot order) ≡ remove (cuts_in old order) i
  cuts_removed i e =
      cuts_as_before old new (without slot order) others_same ∙ ap (cuts_in old) (sym e) ∙ map-remove (cut_in old) order i

-- SOME SLOTS ARE FREED

module _ (old new : Slab Cut) (order : List ℕ) (kept : All (λ x. get new x ≡ get old x) (taken new order)) where
  pub kept_index : (shelves shelves' : List Shelf) → ((l g k : ℕ) → listed shelves' l g k ≡ taken new (listed shelves l g k)) → IsIndexed old order shelves → IsIndexed new (taken new order) shelves'
  kept_index shelves shelves' left h = record {
    taken = taken_as_before old new (taken new order) kept (All-filter (λ x. is_some (get new x)) (ContainsKey old) order h.taken);
    in_order = subst IsInOrder (sym (cuts_as_before old new (taken new order) kept)) (in_order_kept (cut_in old) (λ x. is_some (get new x)) order h.in_order);
    index = λ l g k.
        left l g k
        ∙ ap (taken new) (h.index l g k)
        ∙ filters_swap (λ x. is_some (get new x)) (λ x. stands l g k (cut_in old x).cover) order ∙ sym (standing_as_before old new (taken new order) kept l g k);
  }

module _ (cover : Option Cover) (least : Option ℕ) where
  staying_at : (xs : List (Option Cut)) (i : ℕ) → get_or (map (staying cover least) xs) i None ≡ staying cover least (get_or xs i None)
  staying_at [] i = refl
  staying_at (x ∷ xs) zero = refl
  staying_at (x ∷ xs) (suc i) = staying_at xs i

  stays_where : (c : Cut) (v : Bool) → stays cover least c ≡ v → is_some (cond v (Some c) None) ≡ stays cover least c
  stays_where c true e = sym e
  stays_where c false e = sym e

  -- of a slot with a cut: it is taken where that cut stays
  stays_taken : (o : Option Cut) → IsTrue (is_some o) → is_some (staying cover least o) ≡ stays cover least (unwrap_or o no_cut)
  stays_taken None t = absurd (cc)
  stays_taken (Some c) t = stays_where c (stays cover least c) refl

  kept_whole : (c : Cut) (v : Bool) → is_some (cond v (Some c) None) ≡ true → cond v (Some c) None ≡ Some c
  kept_whole c true t = refl
  kept_whole c false t = absurd (cc)

  taken_stays : (o : Option Cut) → is_some (staying cover least o) ≡ true → staying cover least o ≡ o
  taken_stays None t = refl
  taken_stays (Some c) t = kept_whole c (stays cover least c) t

  one_at : (c : Cut) (v : Bool) (m n : ℕ) → m ≤ n → cond (is_some (cond v (Some c) None)) 1 0 + m ≤ 1 + n
  one_at c true m n h = omega arith
  one_at c false m n h = omega arith

  fewer_at : (o : Option Cut) (m n : ℕ) → m ≤ n → cond (is_some (staying cover least o)) 1 0 + m ≤ cond (is_some o) 1 0 + n
  fewer_at None m n h = omega arith
  fewer_at (Some c) m n h = one_at c (stays cover least c) m n h

  pub no_more_taken : (xs : List (Option Cut)) → count_by is_some (map (staying cover least) xs) ≤ count_by is_some xs
  no_more_taken [] = omega arith
  no_more_taken (x ∷ xs) =
      let h = no_more_taken xs in
      let old = sum_by-cons (λ (o : Option Cut). cond (is_some o) 1 0) x xs in
      let new = sum_by-cons (λ (o : Option Cut). cond (is_some o) 1 0) (staying cover least x) (map (staying cover least) xs) in
      let more = fewer_at x (count_by is_some (map (staying cover least) xs)) (count_by is_some xs) h in
      omega (arith, old, new, more)

  module _ (old new : Slab Cut) (order : List ℕ) (freed : new.slots ≡ map (staying cover least) old.slots) where
    now : (x : ℕ) → get new x ≡ staying cover least (get old x)
    now x = ap (λ (slots : List (Option Cut)). get_or slots x None) freed ∙ staying_at old.slots x

    pub kept_same : All (λ x. get new x ≡ get old x) (taken new order)
    kept_same =
        All-weaker (λ x. is_some (get new x) ≡ true) (λ x. get new x ≡ get old x)
        (λ x t. now x ∙ taken_stays (get old x) (subst (λ (o : Option Cut). is_some o ≡ true) (now x) t)) (taken new order) (filter_passes (λ x. is_some (get new x)) order)

    pub freed_index : (shelves shelves' : List Shelf) → ((l g k : ℕ) → listed shelves' l g k ≡ taken new (listed shelves l g k)) → IsIndexed old order shelves → IsIndexed new (taken new order) shelves'
    freed_index shelves shelves' left h = kept_index old new order kept_same shelves shelves' left h

    pub cuts_freed : AreTaken old order → cuts_in new (taken new order) ≡ filter (stays cover least) (cuts_in old order)
    cuts_freed h =
        cuts_as_before old new (taken new order) kept_same
        ∙ ap (cuts_in old) (filter_where (λ x. is_some (get new x)) (λ x. stays cover least (cut_in old x)) order (λ k d l. ap is_some (now (get_or order k d)) ∙ stays_taken (get old (get_or order k d)) (h k d l)))
        ∙ sym (filter-map (cut_in old) (stays cover least) order)

-- A SLOT IS FILLED

module _ (old new : Slab Cut) (order : List ℕ) (slot : ℕ) (cut : Cut) (vacant : get old slot ≡ None) (update : Updates old new slot (Some cut)) (held : AreTaken old order) where
  apart : (x : ℕ) → ContainsKey old x → x ≢ slot
  apart x t e = absurd (let none : get old x ≡ None = ap (get old) e ∙ vacant in let no : is_some (get old x) ≡ false = ap is_some none in cc)

  order_same : All (λ x. get new x ≡ get old x) order
  order_same = λ k d l. update.others (get_or order k d) (apart (get_or order k d) (held k d l))

  own_cut : cut_in new slot ≡ cut
  own_cut = ap (λ (o : Option Cut). unwrap_or o no_cut) update.changed

  pub cuts_pushed : cuts_in new (order ++ slot ∷ []) ≡ cuts_in old order ++ cut ∷ []
  cuts_pushed =
      map_push (cut_in new) order slot
      ∙ ap (λ (front : List Cut). front ++ cut_in new slot ∷ []) (cuts_as_before old new order order_same) ∙ ap (λ (c : Cut). cuts_in old order ++ c ∷ []) own_cut

  last_at : (v : Bool) (xs : List ℕ) → xs ++ cond v (slot ∷ []) [] ≡ cond v (xs ++ slot ∷ []) xs
  last_at true xs = refl
  last_at false xs = append-nil xs

  pub filled_index : (shelves shelves' : List Shelf) → ((l g k : ℕ) → listed shelves' l g k ≡ cond (stands l g k cut.cover) (listed shelves l g k ++ slot ∷ []) (listed shelves l g k)) → IsAbove cut.number (cuts_in old order) → IsWithinReach cut.cover → IsIndexed old order shelves → IsIndexed new (order ++ slot ∷ []) shelves'
  filled_index shelves shelves' stood above reach h = record {
    taken = All-push (ContainsKey new) order slot (taken_as_before old new order order_same held) (ap is_some update.changed);
    in_order = subst IsInOrder (sym cuts_pushed) (in_order_with (cuts_in old order) cut h.in_order above reach);
    index = λ l g k.
        stood l g k
        ∙ ap (λ (xs : List ℕ). cond (stands l g k cut.cover) (xs ++ slot ∷ []) xs) (h.index l g k)
        ∙ ap (λ (xs : List ℕ). cond (stands l g k cut.cover) (xs ++ slot ∷ []) xs) (sym (standing_as_before old new order order_same l g k))
        ∙ sym (last_at (stands l g k cut.cover) (standing l g k new order))
        ∙ ap (λ (c : Cut). standing l g k new order ++ cond (stands l g k c.cover) (slot ∷ []) []) (sym own_cut)
        ∙ sym (filter-append (λ x. stands l g k (cut_in new x).cover) order (slot ∷ []));
  }
