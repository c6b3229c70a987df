-- whether a cut lies within another one of a greater number, by the slots that are looked at
use Rattle.std.proofs.Common.{ℕ, zero, suc, ◌≡◌, ◌+◌, ◌<◌, ◌≤◌, ◌&&◌, ◌||◌, ◌⊎◌, ◌∙◌, inl, inr, refl, subst, sym, ap, arith, Bool, true, false, cond, List, [], ◌∷◌, length, map, drop, get_or, IsTrue, Option, None}
use Rattle.std.specs.Prelude.{filter, nat_le, nat_lt, unwrap_or}
use Rattle.std.specs.List.{All, list_any}
use Rattle.std.proofs.lemmas.Bool.{cases_lt}
use Rattle.std.proofs.lemmas.Bool.Decides.{nat_tests}
use Rattle.std.proofs.lemmas.List.Elements.{All-cons, All-filter, All-get_or, All-head, All-nil, All-tail}
use Rattle.std.proofs.lemmas.List.{get_or-map, length-map}
use Rattle.slab.specs.Slab.{Slab, get}
use Rattle.truncation_list.specs.declared.book.Cut.{Cut}
use Rattle.truncation_list.specs.declared.cover.Cover.{Cover}
use Rattle.truncation_list.specs.declared.index.Shelf.{Shelf}
use Rattle.truncation_list.specs.Contains.{contains}
use Rattle.truncation_list.specs.Index.{IsIndexOf, list_of, listed, stands}
use Rattle.truncation_list.specs.Purge.{IsByNumber, RisesPast, is_outdone, is_outdone_among}
use Rattle.truncation_list.specs.Slots.{cut_in, cuts_in, no_cut}
use Rattle.truncation_list.proofs.Containment.{contains_within}
use Rattle.truncation_list.proofs.Decided.{both, join, le_is}
use Rattle.truncation_list.proofs.InSlots.{by_number_kept}
use Rattle.truncation_list.proofs.Rule.{among_is_later}
use Rattle.truncation_list.proofs.Settled.{neither}
use Rattle.truncation_list.proofs.Standing.{first_below, last_above, stands_by}

-- the other cut has a greater number and contains this one
abbrev pub outdoes : Cut → Cut → Bool
outdoes cut other = nat_lt cut.number other.number && contains other.cover cut.cover

lesser_test : (n m : ℕ) → m ≤ n → nat_lt n m ≡ false
lesser_test n m l = grind (arith, nat_tests)

pub lesser_not : (cut other : Cut) → other.number ≤ cut.number → outdoes cut other ≡ false
lesser_not cut other l = ap (λ (v : Bool). v && contains other.cover cut.cover) (lesser_test cut.number other.number l)

pub outdoes_by : (cut other : Cut) → cut.number < other.number → IsTrue (contains other.cover cut.cover) → IsTrue (outdoes cut other)
outdoes_by cut other l t = let g : IsTrue (nat_lt cut.number other.number) = grind (arith, nat_tests) in join (nat_lt cut.number other.number) (contains other.cover cut.cover) g t

-- ALONG A LIST

first_true : (s t : Bool) → IsTrue s → IsTrue (s || t)
first_true true t h = refl
first_true false t h = absurd (cc)

second_true : (s t : Bool) → IsTrue t → IsTrue (s || t)
second_true true t h = refl
second_true false t h = h

module _ (f : ℕ → Cut) (test : Cut → Bool) where
  -- a filter that keeps those that meet a test
  pub any_passing : (p : ℕ → Bool) (xs : List ℕ) → All (λ x. IsTrue (test (f x)) → IsTrue (p x)) xs → list_any test (map f (filter p xs)) ≡ list_any test (map f xs)
  any_passing p [] h = refl
  any_passing p (x ∷ xs) h =
      at (test (f x)) (p x) refl (All-head (λ x. IsTrue (test (f x)) → IsTrue (p x)) x xs h) (any_passing p xs (All-tail (λ x. IsTrue (test (f x)) → IsTrue (p x)) x xs h))
    where
      at : (u v : Bool) → test (f x) ≡ u → (IsTrue u → IsTrue v) → list_any test (map f (filter p xs)) ≡ list_any test (map f xs)
          → list_any test (map f (cond v (x ∷ filter p xs) (filter p xs))) ≡ (u || list_any test (map f xs))
      at u true e k ih = ap (λ (v : Bool). v || list_any test (map f (filter p xs))) e ∙ ap (λ (v : Bool). u || v) ih
      at true false e k ih = absurd (let no = k refl in cc)
      at false false e k ih = ih

  pub any_found : (xs : List ℕ) (i d : ℕ) → i < length xs → IsTrue (test (f (get_or xs i d))) → IsTrue (list_any test (map f xs))
  any_found [] i d l t = absurd (omega arith)
  any_found (x ∷ xs) zero d l t = first_true (test (f x)) (list_any test (map f xs)) t
  any_found (x ∷ xs) (suc i) d l t = second_true (test (f x)) (list_any test (map f xs)) (any_found xs i d (omega arith) t)

module _ (f : ℕ → Cut) (cut : Cut) where
  pub outdone_by_none : (xs : List ℕ) → All (λ x. outdoes cut (f x) ≡ false) xs → is_outdone_among (map f xs) cut ≡ false
  outdone_by_none [] h = refl
  outdone_by_none (x ∷ xs) h =
      neither (outdoes cut (f x)) (is_outdone_among (map f xs) cut) (All-head (λ x. outdoes cut (f x) ≡ false) x xs h) (outdone_by_none xs (All-tail (λ x. outdoes cut (f x) ≡ false) x xs h))

  -- where one has no greater number, none before it outdoes the cut
  pub outdone_by_later : (xs : List ℕ) (i j d : ℕ) → j ≡ i + 1 → i < length xs → RisesPast cut.number (map f xs) → (f (get_or xs i d)).number ≤ cut.number → All (λ x. outdoes cut (f x) ≡ false) (drop j xs) → is_outdone_among (map f xs) cut ≡ false
  outdone_by_later [] i j d e l r m h = absurd (omega arith)
  outdone_by_later (x ∷ xs) i zero d e l r m h = absurd (omega arith)
  outdone_by_later (x ∷ xs) zero (suc j) d e l r m h =
      let none : j ≡ 0 = omega arith in
      neither (outdoes cut (f x)) (is_outdone_among (map f xs) cut) (lesser_not cut (f x) m) (outdone_by_none xs (subst (λ (i : ℕ). All (λ x. outdoes cut (f x) ≡ false) (drop i xs)) none h))
  outdone_by_later (x ∷ xs) (suc i) (suc j) d e l r m h =
      neither (outdoes cut (f x)) (is_outdone_among (map f xs) cut)
      (elim (cases_lt cut.number (f x).number) [
        | inl more ↦
            let n = length-map xs f in
            let all : cut.number < (get_or (map f xs) i (f d)).number = All-get_or (λ other. cut.number < other.number) (map f xs) i (f d) (omega arith) (r.0 more) in
            let same = ap (λ (k : Cut). k.number) (get_or-map f xs i d (f d) (omega arith)) in
            absurd (omega (arith, all, same, m))
        | inr less ↦ lesser_not cut (f x) less
      ]) (outdone_by_later xs i j d (omega arith) (omega arith) r.1 m h)

  pub outdone_by : (xs : List ℕ) (i d : ℕ) → i < length xs → IsTrue (outdoes cut (f (get_or xs i d))) → IsTrue (is_outdone_among (map f xs) cut)
  outdone_by xs i d l t = any_found f (outdoes cut) xs i d l t

  -- a filter that keeps those that outdo the cut
  pub outdone_kept : (p : ℕ → Bool) (xs : List ℕ) → All (λ x. IsTrue (outdoes cut (f x)) → IsTrue (p x)) xs → is_outdone_among (map f (filter p xs)) cut ≡ is_outdone_among (map f xs) cut
  outdone_kept p xs h = any_passing f (outdoes cut) p xs h

-- in the list of a cut's first zoom each one stands that contains it
pub contains_stands : (outer inner : Cover) → IsTrue (contains outer inner) → IsTrue (nat_le inner.z_start inner.z_stop) → IsTrue (stands inner.layer inner.grid (list_of inner.z_start) outer)
contains_stands outer inner h z =
    let w = contains_within outer inner h in
    let s = le_is outer.z_start inner.z_start w.z_start in
    let e = le_is inner.z_stop outer.z_stop w.z_stop in
    let i = le_is inner.z_start inner.z_stop z in
    let b : inner.z_start ≤ outer.z_stop = omega arith in
    stands_by inner.layer inner.grid (list_of inner.z_start) outer w.layer w.grid (first_below outer.z_start outer.z_stop inner.z_start s b) (last_above outer.z_start outer.z_stop inner.z_start s b)

-- WHERE SLOTS OF LESSER NUMBERS ARE FREE

-- the slot is as before, or is free now and had a cut of a lesser number
abbrev pub Since : Slab Cut → Slab Cut → ℕ → ℕ → Type 0
Since old new number x = (get new x ≡ get old x) ⊎ ((get new x ≡ None) × ((cut_in old x).number < number))

module _ (old new : Slab Cut) where
  pub same_cut : (x : ℕ) → get new x ≡ get old x → cut_in new x ≡ cut_in old x
  same_cut x e = ap (λ (o : Option Cut). unwrap_or o no_cut) e

  number_now : (n x : ℕ) → Since old new n x → n < (cut_in old x).number → n < (cut_in new x).number
  number_now n x (inl e) l = let same = ap (λ (k : Cut). k.number) (same_cut x e) in omega (arith, same, l)
  number_now n x (inr h) l = let less = h.1 in absurd (omega arith)

  number_then : (n x : ℕ) → Since old new n x → n < (cut_in new x).number → n < (cut_in old x).number
  number_then n x (inl e) l = let same = ap (λ (k : Cut). k.number) (same_cut x e) in omega (arith, same, l)
  number_then n x (inr h) l = let none = ap (λ (o : Option Cut). (unwrap_or o no_cut).number) h.0 in absurd (omega (arith, none, l))

  greater_now : (n m : ℕ) (xs : List ℕ) → n < m → All (λ other. m < other.number) (cuts_in old xs) → All (Since old new n) xs → All (λ other. n < other.number) (cuts_in new xs)
  greater_now n m [] l o a = All-nil (λ other. n < other.number)
  greater_now n m (x ∷ xs) l o a =
      let more : m < (cut_in old x).number = All-head (λ other. m < other.number) (cut_in old x) (cuts_in old xs) o in
      All-cons (λ other. n < other.number) (cut_in new x) (cuts_in new xs) (number_now n x (All-head (Since old new n) x xs a) (omega arith)) (greater_now n m xs l (All-tail (λ other. m < other.number) (cut_in old x) (cuts_in old xs) o) (All-tail (Since old new n) x xs a))

  pub rises_since : (n : ℕ) (xs : List ℕ) → IsByNumber (cuts_in old xs) → All (Since old new n) xs → RisesPast n (cuts_in new xs)
  rises_since n [] o a = tt
  rises_since n (x ∷ xs) o a = (
    λ l. greater_now n (cut_in old x).number xs (number_then n x (All-head (Since old new n) x xs a) l) o.0 (All-tail (Since old new n) x xs a),
    rises_since n xs o.1 (All-tail (Since old new n) x xs a),
  )

  pub outdoes_since : (cut : Cut) (x : ℕ) → Since old new cut.number x → outdoes cut (cut_in new x) ≡ outdoes cut (cut_in old x)
  outdoes_since cut x (inl e) = ap (outdoes cut) (same_cut x e)
  outdoes_since cut x (inr h) =
      let none = ap (λ (o : Option Cut). (unwrap_or o no_cut).number) h.0 in
      let less = h.1 in
      lesser_not cut (cut_in new x) (omega (arith, none)) ∙ sym (lesser_not cut (cut_in old x) (omega arith))

  pub outdone_since : (cut : Cut) (xs : List ℕ) → All (Since old new cut.number) xs → is_outdone_among (cuts_in new xs) cut ≡ is_outdone_among (cuts_in old xs) cut
  outdone_since cut [] a = refl
  outdone_since cut (x ∷ xs) a =
      ap (λ (v : Bool). v || is_outdone_among (cuts_in new xs) cut) (outdoes_since cut x (All-head (Since old new cut.number) x xs a))
      ∙ ap (λ (v : Bool). outdoes cut (cut_in old x) || v) (outdone_since cut xs (All-tail (Since old new cut.number) x xs a))

  module _ (order : List ℕ) (shelves : List Shelf) (index : IsIndexOf shelves old order) (cut : Cut) (a : All (Since old new cut.number) order) where
    abbrev in_list : ℕ → Bool
    in_list = λ x. stands cut.cover.layer cut.cover.grid (list_of cut.cover.z_start) (cut_in old x).cover

    abbrev list : List ℕ
    list = listed shelves cut.cover.layer cut.cover.grid (list_of cut.cover.z_start)

    list_is : list ≡ filter in_list order
    list_is = index cut.cover.layer cut.cover.grid (list_of cut.cover.z_start)

    pub rises_in_list : IsByNumber (cuts_in old order) → RisesPast cut.number (cuts_in new list)
    rises_in_list o =
        subst (λ (xs : List ℕ). RisesPast cut.number (cuts_in new xs)) (sym list_is) (rises_since cut.number (filter in_list order) (by_number_kept (cut_in old) in_list order o) (All-filter in_list (Since old new cut.number) order a))

    pub outdone_in_list : IsTrue (nat_le cut.cover.z_start cut.cover.z_stop) → is_outdone_among (cuts_in new list) cut ≡ is_outdone_among (cuts_in new order) cut
    outdone_in_list z =
        ap (λ (xs : List ℕ). is_outdone_among (cuts_in new xs) cut) list_is
        ∙ outdone_kept (cut_in new) cut in_list order (λ k d l t. contains_stands (cut_in old (get_or order k d)).cover cut.cover (both (nat_lt cut.number (cut_in old (get_or order k d)).number) (contains (cut_in old (get_or order k d)).cover cut.cover) (subst IsTrue (outdoes_since cut (get_or order k d) (a k d l)) t)).1 z)

-- AMONG ALL CUTS

-- among cuts by number, those of greater numbers are the later ones
pub outdone_at : (cuts : List Cut) (i : ℕ) (d : Cut) → i < length cuts → IsByNumber cuts → is_outdone_among cuts (get_or cuts i d) ≡ is_outdone (drop (i + 1) cuts) (get_or cuts i d)
outdone_at [] i d l o = absurd (omega arith)
outdone_at (x ∷ xs) zero d l o = among_is_later [] x xs (All-nil (λ cut. cut.number < x.number)) o.0
outdone_at (x ∷ xs) (suc i) d l o =
    let cut = get_or xs i d in
    let less : x.number < cut.number = o.0 i d (omega arith) in
    let next : suc (i + 1) ≡ suc i + 1 = omega arith in
    ap (λ (v : Bool). v || is_outdone_among xs cut) (lesser_not cut x (omega arith)) ∙ outdone_at xs i d (omega arith) o.1 ∙ ap (λ (j : ℕ). is_outdone (drop j (x ∷ xs)) cut) next
