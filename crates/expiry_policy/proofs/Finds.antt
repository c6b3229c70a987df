-- What is found in a list.
use Rattle.std.proofs.Common.{◌≡◌, Bool, true, false, cond, not, ◌&&◌, List, [], ◌∷◌, find, filter, Option, Some, None, IsSome, rules, refl, sym, ap, ◌∙◌}
use Rattle.std.specs.List.{list_all}
use Rattle.std.proofs.lemmas.Bool.{and_parts}

module _ {X : Type 0} where
  -- what is found passes
  pub find_passes : (q : X → Bool) (xs : List X) (y : X) → find q xs ≡ Some y → q y ≡ true
  find_passes q [] y e = absurd (cc)
  find_passes q (x ∷ xs) y e = chosen (q x) refl e (find_passes q xs y)
    where
      chosen : (b : Bool) → q x ≡ b → cond b (Some x) (find q xs) ≡ Some y → (find q xs ≡ Some y → q y ≡ true) → q y ≡ true
      chosen true is e later = let same : x ≡ y = cc in ap q (sym same) ∙ is
      chosen false is e later = later e

  -- what is found has what all have
  pub find_among : (p q : X → Bool) (xs : List X) (y : X) → find q xs ≡ Some y → list_all p xs ≡ true → p y ≡ true
  find_among p q [] y e all = absurd (cc)
  find_among p q (x ∷ xs) y e all =
      let parts : (p x ≡ true) × (list_all p xs ≡ true) = and_parts (p x) (list_all p xs) all in
      chosen (q x) e parts.0 (λ k. find_among p q xs y k parts.1)
    where
      chosen : (b : Bool) → cond b (Some x) (find q xs) ≡ Some y → p x ≡ true → (find q xs ≡ Some y → p y ≡ true) → p y ≡ true
      chosen true e here later = let same : x ≡ y = cc in ap p (sym same) ∙ here
      chosen false e here later = later e

  pub all_weaker : (p q : X → Bool) → ((x : X) → p x ≡ true → q x ≡ true) → (xs : List X) → list_all p xs ≡ true → list_all q xs ≡ true
  all_weaker p q f [] all = refl
  all_weaker p q f (x ∷ xs) all =
      let parts : (p x ≡ true) × (list_all p xs ≡ true) = and_parts (p x) (list_all p xs) all in
      λ i. f x parts.0 i && all_weaker p q f xs parts.1 i

  -- what passes a filter passes its test
  pub all_filter : (p : X → Bool) (xs : List X) → list_all p (filter p xs) ≡ true
  all_filter p [] = refl
  all_filter p (x ∷ xs) = chosen (p x) refl (all_filter p xs)
    where
      chosen : (b : Bool) → p x ≡ b → list_all p (filter p xs) ≡ true → list_all p (cond b (x ∷ filter p xs) (filter p xs)) ≡ true
      chosen true is more = λ i. is i && more i
      chosen false is more = more

  -- where nothing is found, none passes
  none_passes : (q : X → Bool) (xs : List X) → find q xs ≡ None → list_all (λ x. not (q x)) xs ≡ true
  none_passes q [] e = refl
  none_passes q (x ∷ xs) e = chosen (q x) refl e (none_passes q xs)
    where
      chosen : (b : Bool) → q x ≡ b → cond b (Some x) (find q xs) ≡ None → (find q xs ≡ None → list_all (λ y. not (q y)) xs ≡ true) → (not (q x) && list_all (λ y. not (q y)) xs) ≡ true
      chosen true is e more = absurd (cc)
      chosen false is e more = λ i. not (is i) && more e i

  all_of_fewer : (p q : X → Bool) (xs : List X) → list_all p xs ≡ true → list_all p (filter q xs) ≡ true
  all_of_fewer p q [] all = refl
  all_of_fewer p q (x ∷ xs) all =
      let parts : (p x ≡ true) × (list_all p xs ≡ true) = and_parts (p x) (list_all p xs) all in
      chosen (q x) parts.0 (all_of_fewer p q xs parts.1)
    where
      chosen : (b : Bool) → p x ≡ true → list_all p (filter q xs) ≡ true → list_all p (cond b (x ∷ filter q xs) (filter q xs)) ≡ true
      chosen true here more = λ i. here i && more i
      chosen false here more = more

  -- a test that passes what is found in a part finds something in the whole
  pub found_in_whole : (t q p : X → Bool) (xs : List X) (y : X) → find q (filter p xs) ≡ Some y → t y ≡ true → IsSome (find t xs)
  found_in_whole t q p xs y e passes = chosen (find t xs) refl
    where
      chosen : (r : Option X) → find t xs ≡ r → IsSome r
      chosen (Some x) is = search rules
      chosen None is =
          let no = find_among (λ x. not (t x)) q (filter p xs) y e (all_of_fewer (λ x. not (t x)) p xs (none_passes t xs is)) in
          let both = ap not passes in
          absurd (cc)
