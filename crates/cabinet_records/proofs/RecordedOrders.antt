-- What stays of a list in another order: what each element has, what any two have, and what passes a test.
use Rattle.std.proofs.Common.{ℕ, zero, suc, ◌≡◌, ◌<◌, Bool, true, false, cond, List, [], ◌∷◌, ◌++◌, length, filter, take, drop, set, get_or, sym, ap, subst, inl, inr, ◌∙◌, arith, append_assoc}
use Rattle.std.specs.List.{AllByRecursion, swap}
use Rattle.std.specs.List.Sorted.{IsPermutation}
use Rattle.std.proofs.lemmas.Bool.{cases_lt}
use Rattle.std.proofs.lemmas.List.{set-get_or, set-set, set_comm, set_split}
use Rattle.std.proofs.lemmas.List.Elements.{All-from_recursion, recursion_from_All}
use Rattle.std.proofs.lemmas.List.Sorted.{All-permutation, IsPermutation-cons, IsPermutation-keeps, IsPermutation-middle, IsPermutation-refl, IsPermutation-trans}

-- TWO NEIGHBOURS

-- what stays where two neighbours change places stays in any order
module _ {X : Type 0} (P : List X → Type 0) (neighbours : (before : List X) (x y : X) (behind : List X) → P (before ++ (x ∷ y ∷ behind)) → P (before ++ (y ∷ x ∷ behind))) where
  one_more : (before : List X) (x : X) (ys : List X) → P (before ++ (x ∷ ys)) → P ((before ++ x ∷ []) ++ ys)
  one_more before x ys h = subst P (sym (append_assoc before (x ∷ []) ys)) h

  one_less : (before : List X) (x : X) (ys : List X) → P ((before ++ x ∷ []) ++ ys) → P (before ++ (x ∷ ys))
  one_less before x ys h = subst P (append_assoc before (x ∷ []) ys) h

  -- one goes behind some others, or before them
  goes_behind : (before : List X) (x : X) (between behind : List X) → P (before ++ (x ∷ (between ++ behind))) → P (before ++ (between ++ (x ∷ behind)))
  goes_behind before x [] behind h = h
  goes_behind before x (y ∷ ys) behind h = one_less before y (ys ++ (x ∷ behind)) (goes_behind (before ++ y ∷ []) x ys behind (one_more before y (x ∷ (ys ++ behind)) (neighbours before x y (ys ++ behind) h)))

  goes_before : (before : List X) (x : X) (between behind : List X) → P (before ++ (between ++ (x ∷ behind))) → P (before ++ (x ∷ (between ++ behind)))
  goes_before before x [] behind h = h
  goes_before before x (y ∷ ys) behind h = neighbours before y x (ys ++ behind) (one_less before y (x ∷ (ys ++ behind)) (goes_before (before ++ y ∷ []) x ys behind (one_more before y (ys ++ (x ∷ behind)) h)))

  change_places : (before : List X) (x : X) (between : List X) (y : X) (behind : List X) → P (before ++ (x ∷ (between ++ (y ∷ behind)))) → P (before ++ (y ∷ (between ++ (x ∷ behind))))
  change_places before x between y behind h = one_less before y (between ++ (x ∷ behind))
      (goes_behind (before ++ y ∷ []) x between behind (one_more before y (x ∷ (between ++ behind)) (goes_before before y (x ∷ between) behind h)))

  -- those at two places
  at_places : (before xs : List X) (i j : ℕ) (d : X) → i < j → j < length xs → P (before ++ xs) → P (before ++ set (set xs i (get_or xs j d)) j (get_or xs i d))
  at_places before [] i j d up l h = absurd (omega arith)
  at_places before (x ∷ xs) i zero d up l h = absurd (omega arith)
  at_places before (x ∷ xs) zero (suc j) d up l h =
      let y = get_or xs j d in
      let whole : take j xs ++ (y ∷ drop (suc j) xs) ≡ xs = sym (set_split xs j y (omega arith)) ∙ set-get_or xs j d in
      subst (λ (ys : List X). P (before ++ (y ∷ ys))) (sym (set_split xs j x (omega arith)))
      (change_places before x (take j xs) y (drop (suc j) xs) (subst (λ (ys : List X). P (before ++ (x ∷ ys))) (sym whole) h))
  at_places before (x ∷ xs) (suc i) (suc j) d up l h =
      one_less before x (set (set xs i (get_or xs j d)) j (get_or xs i d)) (at_places (before ++ x ∷ []) xs i j d (omega arith) (omega arith) (one_more before x xs h))

  places_exchanged : (zs : List X) (i j : ℕ) → i < length zs → j < length zs → P zs → P (swap zs i j)
  places_exchanged [] i j a b k = absurd (omega arith)
  places_exchanged (z ∷ zs) i j a b k = elim (cases_lt i j) [
    | inl up ↦ at_places [] (z ∷ zs) i j z up b k
    | inr over ↦ elim (cases_lt j i) [
      | inl down ↦ subst P (set_comm (z ∷ zs) j i (get_or (z ∷ zs) i z) (get_or (z ∷ zs) j z) (λ e. absurd (omega arith))) (at_places [] (z ∷ zs) j i z down a k)
      | inr under ↦
          let same : i ≡ j = omega arith in
          let x = get_or (z ∷ zs) i z in
          subst P (sym (set-get_or (z ∷ zs) i z) ∙ sym (set-set (z ∷ zs) i x x) ∙ ap (λ (n : ℕ). set (set (z ∷ zs) i (get_or (z ∷ zs) n z)) n x) same) k
    ]
  ]

  pub in_any_order : (xs ys : List X) → IsPermutation xs ys → P xs → P ys
  in_any_order xs ys p h = IsPermutation-keeps xs P h places_exchanged ys p

-- EACH ELEMENT

pub permuted_all : {X : Type 0} (P : X → Type 0) (xs ys : List X) → IsPermutation xs ys → AllByRecursion P xs → AllByRecursion P ys
permuted_all P xs ys p a = recursion_from_All P ys (All-permutation P xs ys p (All-from_recursion P xs a))

-- WHAT PASSES A TEST

module _ {X : Type 0} (p : X → Bool) where
  two_pass : (x y : X) (rest : List X) (v w : Bool) → IsPermutation (cond v (x ∷ cond w (y ∷ rest) rest) (cond w (y ∷ rest) rest)) (cond w (y ∷ cond v (x ∷ rest) rest) (cond v (x ∷ rest) rest))
  two_pass x y rest true true = IsPermutation-middle (x ∷ []) y rest
  two_pass x y rest true false = IsPermutation-refl (x ∷ rest)
  two_pass x y rest false true = IsPermutation-refl (y ∷ rest)
  two_pass x y rest false false = IsPermutation-refl rest

  neighbours_pass : (before : List X) (x y : X) (behind : List X) → IsPermutation (filter p (before ++ (x ∷ y ∷ behind))) (filter p (before ++ (y ∷ x ∷ behind)))
  neighbours_pass [] x y behind = two_pass x y (filter p behind) (p x) (p y)
  neighbours_pass (z ∷ zs) x y behind = chosen (p z) (neighbours_pass zs x y behind)
    where
      chosen : (v : Bool) → IsPermutation (filter p (zs ++ (x ∷ y ∷ behind))) (filter p (zs ++ (y ∷ x ∷ behind)))
          → IsPermutation (cond v (z ∷ filter p (zs ++ (x ∷ y ∷ behind))) (filter p (zs ++ (x ∷ y ∷ behind)))) (cond v (z ∷ filter p (zs ++ (y ∷ x ∷ behind))) (filter p (zs ++ (y ∷ x ∷ behind))))
      chosen true h = IsPermutation-cons z _ _ h
      chosen false h = h

  pub permuted_filter : (xs ys : List X) → IsPermutation xs ys → IsPermutation (filter p xs) (filter p ys)
  permuted_filter xs ys h = in_any_order (λ zs. IsPermutation (filter p xs) (filter p zs))
      (λ before x y behind k. IsPermutation-trans _ _ _ k (neighbours_pass before x y behind)) xs ys h (IsPermutation-refl (filter p xs))

-- ANY TWO

-- each has this to all that stand behind it
abbrev pub AnyTwo : {X : Type 0} → (X → X → Type 0) → List X → Type 0
AnyTwo R [] = Unit {0}
AnyTwo R (x ∷ xs) = AllByRecursion (R x) xs × AnyTwo R xs

module _ {X : Type 0} (R : X → X → Type 0) where
  neighbours_have : (Q : X → Type 0) (before : List X) (x y : X) (behind : List X) → AllByRecursion Q (before ++ (x ∷ y ∷ behind)) → AllByRecursion Q (before ++ (y ∷ x ∷ behind))
  neighbours_have Q [] x y behind a = (a.1.0, (a.0, a.1.1))
  neighbours_have Q (z ∷ zs) x y behind a = (a.0, neighbours_have Q zs x y behind a.1)

  two_of : ((x y : X) → R x y → R y x) → (before : List X) (x y : X) (behind : List X) → AnyTwo R (before ++ (x ∷ y ∷ behind)) → AnyTwo R (before ++ (y ∷ x ∷ behind))
  two_of other [] x y behind a = ((other x y a.0.0, a.1.0), (a.0.1, a.1.1))
  two_of other (z ∷ zs) x y behind a = (neighbours_have (R z) zs x y behind a.0, two_of other zs x y behind a.1)

  pub permuted_two : ((x y : X) → R x y → R y x) → (xs ys : List X) → IsPermutation xs ys → AnyTwo R xs → AnyTwo R ys
  permuted_two other xs ys p a = in_any_order (AnyTwo R) (two_of other) xs ys p a

  -- one of them has it to those before it
  pub to_earlier : (xs : List X) (x : X) (ys : List X) → AnyTwo R (xs ++ (x ∷ ys)) → AllByRecursion (λ y. R y x) xs
  to_earlier [] x ys a = tt
  to_earlier (z ∷ zs) x ys a = (last_of (R z) zs a.0, to_earlier zs x ys a.1)
    where
      last_of : (Q : X → Type 0) (us : List X) → AllByRecursion Q (us ++ (x ∷ ys)) → Q x
      last_of Q [] b = b.0
      last_of Q (u ∷ us) b = last_of Q us b.1
