-- A list that rises by a number has no other order that doesn't fall by it.
use Rattle.std.proofs.Common.{ℕ, zero, suc, ◌≡◌, ◌<◌, ◌≤◌, ◌==◌, cond, List, [], ◌∷◌, refl, sym, ap, ◌∙◌, inl, inr, arith}
use Rattle.std.specs.List.{AllByRecursion, Contains, sum_by}
use Rattle.std.specs.List.Sorted.{IsNonDecreasingBy, IsPermutation}
use Rattle.std.proofs.lemmas.Bool.{cases_lt}
use Rattle.std.proofs.lemmas.Bool.Decides.{nat_tests}
use Rattle.std.proofs.lemmas.List.Elements.{All-from_recursion, All-contains_itself, recursion_from_All}
use Rattle.std.proofs.lemmas.List.Sorted.{All-permutation, sum_by-IsPermutation}
use Rattle.std.proofs.lemmas.List.Sums.{sum_by-cons}
use Rattle.metatile_locks.proofs.Lists.{all_weaker}
use Rattle.cabinet_records.specs.Placed.{RisesBy}
use Rattle.cabinet.proofs.Lists.{all_contained}

module _ {X : Type 0} (f : X → ℕ) where
  -- no element is less than one before it
  abbrev Climbs : List X → Type 0
  Climbs [] = Unit {0}
  Climbs (x ∷ xs) = AllByRecursion (λ y. f x ≤ f y) xs × Climbs xs

  climbs : (xs : List X) → IsNonDecreasingBy f xs → Climbs xs
  climbs [] up = tt
  climbs (x ∷ xs) up = (recursion_from_All (λ y. f x ≤ f y) xs (λ k d l. up 0 (suc k) d (omega arith) (omega arith)), climbs xs (λ i j d l m. up (suc i) (suc j) d (omega arith) (omega arith)))

  -- COUNTS

  abbrev has : ℕ → X → ℕ
  has n x = cond (f x == n) 1 0

  none_has : (n : ℕ) (xs : List X) → AllByRecursion (λ x. n < f x) xs → sum_by (has n) xs ≡ 0
  none_has n [] a = refl
  none_has n (x ∷ xs) a =
      let first : has n x ≡ 0 = let l = a.0 in grind (arith, nat_tests) in
      sum_by-cons (has n) x xs ∙ (let rest = none_has n xs a.1 in omega (arith, first, rest))

  first_has : (x : X) (xs : List X) → 1 ≤ sum_by (has (f x)) (x ∷ xs)
  first_has x xs =
      let first : has (f x) x ≡ 1 = grind (arith, nat_tests) in
      let sum = sum_by-cons (has (f x)) x xs in
      omega (arith, first, sum)

  -- ONE OF THEM

  abbrev IsAlone : List X → X → Type 0
  IsAlone ys x = (y : X) → Contains ys y → f x ≡ f y → x ≡ y

  contained : (x : X) (xs : List X) (P : X → Type 0) → P x → AllByRecursion P xs → (y : X) → Contains (x ∷ xs) y → P y
  contained x xs P p a y c = all_contained P (x ∷ xs) y (p, a) c

  alone_first : (y : X) (ys : List X) → AllByRecursion (λ z. f y < f z) ys → IsAlone (y ∷ ys) y
  alone_first y ys a z (zero, l, e) same = e
  alone_first y ys a z (suc i, l, e) same = absurd (let m : f y < f z = all_contained (λ x. f y < f x) ys z a (i, omega arith, e) in omega arith)

  alone_later : (y : X) (ys : List X) (x : X) → f y < f x → IsAlone ys x → IsAlone (y ∷ ys) x
  alone_later y ys x l alone z (zero, m, e) same = absurd (let n : f y ≡ f z = ap f e in omega arith)
  alone_later y ys x l alone z (suc i, m, e) same = alone z (i, omega arith, e) same

  all_alone : (ys : List X) → RisesBy f ys → AllByRecursion (IsAlone ys) ys
  all_alone [] r = tt
  all_alone (y ∷ ys) r = (
    alone_first y ys r.0,
    later ys r.0 (all_alone ys r.1),
  )
    where
      later : (zs : List X) → AllByRecursion (λ z. f y < f z) zs → AllByRecursion (IsAlone ys) zs → AllByRecursion (IsAlone (y ∷ ys)) zs
      later [] a b = tt
      later (z ∷ zs) a b = (alone_later y ys z a.0 b.0, later zs a.1 b.1)

  -- THE SAME LIST

  abbrev SumAlike : List X → List X → Type 0
  SumAlike xs ys = (g : X → ℕ) → sum_by g ys ≡ sum_by g xs

  alike : (whole xs ys : List X) → AllByRecursion (IsAlone whole) xs → AllByRecursion (Contains whole) ys → SumAlike xs ys → Climbs xs → RisesBy f ys → xs ≡ ys
  alike whole [] [] a b s up r = refl
  alike whole [] (y ∷ ys) a b s up r = absurd (let e = s (λ z. 1) in let n = sum_by-cons (λ (z : X). 1) y ys in omega arith)
  alike whole (x ∷ xs) [] a b s up r = absurd (let e = s (λ z. 1) in let n = sum_by-cons (λ (z : X). 1) x xs in omega arith)
  alike whole (x ∷ xs) (y ∷ ys) a b s up r = elim (cases_lt (f x) (f y)) [
    | inl under ↦ absurd (
        let none = none_has (f x) (y ∷ ys) (under, all_weaker (λ z. f y < f z) (λ z. f x < f z) (λ z l. omega arith) ys r.0) in
        let some = first_has x xs in
        let same = s (has (f x)) in
        omega (arith, none, some, same)
        )
    | inr over ↦ elim (cases_lt (f y) (f x)) [
      | inl under ↦ absurd (
          let none = none_has (f y) (x ∷ xs) (under, all_weaker (λ z. f x ≤ f z) (λ z. f y < f z) (λ z l. omega arith) xs up.0) in
          let some = first_has y ys in
          let same = s (has (f y)) in
          omega (arith, none, some, same)
          )
      | inr most ↦
          let first : x ≡ y = a.0 y b.0 (omega arith) in
          let rest = alike whole xs ys a.1 b.1 (λ g. let e = s g in let n = sum_by-cons g x xs in let m = sum_by-cons g y ys in let same : g x ≡ g y = ap g first in omega (arith, e, n, m, same)) up.1 r.1 in
          λ i. first i ∷ rest i
    ]
  ]

  pub same_order : (xs ys : List X) → IsPermutation ys xs → IsNonDecreasingBy f xs → RisesBy f ys → xs ≡ ys
  same_order xs ys p up r =
      let each = recursion_from_All (IsAlone ys) xs (All-permutation (IsAlone ys) ys xs p (All-from_recursion (IsAlone ys) ys (all_alone ys r))) in
      alike ys xs ys each (recursion_from_All (Contains ys) ys (All-contains_itself ys)) (λ g. sym (sum_by-IsPermutation g ys xs p)) (climbs xs up) r
