-- Parts that lie in order: by recursion on the list.
use Rattle.std.proofs.Common.{◌≡◌, AllPairs, ℕ, zero, suc, ◌<◌, ◌≤◌, true, false, List, [], ◌∷◌, ◌++◌, length, get_or, inl, inr, nat_lt, refl, ap, arith}
use Rattle.std.specs.List.Sorted.{IsNonDecreasingBy}
use Rattle.std.proofs.lemmas.Bool.{cases_lt}
use Rattle.std.proofs.lemmas.Bool.Decides.{nat_tests}
use Rattle.extent_map.specs.declared.part.Extent.{Extent}
use Rattle.extent_map.specs.Parts.{end_of, LieInOrder, inserted}
use Rattle.extent_map.specs.Holes.{last_end}

-- BOUNDS

pub low_high : (low : ℕ) (ps : List Extent) (high : ℕ) → LieInOrder low ps high → low ≤ high
low_high low [] high h = h
low_high low (p ∷ ps) high h = let k = low_high (end_of p) ps high h.2 in omega arith

pub earlier : (low mid : ℕ) (ps : List Extent) (high : ℕ) → low ≤ mid → LieInOrder mid ps high → LieInOrder low ps high
earlier low mid [] high h k = omega arith
earlier low mid (p ∷ ps) high h k = (let m = k.0 in omega arith, k.1, k.2)

pub later : (low : ℕ) (ps : List Extent) (mid high : ℕ) → LieInOrder low ps mid → mid ≤ high → LieInOrder low ps high
later low [] mid high h k = omega arith
later low (p ∷ ps) mid high h k = (h.0, h.1, later (end_of p) ps mid high h.2 k)

-- WHOLES AND THEIR TWO ENDS

pub joined : (low : ℕ) (xs ys : List Extent) (mid high : ℕ) → LieInOrder low xs mid → LieInOrder mid ys high → LieInOrder low (xs ++ ys) high
joined low [] ys mid high h k = earlier low mid ys high h k
joined low (x ∷ xs) ys mid high h k = (h.0, h.1, joined (end_of x) xs ys mid high h.2 k)

pub front : (low : ℕ) (xs ys : List Extent) (high : ℕ) → LieInOrder low (xs ++ ys) high → LieInOrder low xs (last_end low xs)
front low [] ys high h = omega arith
front low (x ∷ xs) ys high h = (h.0, h.1, front (end_of x) xs ys high h.2)

pub back : (low : ℕ) (xs ys : List Extent) (high : ℕ) → LieInOrder low (xs ++ ys) high → LieInOrder (last_end low xs) ys high
back low [] ys high h = h
back low (x ∷ xs) ys high h = back (end_of x) xs ys high h.2

pub last_end_push : (low : ℕ) (xs : List Extent) (p : Extent) → last_end low (xs ++ p ∷ []) ≡ end_of p
last_end_push low [] p = refl
last_end_push low (x ∷ xs) p = last_end_push (end_of x) xs p

pub removed : (low : ℕ) (xs ys : List Extent) (p : Extent) (high : ℕ) → LieInOrder low (xs ++ p ∷ ys) high → LieInOrder low (xs ++ ys) high
removed low [] ys p high h = earlier low (end_of p) ys high (let k = h.0 in omega arith) h.2
removed low (x ∷ xs) ys p high h = (h.0, h.1, removed (end_of x) xs ys p high h.2)

-- INSERTION

low_of : (low : ℕ) (xs ys : List Extent) (p : Extent) (high : ℕ) → LieInOrder low (xs ++ p ∷ ys) high → low ≤ p.place
low_of low [] ys p high h = h.0
low_of low (x ∷ xs) ys p high h = let k = low_of (end_of x) xs ys p high h.2 in let m = h.0 in omega arith

pub inserted_is : (low : ℕ) (xs ys : List Extent) (p : Extent) (high : ℕ) → LieInOrder low (xs ++ p ∷ ys) high → inserted p (xs ++ ys) ≡ xs ++ p ∷ ys
inserted_is low [] [] p high h = refl
inserted_is low [] (y ∷ ys) p high h =
    let some = h.1 in let behind = h.2.0 in
    let e : nat_lt p.place y.place ≡ true = grind (arith, nat_tests) in
    rw e refl
inserted_is low (x ∷ xs) ys p high h =
    let some = h.1 in let behind = low_of (end_of x) xs ys p high h.2 in
    let e : nat_lt p.place x.place ≡ false = grind (arith, nat_tests) in
    rw e (ap (λ zs. x ∷ zs) (inserted_is (end_of x) xs ys p high h.2))

-- PLACES BY INDEX

pub at_least : (low : ℕ) (xs : List Extent) (high : ℕ) → LieInOrder low xs high → (i : ℕ) (d : Extent) → i < length xs → low ≤ (get_or xs i d).place
at_least low [] high h i d l = absurd (omega arith)
at_least low (x ∷ xs) high h zero d l = h.0
at_least low (x ∷ xs) high h (suc i) d l = let k = at_least (end_of x) xs high h.2 i d (omega arith) in let m = h.0 in omega arith

pub end_within : (low : ℕ) (xs : List Extent) (high : ℕ) → LieInOrder low xs high → (i : ℕ) (d : Extent) → i < length xs → end_of (get_or xs i d) ≤ high
end_within low [] high h i d l = absurd (omega arith)
end_within low (x ∷ xs) high h zero d l = low_high (end_of x) xs high h.2
end_within low (x ∷ xs) high h (suc i) d l = end_within (end_of x) xs high h.2 i d (omega arith)

pub rises : (low : ℕ) (xs : List Extent) (high : ℕ) → LieInOrder low xs high → (i j : ℕ) (d : Extent) → i < j → j < length xs → (get_or xs i d).place < (get_or xs j d).place
rises low [] high h i j d l m = absurd (omega arith)
rises low (x ∷ xs) high h i zero d l m = absurd (omega arith)
rises low (x ∷ xs) high h zero (suc j) d l m = let k = at_least (end_of x) xs high h.2 j d (omega arith) in let some = h.1 in omega arith
rises low (x ∷ xs) high h (suc i) (suc j) d l m = rises (end_of x) xs high h.2 i j d (omega arith) (omega arith)

-- what rises does not fall
pub never_falls : (xs : List Extent) → AllPairs (λ p q. p.place < q.place) xs → IsNonDecreasingBy (λ q. q.place) xs
never_falls xs h = λ i j d l m. elim (cases_lt i j) [
  | inl under ↦ let k = h i j d under m in omega arith
  | inr over ↦ let e : i ≡ j = omega arith in rw e (omega arith)
]
