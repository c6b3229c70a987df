-- Weights of lists.
use Rattle.std.proofs.Common.{◌≡◌, ℕ, zero, suc, ◌+◌, ◌≤◌, List, [], ◌∷◌, ◌++◌, set, sym, refl, ap, arith}
use mathlib.Core.Option.{some, some-ne-none, some-injective}
use lib.ListN.{get_elem?}
use Rattle.link_queue.specs.Weights.{weigh}

pub weigh-append : {A : Type 0} (f : A → ℕ) (xs ys : List A) → weigh f (xs ++ ys) ≡ weigh f xs + weigh f ys
weigh-append f [] ys = omega arith
weigh-append f (x ∷ xs) ys = let h = weigh-append f xs ys in omega arith

-- one thing is changed
pub weigh_set : {A : Type 0} (f : A → ℕ) (xs : List A) (i : ℕ) (v w : A) → get_elem? xs i ≡ some v → weigh f (set xs i w) + f v ≡ weigh f xs + f w
weigh_set f [] i v w at = absurd (some-ne-none v (sym at))
weigh_set f (x ∷ xs) zero v w at = let h : f x ≡ f v = ap f (some-injective x v at) in omega arith
weigh_set f (x ∷ xs) (suc i) v w at = let h = weigh_set f xs i v w at in omega arith

pub one_of : {A : Type 0} (f : A → ℕ) (xs : List A) (i : ℕ) (v : A) → get_elem? xs i ≡ some v → f v ≤ weigh f xs
one_of f [] i v at = absurd (some-ne-none v (sym at))
one_of f (x ∷ xs) zero v at = let h : f x ≡ f v = ap f (some-injective x v at) in omega arith
one_of f (x ∷ xs) (suc i) v at = let h = one_of f xs i v at in omega arith

-- where each thing of no size has no weight, things of no size have none
pub none : {A : Type 0} (size f : A → ℕ) (xs : List A) → weigh size xs ≡ 0 → ((i : ℕ) (u : A) → get_elem? xs i ≡ some u → size u ≡ 0 → f u ≡ 0) → weigh f xs ≡ 0
none size f [] total each = refl
none size f (x ∷ xs) total each =
    let h = each zero x refl (omega (arith, total)) in
    let t = none size f xs (omega (arith, total)) (λ i. each (suc i)) in
    omega arith

-- and where one has all the size, the others weigh nothing
pub alone : {A : Type 0} (size f : A → ℕ) (xs : List A) (i : ℕ) (v : A) → get_elem? xs i ≡ some v → weigh size xs ≡ size v → ((j : ℕ) (u : A) → get_elem? xs j ≡ some u → size u ≡ 0 → f u ≡ 0) → weigh f xs ≡ f v
alone size f [] i v at total each = absurd (some-ne-none v (sym at))
alone size f (x ∷ xs) zero v at total each =
    let h : f x ≡ f v = ap f (some-injective x v at) in
    let s : size x ≡ size v = ap size (some-injective x v at) in
    let t = none size f xs (omega (arith, total, s)) (λ j. each (suc j)) in
    omega arith
alone size f (x ∷ xs) (suc i) v at total each =
    let le = one_of size xs i v at in
    let h = each zero x refl (omega (arith, total, le)) in
    let t = alone size f xs i v at (omega (arith, total, le)) (λ j. each (suc j)) in
    omega arith
