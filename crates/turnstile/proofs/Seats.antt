-- What a seat holds, and sums over the views of all seats.
use Rattle.std.proofs.Common.{◌≡◌, ◌∙◌, ℕ, zero, suc, ◌+◌, ◌<◌, ◌≤◌, ◌≢◌, ⊎_elim, List, [], ◌∷◌, ◌++◌, length, set, sym, refl, ap, subst, arith}
use Rattle.std.specs.Prelude.{Option, Some}
use mathlib.Core.Option.{some, some-ne-none, some-injective}
use lib.ListN.{get_elem?}
use Rattle.atomic_table.specs.Table.{Me, rest}
use Rattle.atomic_table.proofs.Lists.{at_set, at_snoc}
use Rattle.turnstile.specs.Rule.{total_of}

pub inside : {A : Type 0} (l : List A) (i : ℕ) (a : A) → get_elem? l i ≡ some a → i < length l
inside [] i a e = absurd (some-ne-none a (sym e))
inside (x ∷ xs) zero a e = omega arith
inside (x ∷ xs) (suc i) a e = let h = inside xs i a e in omega arith

pub at_one : {A : Type 0} (a b : A) (j : ℕ) → get_elem? (a ∷ []) j ≡ some b → (j ≡ 0) × (a ≡ b)
at_one a b zero e = (refl, some-injective a b e)
at_one a b (suc j) e = absurd (some-ne-none b (sym e))

pub same_at : {A : Type 0} (xs : List A) (i : ℕ) (a b : A) → get_elem? xs i ≡ some a → get_elem? xs i ≡ some b → a ≡ b
same_at xs i a b p q = some-injective a b (sym p ∙ q)

-- SUMS

pub total_set : {V : Type 0} (f : V → ℕ) (vs : List V) (i : ℕ) (v w : V) → get_elem? vs i ≡ some v → total_of f (set vs i w) + f v ≡ total_of f vs + f w
total_set f [] i v w e = absurd (some-ne-none v (sym e))
total_set f (x ∷ xs) zero v w e = let h : f x ≡ f v = ap f (some-injective x v e) in omega arith
total_set f (x ∷ xs) (suc i) v w e = let h = total_set f xs i v w e in omega arith

pub total_snoc : {V : Type 0} (f : V → ℕ) (vs : List V) (w : V) → total_of f (vs ++ w ∷ []) ≡ total_of f vs + f w
total_snoc f [] w = omega arith
total_snoc f (x ∷ xs) w = let h = total_snoc f xs w in omega arith

pub one_part : {V : Type 0} (f : V → ℕ) (vs : List V) (i : ℕ) (v : V) → get_elem? vs i ≡ some v → f v ≤ total_of f vs
one_part f [] i v e = absurd (some-ne-none v (sym e))
one_part f (x ∷ xs) zero v e = let h : f x ≡ f v = ap f (some-injective x v e) in omega arith
one_part f (x ∷ xs) (suc i) v e = let h = one_part f xs i v e in omega arith

pub two_parts : {V : Type 0} (f : V → ℕ) (vs : List V) (i j : ℕ) (v o : V) → get_elem? vs i ≡ some v → get_elem? vs j ≡ some o → j ≢ i → f v + f o ≤ total_of f vs
two_parts f [] i j v o ei ej ne = absurd (some-ne-none v (sym ei))
two_parts f (x ∷ xs) zero zero v o ei ej ne = absurd (ne refl)
two_parts f (x ∷ xs) zero (suc j) v o ei ej ne = let h : f x ≡ f v = ap f (some-injective x v ei) in let k = one_part f xs j o ej in omega arith
two_parts f (x ∷ xs) (suc i) zero v o ei ej ne = let h : f x ≡ f o = ap f (some-injective x o ej) in let k = one_part f xs i v ei in omega arith
two_parts f (x ∷ xs) (suc i) (suc j) v o ei ej ne = let h = two_parts f xs i j v o ei ej (λ e. ne (ap suc e)) in omega arith

-- A FACT OF EACH ELEMENT

pub each_set : {V : Type 0} (K : ℕ → V → Type 0) (vs : List V) (id : ℕ) (w : V) → K id w → ((j : ℕ) (u : V) → j ≢ id → get_elem? vs j ≡ some u → K j u) → (j : ℕ) (u : V) → get_elem? (set vs id w) j ≡ some u → K j u
each_set {V} K vs id w mine others j u e = ⊎_elim (λ (t : (j ≡ id) × (w ≡ u)). subst (λ (x : ℕ × V). K x.0 x.1) (λ i. (sym t.0 i, t.1 i)) mine)
    (λ (t : (j ≢ id) × (get_elem? vs j ≡ some u)). others j u t.0 t.1) (at_set vs id j w u e)

pub each_snoc : {V : Type 0} (K : ℕ → V → Type 0) (vs : List V) (w : V) → ((j : ℕ) → K j w) → ((j : ℕ) (u : V) → get_elem? vs j ≡ some u → K j u) → (j : ℕ) (u : V) → get_elem? (vs ++ w ∷ []) j ≡ some u → K j u
each_snoc K vs w mine others j u e = ⊎_elim (λ (t : get_elem? vs j ≡ some u). others j u t) (λ (t : w ≡ u). subst (K j) t (mine j)) (at_snoc vs w u j e)

-- SEATS

pub same_load : {L : Type 0} (l l' : L) → ◌≡◌ {A = List (ℕ × Option L)} ((0, Some l) ∷ []) ((0, Some l') ∷ []) → l ≡ l'
same_load {L} l l' e =
    let a : ℕ × Option L = (0, Some l) in
    let b : ℕ × Option L = (0, Some l') in
    let p : a ≡ b = cc in
    let q : Some l ≡ Some l' = ap (λ (x : ℕ × Option L). x.1) p in
    cc

-- what a seat holds, by its first slot
pub holds_first : {S V : Type 0} (m : Me S V) (v : V) (k : ℕ) (x : S) (xs : List (ℕ × S)) → m ≡ (v, (k, x) ∷ xs) → (old : S) × (m.1 ≡ (k, old) ∷ rest m.1)
holds_first {S} {V} m v k x xs e = (x, let f : m.1 ≡ (k, x) ∷ xs = ap (λ (z : Me S V). z.1) e in f ∙ ap (λ (l : List (ℕ × S)). (k, x) ∷ l) (sym (ap (λ (l : List (ℕ × S)). rest l) f)))

pub lone_is : {S V : Type 0} (m n : Me S V) (k : ℕ) (x y : S) → m.1 ≡ (k, x) ∷ [] → n ≡ (m.0, (k, y) ∷ rest m.1) → n ≡ (m.0, (k, y) ∷ [])
lone_is {S} {V} m n k x y e f = f ∙ ap (λ (l : List (ℕ × S)). (m.0, (k, y) ∷ rest l)) e
