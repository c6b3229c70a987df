-- What tests tell that are all met.
use Rattle.std.proofs.Common.{◌≡◌, ℕ, zero, suc, ◌≤◌, Bool, true, false, not, nat_le, List, [], ◌∷◌, ◌++◌, get_or, Ok, Err, refl}
use Rattle.std.specs.List.{AllByRecursion, list_all}
use Rattle.std.proofs.lemmas.Bool.{leb-true, and_parts}
use Rattle.catalog.specs.declared.fault.CatalogueFault.{CatalogueFault}
use Rattle.catalog.specs.FirstFault.{Test, unless, next, first, each}
use Rattle.catalog.specs.Names.{within}

pub next_met : (a b : Test) → next a b ≡ Ok tt → (a ≡ Ok tt) × (b ≡ Ok tt)
next_met (Ok tt) b e = (refl, e)
next_met (Err f) b e = absurd cc

-- each of the tests is met
pub met_at : (tests : List Test) → first tests ≡ Ok tt → (i : ℕ) → get_or tests i (Ok tt) ≡ Ok tt
met_at [] e i = refl
met_at (test ∷ tests) e zero = (next_met test (first tests) e).0
met_at (test ∷ tests) e (suc i) = met_at tests (next_met test (first tests) e).1 i

pub holds : (b : Bool) (f : CatalogueFault) → unless b f ≡ Ok tt → b ≡ true
holds true f e = refl
holds false f e = absurd cc

pub fails : (b : Bool) (f : CatalogueFault) → unless (not b) f ≡ Ok tt → b ≡ false
fails true f e = absurd cc
fails false f e = refl

pub at_least : (low high n : ℕ) → within low high n ≡ true → low ≤ n
at_least low high n e = leb-true low n (and_parts (nat_le low n) (nat_le n high) e).0

pub at_most : (low high n : ℕ) → within low high n ≡ true → n ≤ high
at_most low high n e = leb-true n high (and_parts (nat_le low n) (nat_le n high) e).1

-- each entry of a list passed its test
pub each_met : {A : Type 0} (test : List A → A → Test) (P : A → Type 0) → ((before : List A) (x : A) → test before x ≡ Ok tt → P x) → (before xs : List A) → each test before xs ≡ Ok tt → AllByRecursion P xs
each_met test P p before [] e = tt
each_met test P p before (x ∷ xs) e =
    let parts : (test before x ≡ Ok tt) × (each test (before ++ x ∷ []) xs ≡ Ok tt) = next_met _ _ e in
    (p before x parts.0, each_met test P p (before ++ x ∷ []) xs parts.1)

pub all_met : {A : Type 0} (p : A → Bool) (P : A → Type 0) → ((x : A) → p x ≡ true → P x) → (xs : List A) → list_all p xs ≡ true → AllByRecursion P xs
all_met p P gives [] e = tt
all_met p P gives (x ∷ xs) e =
    let parts : (p x ≡ true) × (list_all p xs ≡ true) = and_parts (p x) (list_all p xs) e in
    (gives x parts.0, all_met p P gives xs parts.1)
