-- Which elements a list that is made of pieces has, in which order, and that it has none twice.
use Rattle.std.proofs.Common.{◌≡◌, ℕ, zero, suc, ◌+◌, ◌≤◌, ◌<◌, ◌⊎◌, inl, inr, List, [], ◌∷◌, ◌++◌, length, map, get_or, Some, slice_get, refl, sym, ap, subst, ◌∙◌, arith}
use Rattle.std.specs.Prelude.{◌≢◌, Contains}
use Rattle.std.specs.List.{flat_map, range_with_len}
use Rattle.std.proofs.lemmas.Bool.{cases_lt}
use Rattle.std.proofs.lemmas.Option.{slice_get-get_or}

-- the list has the element, by recursion
abbrev pub Has : {A : Type 0} → List A → A → Type 0
Has [] y = ⊥
Has (x ∷ xs) y = (x ≡ y) ⊎ Has xs y

-- no element stands in it twice
abbrev pub IsApart : {A : Type 0} → List A → Type 0
IsApart [] = Unit {0}
IsApart (x ∷ xs) = (Has xs x → ⊥) × IsApart xs

-- WHAT A LIST HAS

has_front : {A : Type 0} (xs ys : List A) (y : A) → Has xs y → Has (xs ++ ys) y
has_front [] ys y h = absurd h
has_front (x ∷ xs) ys y (inl e) = inl e
has_front (x ∷ xs) ys y (inr h) = inr (has_front xs ys y h)

has_back : {A : Type 0} (xs ys : List A) (y : A) → Has ys y → Has (xs ++ ys) y
has_back [] ys y h = h
has_back (x ∷ xs) ys y h = inr (has_back xs ys y h)

has_either : {A : Type 0} (xs ys : List A) (y : A) → Has (xs ++ ys) y → Has xs y ⊎ Has ys y
has_either [] ys y h = inr h
has_either (x ∷ xs) ys y (inl e) = inl (inl e)
has_either (x ∷ xs) ys y (inr h) = shifted (has_either xs ys y h) where
  shifted : Has xs y ⊎ Has ys y → Has (x ∷ xs) y ⊎ Has ys y
  shifted (inl a) = inl (inr a)
  shifted (inr b) = inr b

pub has_map : {A B : Type 0} (f : A → B) (xs : List A) (x : A) → Has xs x → Has (map f xs) (f x)
has_map f [] x h = absurd h
has_map f (y ∷ xs) x (inl e) = inl (ap f e)
has_map f (y ∷ xs) x (inr h) = inr (has_map f xs x h)

pub map_has : {A B : Type 0} (f : A → B) (xs : List A) (y : B) → Has (map f xs) y → (x : A) × Has xs x × (f x ≡ y)
map_has f [] y h = absurd h
map_has f (x ∷ xs) y (inl e) = (x, inl refl, e)
map_has f (x ∷ xs) y (inr h) = let p = map_has f xs y h in (p.0, inr p.1, p.2)

pub has_flat : {X A : Type 0} (f : X → List A) (xs : List X) (x : X) (y : A) → Has xs x → Has (f x) y → Has (flat_map f xs) y
has_flat f [] x y h k = absurd h
has_flat f (z ∷ xs) x y (inl e) k = has_front (f z) (flat_map f xs) y (subst (λ (w : _). Has (f w) y) (sym e) k)
has_flat f (z ∷ xs) x y (inr h) k = has_back (f z) (flat_map f xs) y (has_flat f xs x y h k)

pub flat_has : {X A : Type 0} (f : X → List A) (xs : List X) (y : A) → Has (flat_map f xs) y → (x : X) × Has xs x × Has (f x) y
flat_has f [] y h = absurd h
flat_has f (x ∷ xs) y h = found (has_either (f x) (flat_map f xs) y h) (flat_has f xs y) where
  found : Has (f x) y ⊎ Has (flat_map f xs) y → (Has (flat_map f xs) y → (z : _) × Has xs z × Has (f z) y) → (z : _) × Has (x ∷ xs) z × Has (f z) y
  found (inl k) later = (x, inl refl, k)
  found (inr k) later = let p = later k in (p.0, inr p.1, p.2)

pub has_range : (a n i : ℕ) → a ≤ i → i < a + n → Has (range_with_len a n) i
has_range a zero i l m = absurd (omega arith)
has_range a (suc n) i l m = here (cases_lt a i) (λ low high. has_range (a + 1) n i low high) where
  here : (a < i) ⊎ (i ≤ a) → (a + 1 ≤ i → i < a + 1 + n → Has (range_with_len (a + 1) n) i) → Has (range_with_len a (suc n)) i
  here (inl k) later = inr (later (omega arith) (omega arith))
  here (inr k) later = let e : a ≡ i = omega arith in inl e

pub range_has : (a n i : ℕ) → Has (range_with_len a n) i → (a ≤ i) × (i < a + n)
range_has a zero i h = absurd h
range_has a (suc n) i (inl e) = (omega arith, omega arith)
range_has a (suc n) i (inr h) = let p = range_has (a + 1) n i h in (omega (arith, p.0), omega (arith, p.1))

-- BY PLACE

pub has_at : {A : Type 0} (xs : List A) (i : ℕ) (x : A) → slice_get xs i ≡ Some x → Has xs x
has_at [] i x e = absurd (cc)
has_at (y ∷ xs) zero x e = let d : y ≡ x = cc in inl d
has_at (y ∷ xs) (suc i) x e = inr (has_at xs i x e)

-- the element stands at some place
place_of : {A : Type 0} (xs : List A) (x : A) → Has xs x → (i : ℕ) × (i < length xs) × (slice_get xs i ≡ Some x)
place_of [] x h = absurd h
place_of (y ∷ xs) x (inl e) = (0, omega arith, ap Some e)
place_of (y ∷ xs) x (inr h) = let p = place_of xs x h in (suc p.0, omega (arith, p.1), p.2)

get_some : {A : Type 0} (xs : List A) (i : ℕ) (x : A) → slice_get xs i ≡ Some x → get_or xs i x ≡ x
get_some [] i x e = absurd (cc)
get_some (y ∷ xs) zero x e = let d : y ≡ x = cc in d
get_some (y ∷ xs) (suc i) x e = get_some xs i x e

pub has_contains : {A : Type 0} (xs : List A) (x : A) → Has xs x → Contains xs x
has_contains xs x h = let p = place_of xs x h in (p.0, p.1, get_some xs p.0 x p.2)

pub contains_has : {A : Type 0} (xs : List A) (x : A) → Contains xs x → Has xs x
contains_has xs x c = has_at xs c.0 x (slice_get-get_or xs c.0 x c.1 ∙ ap Some c.2)

-- IN ORDER

-- each element comes before all later ones
abbrev pub IsRising : {A : Type 0} → (A → A → Type 0) → List A → Type 0
IsRising R [] = Unit {0}
IsRising R (x ∷ xs) = ((y : _) → Has xs y → R x y) × IsRising R xs

rising_append : {A : Type 0} (R : A → A → Type 0) (xs ys : List A) → IsRising R xs → IsRising R ys → ((x y : A) → Has xs x → Has ys y → R x y) → IsRising R (xs ++ ys)
rising_append R [] ys a b across = b
rising_append R (x ∷ xs) ys a b across = (λ y h. first y (has_either xs ys y h), rising_append R xs ys a.1 b (λ z y h k. across z y (inr h) k)) where
  first : (y : _) → Has xs y ⊎ Has ys y → R x y
  first y (inl h) = a.0 y h
  first y (inr k) = across x y (inl refl) k

pub rising_map : {A B : Type 0} (Q : A → A → Type 0) (R : B → B → Type 0) (f : A → B) → ((x y : A) → Q x y → R (f x) (f y)) → (xs : List A) → IsRising Q xs → IsRising R (map f xs)
rising_map Q R f keeps [] a = tt
rising_map Q R f keeps (x ∷ xs) a =
    (λ y h. let p = map_has f xs y h in subst (λ (z : _). R (f x) z) p.2 (keeps x p.0 (a.0 p.0 p.1)), rising_map Q R f keeps xs a.1)

pub rising_flat : {X A : Type 0} (Q : X → X → Type 0) (R : A → A → Type 0) (f : X → List A) → ((x y : X) (a b : A) → Q x y → Has (f x) a → Has (f y) b → R a b) → ((x : X) → IsRising R (f x))
    → (xs : List X) → IsRising Q xs → IsRising R (flat_map f xs)
rising_flat Q R f across each [] a = tt
rising_flat Q R f across each (x ∷ xs) a =
    rising_append R (f x) (flat_map f xs) (each x) (rising_flat Q R f across each xs a.1)
    (λ v w h k. let p = flat_has f xs w k in across x p.0 v w (a.0 p.0 p.1) h p.2)

pub rising_range : (a n : ℕ) → IsRising (λ x y. x < y) (range_with_len a n)
rising_range a zero = tt
rising_range a (suc n) = (λ y h. let p = range_has (a + 1) n y h in omega (arith, p.0), rising_range (a + 1) n)

pub rising_at : {A : Type 0} (R : A → A → Type 0) (xs : List A) → IsRising R xs → (i j : ℕ) (x y : A) → i < j → slice_get xs i ≡ Some x → slice_get xs j ≡ Some y → R x y
rising_at R [] a i j x y l e d = absurd (cc)
rising_at R (z ∷ xs) a i zero x y l e d = absurd (omega arith)
rising_at R (z ∷ xs) a zero (suc j) x y l e d = let k : z ≡ x = cc in subst (λ (w : _). R w y) k (a.0 y (has_at xs j y d))
rising_at R (z ∷ xs) a (suc i) (suc j) x y l e d = rising_at R xs a.1 i j x y (omega arith) e d

-- NOTHING TWICE

-- in a list in which each element comes before all later ones none stands twice
pub rising_apart : {A : Type 0} (R : A → A → Type 0) → ((x : A) → R x x → ⊥) → (xs : List A) → IsRising R xs → IsApart xs
rising_apart R not [] a = tt
rising_apart R not (x ∷ xs) a = (λ h. not x (a.0 x h), rising_apart R not xs a.1)

pub apart_map : {A B : Type 0} (f : A → B) → ((x y : A) → f x ≡ f y → x ≡ y) → (xs : List A) → IsApart xs → IsApart (map f xs)
apart_map f own [] a = tt
apart_map f own (x ∷ xs) a = (λ h. let p = map_has f xs (f x) h in a.0 (subst (λ (w : _). Has xs w) (own p.0 x p.2) p.1), apart_map f own xs a.1)

pub distinct : {A : Type 0} (xs : List A) → IsApart xs → (i j : ℕ) → i < j → j < length xs → slice_get xs i ≢ slice_get xs j
distinct [] a i j l m = absurd (omega arith)
distinct (x ∷ xs) a i zero l m = absurd (omega arith)
distinct (x ∷ xs) a zero (suc j) l m = λ e. a.0 (has_at xs j x (sym e))
distinct (x ∷ xs) a (suc i) (suc j) l m = distinct xs a.1 i j (omega arith) (omega arith)
