-- Finds, filters and facts of each element, by recursion on the list.
use Rattle.std.proofs.Common.{ℕ, ◌≡◌, ◌+◌, ◌<◌, ◌≤◌, zero, suc, Bool, true, false, cond, List, [], ◌∷◌, ◌++◌, length, map, get_or, Option, Some, None, find, filter, refl, sym, ap, subst, ◌∙◌, arith}
use Rattle.std.specs.List.{AllByRecursion}

-- EACH ELEMENT

pub all_joined : {X : Type 0} (P : X → Type 0) (xs ys : List X) → AllByRecursion P xs → AllByRecursion P ys → AllByRecursion P (xs ++ ys)
all_joined P [] ys h k = k
all_joined P (x ∷ xs) ys h k = (h.0, all_joined P xs ys h.1 k)

pub all_weaker : {X : Type 0} (P Q : X → Type 0) → ((x : X) → P x → Q x) → (xs : List X) → AllByRecursion P xs → AllByRecursion Q xs
all_weaker P Q f [] h = tt
all_weaker P Q f (x ∷ xs) h = (f x h.0, all_weaker P Q f xs h.1)

pub all_map : {X Y : Type 0} (f : X → Y) (P : Y → Type 0) (xs : List X) → AllByRecursion (λ x. P (f x)) xs → AllByRecursion P (map f xs)
all_map f P [] h = tt
all_map f P (x ∷ xs) h = (h.0, all_map f P xs h.1)

-- what passes a filter has what each element that passes has
pub all_passed : {X : Type 0} (P Q : X → Type 0) (p : X → Bool) → ((x : X) → p x ≡ true → P x → Q x) → (xs : List X) → AllByRecursion P xs → AllByRecursion Q (filter p xs)
all_passed P Q p f [] h = tt
all_passed P Q p f (x ∷ xs) h = chosen (p x) refl (all_passed P Q p f xs h.1)
  where
    chosen : (b : Bool) → p x ≡ b → AllByRecursion Q (filter p xs) → AllByRecursion Q (cond b (x ∷ filter p xs) (filter p xs))
    chosen true is rest = (f x is h.0, rest)
    chosen false is rest = rest

pub all_filter : {X : Type 0} (P : X → Type 0) (p : X → Bool) (xs : List X) → AllByRecursion P xs → AllByRecursion P (filter p xs)
all_filter P p xs h = all_passed P P p (λ x is y. y) xs h

pub all_at : {X : Type 0} (P : X → Type 0) (xs : List X) (i : ℕ) (d : X) → AllByRecursion P xs → i < length xs → P (get_or xs i d)
all_at P [] i d h l = absurd (omega arith)
all_at P (x ∷ xs) zero d h l = h.0
all_at P (x ∷ xs) (suc i) d h l = all_at P xs i d h.1 (omega arith)

-- LENGTHS

pub few : {X : Type 0} (p : X → Bool) (xs : List X) → length (filter p xs) ≤ length xs
few p [] = omega arith
few p (x ∷ xs) = chosen (p x) (few p xs)
  where
    chosen : (b : Bool) → length (filter p xs) ≤ length xs → length (cond b (x ∷ filter p xs) (filter p xs)) ≤ length (x ∷ xs)
    chosen true h = omega arith
    chosen false h = omega arith

-- without what is found there are fewer; the filter leaves out more than what may be found
pub fewer : {X : Type 0} (q p : X → Bool) → ((x : X) → q x ≡ true → p x ≡ false) → (xs : List X) (y : X) → find q xs ≡ Some y → length (filter p xs) + 1 ≤ length xs
fewer q p f [] y e = absurd (cc)
fewer q p f (x ∷ xs) y e = chosen (q x) (p x) refl refl e (few p xs) (fewer q p f xs y)
  where
    chosen : (b c : Bool) → q x ≡ b → p x ≡ c → cond b (Some x) (find q xs) ≡ Some y → length (filter p xs) ≤ length xs
        → (find q xs ≡ Some y → length (filter p xs) + 1 ≤ length xs) → length (cond c (x ∷ filter p xs) (filter p xs)) + 1 ≤ length (x ∷ xs)
    chosen true true qx px e h k = let no = f x qx in absurd (cc)
    chosen true false qx px e h k = omega arith
    chosen false true qx px e h k = let m = k e in omega arith
    chosen false false qx px e h k = omega arith

-- FINDS

-- what is found passes, and has what each element has
pub found : {X : Type 0} (q : X → Bool) (P : X → Type 0) (xs : List X) (y : X) → AllByRecursion P xs → find q xs ≡ Some y → (q y ≡ true) × P y
found q P [] y all e = absurd (cc)
found q P (x ∷ xs) y all e = chosen (q x) refl e (found q P xs y all.1)
  where
    chosen : (b : Bool) → q x ≡ b → cond b (Some x) (find q xs) ≡ Some y → (find q xs ≡ Some y → (q y ≡ true) × P y) → (q y ≡ true) × P y
    chosen true is e k = let same : x ≡ y = cc in (ap q (sym same) ∙ is, subst P same all.0)
    chosen false is e k = k e

-- where nothing is found, no element passes
pub none_passes : {X : Type 0} (q : X → Bool) (xs : List X) → find q xs ≡ None → AllByRecursion (λ x. q x ≡ false) xs
none_passes q [] e = tt
none_passes q (x ∷ xs) e = chosen (q x) refl e (none_passes q xs)
  where
    chosen : (b : Bool) → q x ≡ b → cond b (Some x) (find q xs) ≡ None → (find q xs ≡ None → AllByRecursion (λ x. q x ≡ false) xs) → (q x ≡ false) × AllByRecursion (λ x. q x ≡ false) xs
    chosen true is e k = absurd (cc)
    chosen false is e k = (is, k e)

module _ {X : Type 0} (q p : X → Bool) (b : Bool) (h : (x : X) → q x ≡ true → p x ≡ b) where
  none_at : (v : Bool) → ◌≡◌ {A = Option X} None (cond v None None)
  none_at true = refl
  none_at false = refl

  head : (x : X) (xs : List X) → find q (filter p xs) ≡ cond b (find q xs) None → (c d : Bool) → q x ≡ c → p x ≡ d
      → find q (cond d (x ∷ filter p xs) (filter p xs)) ≡ cond b (cond c (Some x) (find q xs)) None
  head x xs ih true true qx px = rw qx (let e : true ≡ b = sym px ∙ h x qx in rw (sym e) refl)
  head x xs ih true false qx px = let e : false ≡ b = sym px ∙ h x qx in ih ∙ rw (sym e) refl
  head x xs ih false true qx px = rw qx ih
  head x xs ih false false qx px = ih

  -- a filter that answers b at each element that may be found
  pub find_filter : (xs : List X) → find q (filter p xs) ≡ cond b (find q xs) None
  find_filter [] = none_at b
  find_filter (x ∷ xs) = head x xs (find_filter xs) (q x) (p x) refl refl
