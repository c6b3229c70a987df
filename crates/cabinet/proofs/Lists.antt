-- What holds of each element of a list.
use Rattle.std.specs.Prelude.{slice_get}
use Rattle.std.proofs.Common.{ℕ, zero, suc, ◌≡◌, Bool, true, false, cond, ◌||◌, List, [], ◌∷◌, ◌++◌, map, filter, fold, take, length, Some, find, refl, ap, subst}
use Rattle.std.specs.List.{AllByRecursion, Contains, list_any}
use Rattle.std.specs.Option.{option_map}
use Rattle.std.proofs.lemmas.List.Elements.{All-from_recursion, All-contains, All-contains_itself, recursion_from_All}
use Rattle.metatile_locks.proofs.Lists.{all_joined, found}

module _ {X : Type 0} (P : X → Type 0) where
  pub all_push : (xs : List X) (y : X) → AllByRecursion P xs → P y → AllByRecursion P (xs ++ y ∷ [])
  all_push xs y a b = all_joined P xs (y ∷ []) a (b, tt)

  pub all_left : (xs ys : List X) → AllByRecursion P (xs ++ ys) → AllByRecursion P xs
  all_left [] ys a = tt
  all_left (x ∷ xs) ys a = (a.0, all_left xs ys a.1)

  pub all_right : (xs ys : List X) → AllByRecursion P (xs ++ ys) → AllByRecursion P ys
  all_right [] ys a = a
  all_right (x ∷ xs) ys a = all_right xs ys a.1

  pub all_take : (n : ℕ) (xs : List X) → AllByRecursion P xs → AllByRecursion P (take n xs)
  all_take zero xs a = tt
  all_take (suc n) [] a = tt
  all_take (suc n) (x ∷ xs) a = (a.0, all_take n xs a.1)

  pub all_found : (q : X → Bool) (xs : List X) (y : X) → AllByRecursion P xs → find q xs ≡ Some y → P y
  all_found q xs y a e = (found q P xs y a e).1

  pub all_contained : (xs : List X) (x : X) → AllByRecursion P xs → Contains xs x → P x
  all_contained xs x a k = All-contains P xs x (All-from_recursion P xs a) k

  -- the first of two lists, as far as it is cut off
  pub all_front : (xs ys : List X) → AllByRecursion P xs → AllByRecursion P (take (length xs) (xs ++ ys))
  all_front [] ys a = tt
  all_front (x ∷ xs) ys a = (a.0, all_front xs ys a.1)

pub all_both : {X : Type 0} (P Q : X → Type 0) (xs : List X) → AllByRecursion P xs → AllByRecursion Q xs → AllByRecursion (λ x. P x × Q x) xs
all_both P Q [] a b = tt
all_both P Q (x ∷ xs) a b = ((a.0, b.0), all_both P Q xs a.1 b.1)

pub all_of_map : {X Y : Type 0} (f : X → Y) (P : Y → Type 0) (xs : List X) → AllByRecursion P (map f xs) → AllByRecursion (λ x. P (f x)) xs
all_of_map f P [] a = tt
all_of_map f P (x ∷ xs) a = (a.0, all_of_map f P xs a.1)

-- each element, where it is one of the list
pub all_of : {X : Type 0} (P : X → Type 0) (xs : List X) → ((x : X) → Contains xs x → P x) → AllByRecursion P xs
all_of P xs f = recursion_from_All P xs (λ k d l. f _ (All-contains_itself xs k d l))

-- FOLDS

-- a fold over two lists goes over one after the other
pub fold_more : {X Y : Type 0} (f : Y → X → Y) (y : Y) (xs ys : List X) → fold f y (xs ++ ys) ≡ fold f (fold f y xs) ys
fold_more f y [] ys = refl
fold_more f y (x ∷ xs) ys = fold_more f (f y x) xs ys

-- MAPS

pub map_filter : {X Y : Type 0} (f : X → Y) (p : Y → Bool) (xs : List X) → map f (filter (λ x. p (f x)) xs) ≡ filter p (map f xs)
map_filter f p [] = refl
map_filter f p (x ∷ xs) = chosen (p (f x)) (map_filter f p xs)
  where
    chosen : (b : Bool) → map f (filter (λ x. p (f x)) xs) ≡ filter p (map f xs)
        → map f (cond b (x ∷ filter (λ x. p (f x)) xs) (filter (λ x. p (f x)) xs)) ≡ cond b (f x ∷ filter p (map f xs)) (filter p (map f xs))
    chosen true h = ap (λ ys. f x ∷ ys) h
    chosen false h = h

pub find_map : {X Y : Type 0} (f : X → Y) (q : Y → Bool) (xs : List X) → find q (map f xs) ≡ option_map f (find (λ x. q (f x)) xs)
find_map f q [] = refl
find_map f q (x ∷ xs) = chosen (q (f x)) (find_map f q xs)
  where
    chosen : (b : Bool) → find q (map f xs) ≡ option_map f (find (λ x. q (f x)) xs) → cond b (Some (f x)) (find q (map f xs)) ≡ option_map f (cond b (Some x) (find (λ x. q (f x)) xs))
    chosen true h = refl
    chosen false h = h

pub all_got : {X : Type 0} (P : X → Type 0) (xs : List X) (i : ℕ) (x : X) → AllByRecursion P xs → slice_get xs i ≡ Some x → P x
all_got P [] i x a e = absurd (cc)
all_got P (y ∷ ys) zero x a e = let d : y ≡ x = cc in subst P d a.0
all_got P (y ∷ ys) (suc i) x a e = all_got P ys i x a.1 e

-- ANY

pub any_map : {X Y : Type 0} (f : X → Y) (q : Y → Bool) (xs : List X) → list_any q (map f xs) ≡ list_any (λ x. q (f x)) xs
any_map f q [] = refl
any_map f q (x ∷ xs) = ap (λ (v : Bool). q (f x) || v) (any_map f q xs)

-- one of two that are the same
pub either_same : {X : Type 0} (x : X) (v : Bool) → cond v x x ≡ x
either_same x true = refl
either_same x false = refl
