-- lists after a filter
use Rattle.std.proofs.Common.{ℕ, zero, suc, ◌≡◌, ◌<◌, ◌≤◌, refl, ap, ◌∙◌, sym, arith, Bool, true, false, cond, List, [], ◌∷◌, ◌++◌, length, take, drop, map, get_or, IsTrue}
use Rattle.std.specs.Prelude.{filter}
use Rattle.std.specs.List.{All, Contains, remove}
use Rattle.std.proofs.lemmas.List.{drop-map, map-append, take-map}
use Rattle.std.proofs.lemmas.List.Elements.{All-contains, All-contains_itself, All-filter, All-head, All-tail}

module _ {A : Type 0} where
  keep_both : (p q : A → Bool) (x : A) (xs : List A) → filter p (filter q xs) ≡ filter q (filter p xs) → (u v : Bool) → p x ≡ u → q x ≡ v → filter p (cond v (x ∷ filter q xs) (filter q xs)) ≡ filter q (cond u (x ∷ filter p xs) (filter p xs))
  keep_both p q x xs ih true true e f = rw (e, f, ih) refl
  keep_both p q x xs ih true false e f = rw (f, ih) refl
  keep_both p q x xs ih false true e f = rw (e, ih) refl
  keep_both p q x xs ih false false e f = ih

  -- two filters in either order
  pub filters_swap : (p q : A → Bool) (xs : List A) → filter p (filter q xs) ≡ filter q (filter p xs)
  filters_swap p q [] = refl
  filters_swap p q (x ∷ xs) = keep_both p q x xs (filters_swap p q xs) (p x) (q x) refl refl

  -- tests that agree on the elements
  pub filter_where : (p q : A → Bool) (xs : List A) → All (λ x. p x ≡ q x) xs → filter p xs ≡ filter q xs
  filter_where p q [] h = refl
  filter_where p q (x ∷ xs) h =
      rw (All-head (λ y. p y ≡ q y) x xs h, filter_where p q xs (All-tail (λ y. p y ≡ q y) x xs h)) refl

  pub filter_whole : (p : A → Bool) (xs : List A) → All (λ x. p x ≡ true) xs → filter p xs ≡ xs
  filter_whole p [] h = refl
  filter_whole p (x ∷ xs) h =
      rw (All-head (λ y. p y ≡ true) x xs h, filter_whole p xs (All-tail (λ y. p y ≡ true) x xs h)) refl

  shorter_at : (v : Bool) (x : A) (kept xs : List A) → length kept ≤ length xs → length (cond v (x ∷ kept) kept) ≤ length (x ∷ xs)
  shorter_at true x kept xs h = omega arith
  shorter_at false x kept xs h = omega arith

  pub filter_shorter : (p : A → Bool) (xs : List A) → length (filter p xs) ≤ length xs
  filter_shorter p [] = omega arith
  filter_shorter p (x ∷ xs) = shorter_at (p x) x (filter p xs) xs (filter_shorter p xs)

  in_rest : (x y : A) (xs : List A) → Contains xs y → Contains (x ∷ xs) y
  in_rest x y xs c = (suc c.0, omega (arith, c.1), c.2)

  kept_at : (p : A → Bool) (x y : A) (xs : List A) (k : ℕ) → k < length (x ∷ xs) → get_or (x ∷ xs) k y ≡ y → IsTrue (p y) → (v : Bool) → p x ≡ v → (Contains xs y → Contains (filter p xs) y) → Contains (cond v (x ∷ filter p xs) (filter p xs)) y
  kept_at p x y xs zero l e t true f ih = (0, omega arith, e)
  kept_at p x y xs zero l e t false f ih = absurd (let same = ap p e in cc)
  kept_at p x y xs (suc k) l e t true f ih = in_rest x y (filter p xs) (ih (k, omega arith, e))
  kept_at p x y xs (suc k) l e t false f ih = ih (k, omega arith, e)

  -- an element that passes is kept
  pub filter_keeps : (p : A → Bool) (xs : List A) (y : A) → Contains xs y → IsTrue (p y) → Contains (filter p xs) y
  filter_keeps p [] y c t = let l = c.1 in absurd (omega arith)
  filter_keeps p (x ∷ xs) y c t = kept_at p x y xs c.0 c.1 c.2 t (p x) refl (λ d. filter_keeps p xs y d t)

  -- and each that is kept was there
  pub filter_within : (p : A → Bool) (xs : List A) (y : A) → Contains (filter p xs) y → Contains xs y
  filter_within p xs y c = All-contains (Contains xs) (filter p xs) y (All-filter p (Contains xs) xs (All-contains_itself xs)) c

  fewer_at : (v : Bool) (x : A) (kept xs : List A) → length kept < length xs → length (cond v (x ∷ kept) kept) < length (x ∷ xs)
  fewer_at true x kept xs h = omega arith
  fewer_at false x kept xs h = omega arith

  -- fewer are kept where one doesn't pass
  pub filter_fewer : (p : A → Bool) (xs : List A) (i : ℕ) (d : A) → i < length xs → p (get_or xs i d) ≡ false → length (filter p xs) < length xs
  filter_fewer p [] i d l e = absurd (omega arith)
  filter_fewer p (x ∷ xs) zero d l e = rw e (let h = filter_shorter p xs in omega (arith, h))
  filter_fewer p (x ∷ xs) (suc i) d l e = fewer_at (p x) x (filter p xs) xs (filter_fewer p xs i d (omega arith) e)

  -- an element taken out that doesn't pass
  pub filter_removed : (p : A → Bool) (xs : List A) (i : ℕ) (d : A) → i < length xs → p (get_or xs i d) ≡ false → filter p (remove xs i) ≡ filter p xs
  filter_removed p [] i d l e = absurd (omega arith)
  filter_removed p (x ∷ xs) zero d l e = rw e refl
  filter_removed p (x ∷ xs) (suc i) d l e =
      ap (λ (ys : List A). cond (p x) (x ∷ ys) ys) (filter_removed p xs i d (omega arith) e)

module _ {A B : Type 0} where
  pub map_where : (f g : A → B) (xs : List A) → All (λ x. f x ≡ g x) xs → map f xs ≡ map g xs
  map_where f g [] h = refl
  map_where f g (x ∷ xs) h =
      rw (All-head (λ y. f y ≡ g y) x xs h, map_where f g xs (All-tail (λ y. f y ≡ g y) x xs h)) refl

  mapped_at : (f : A → B) (p : B → Bool) (x : A) (v : Bool) (xs : List A) → filter p (map f xs) ≡ map f (filter (λ y. p (f y)) xs) → cond v (f x ∷ filter p (map f xs)) (filter p (map f xs)) ≡ map f (cond v (x ∷ filter (λ y. p (f y)) xs) (filter (λ y. p (f y)) xs))
  mapped_at f p x true xs e = ap (λ (ys : List B). f x ∷ ys) e
  mapped_at f p x false xs e = e

  pub filter-map : (f : A → B) (p : B → Bool) (xs : List A) → filter p (map f xs) ≡ map f (filter (λ x. p (f x)) xs)
  filter-map f p [] = refl
  filter-map f p (x ∷ xs) = mapped_at f p x (p (f x)) xs (filter-map f p xs)

  pub map-remove : (f : A → B) (xs : List A) (i : ℕ) → map f (remove xs i) ≡ remove (map f xs) i
  map-remove f xs i =
      map-append f (take i xs) (drop (suc i) xs)
      ∙ ap (λ (front : List B). front ++ map f (drop (suc i) xs)) (sym (take-map f i xs)) ∙ ap (λ (back : List B). take i (map f xs) ++ back) (sym (drop-map f (suc i) xs))
