-- The turns that views tell of, as lists.
use Rattle.std.proofs.Common.{◌≡◌, ◌∙◌, zero, suc, List, [], ◌∷◌, ◌++◌, sym, refl, arith}
use Rattle.std.proofs.lemmas.List.Elements.{All-cons, All-contains, All-contains_itself, All-nil, All-weaker, Contains-append_left, Contains-append_right}
use Rattle.std.specs.List.{All, Contains}
use Rattle.truncation_list.specs.declared.book.FrontedBook.{FrontedBook}
use Rattle.turnstile.specs.declared.view.Made.{Made}
use Rattle.turnstile.specs.Views.{made_of, notes}

-- A LIST OF TWO PARTS

pub front_of : {A : Type 0} (P : A → Type 0) (xs ys : List A) → All P (xs ++ ys) → All P xs
front_of P xs ys all = All-weaker (Contains xs) P (λ x c. All-contains P (xs ++ ys) x all (Contains-append_left xs ys x c)) xs (All-contains_itself xs)

pub back_of : {A : Type 0} (P : A → Type 0) (xs ys : List A) → All P (xs ++ ys) → All P ys
back_of P xs ys all = All-weaker (Contains ys) P (λ y c. All-contains P (xs ++ ys) y all (Contains-append_right xs ys y c)) ys (All-contains_itself ys)

-- what is in a list of one thing is that thing
pub the_one : {A : Type 0} (a b : A) → Contains (a ∷ []) b → a ≡ b
the_one a b (zero, _, e) = e
the_one a b (suc k, lt, _) = absurd (omega arith)

pub in_none : {A : Type 0} (b : A) → Contains [] b → ⊥
in_none b (k, lt, _) = omega arith

-- THE NOTES OF A TURN

module _ {C N M R X : Type 0} (book : C → FrontedBook) (shown : C → X) (note : M → R → X → X → N) (found left : C) where
  pub notes_left : (xs : List M) (ys : List R) → All (λ (m : Made N). m.left ≡ book left) (notes book shown note found left xs ys)
  notes_left [] ys = All-nil (λ (m : Made N). m.left ≡ book left)
  notes_left (x ∷ xs) [] = All-nil (λ (m : Made N). m.left ≡ book left)
  notes_left (x ∷ xs) (y ∷ ys) = All-cons (λ (m : Made N). m.left ≡ book left) (made_of book shown note x y found left) [] refl (All-nil (λ (m : Made N). m.left ≡ book left))

  pub notes_found : (xs : List M) (ys : List R) → All (λ (m : Made N). m.found ≡ book found) (notes book shown note found left xs ys)
  notes_found [] ys = All-nil (λ (m : Made N). m.found ≡ book found)
  notes_found (x ∷ xs) [] = All-nil (λ (m : Made N). m.found ≡ book found)
  notes_found (x ∷ xs) (y ∷ ys) = All-cons (λ (m : Made N). m.found ≡ book found) (made_of book shown note x y found left) [] refl (All-nil (λ (m : Made N). m.found ≡ book found))

  -- a turn has one note at most
  pub notes_are_one : (xs : List M) (ys : List R) (m n : Made N) → Contains (notes book shown note found left xs ys) m → Contains (notes book shown note found left xs ys) n → m ≡ n
  notes_are_one [] ys m n c d = absurd (in_none m c)
  notes_are_one (x ∷ xs) [] m n c d = absurd (in_none m c)
  notes_are_one (x ∷ xs) (y ∷ ys) m n c d = sym (the_one (made_of book shown note x y found left) m c) ∙ the_one (made_of book shown note x y found left) n d
