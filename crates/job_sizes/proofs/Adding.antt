-- The bytes at the places of a job, added up one place after the other.
use Rattle.std.proofs.Common.{ℕ, zero, suc, ◌≡◌, ◌+◌, ◌<◌, List, [], ◌∷◌, length, get_or, take, slice_get, IfSome, refl, ap, sym, ◌∙◌, arith}
use Rattle.std.specs.List.{sum_by}
use Rattle.std.proofs.lemmas.List.Sums.{sum_by_more}
use Rattle.catalog.specs.declared.catalogue.Catalogue.{Catalogue}
use Rattle.job_forms.specs.Places.{Cut}
use Rattle.job_sizes.specs.Sizes.{place_bytes}
use Rattle.truncation_list.specs.declared.cover.Cover.{Cover}

module _ {X : Type 0} (f : X → ℕ) where
  got : (xs : List X) (i : ℕ) (d : X) (n : ℕ) → i < length xs → IfSome (slice_get xs i) (λ p. n ≡ f p) → f (get_or xs i d) ≡ n
  got [] i d n within told = absurd (omega (arith, within))
  got (x ∷ xs) zero d n within told = sym told
  got (x ∷ xs) (suc i) d n within told = got xs i d n (omega (arith, within)) told

  -- what is told of the next one is added
  pub sum_next : (xs : List X) (i n : ℕ) → i < length xs → IfSome (slice_get xs i) (λ p. n ≡ f p) → sum_by f (take (i + 1) xs) ≡ sum_by f (take i xs) + n
  sum_next [] i n within told = absurd (omega (arith, within))
  sum_next (x ∷ xs) i n within told = sum_by_more f (x ∷ xs) i x within ∙ ap (λ (m : ℕ). sum_by f (take i (x ∷ xs)) + m) (got (x ∷ xs) i x n within told)

-- a cut has no bytes
pub none_of_cut : (c : Catalogue) (cover : Cover) (place : ℕ) → IfSome (slice_get (Cut cover ∷ []) place) (λ p. 0 ≡ place_bytes c p)
none_of_cut c cover zero = refl
none_of_cut c cover (suc place) = tt
