-- The layers, each at the place of its number.
use Rattle.std.proofs.Common.{ℕ, ◌≡◌, ◌≢◌, ◌+◌, ◌<◌, ◌⊎◌, inl, inr, suc, zero, List, [], ◌∷◌, ◌++◌, length, length-append, set, slice_get, Some, refl, sym, ap, ◌∙◌, arith}
use Rattle.catalog.specs.declared.catalogue.Policy.{Policy}
use Rattle.expiry_policy.specs.Layers.{AreBare, OfLayer}

module _ {X : Type 0} where
  slice_get-push : (xs : List X) (x : X) (i : ℕ) (y : X) → slice_get (xs ++ x ∷ []) i ≡ Some y → (slice_get xs i ≡ Some y) ⊎ ((i ≡ length xs) × (x ≡ y))
  slice_get-push [] x zero y e = inr (refl, cc)
  slice_get-push [] x (suc i) y e = absurd (cc)
  slice_get-push (z ∷ zs) x zero y e = inl e
  slice_get-push (z ∷ zs) x (suc i) y e = elim (slice_get-push zs x i y e) [ inl h ↦ inl h | inr h ↦ inr (ap suc h.0, h.1) ]

  pub slice_get-set_other : (xs : List X) (at i : ℕ) (x : X) → i ≢ at → slice_get (set xs at x) i ≡ slice_get xs i
  slice_get-set_other [] at i x n = refl
  slice_get-set_other (y ∷ ys) zero zero x n = absurd (n refl)
  slice_get-set_other (y ∷ ys) zero (suc i) x n = refl
  slice_get-set_other (y ∷ ys) (suc at) zero x n = refl
  slice_get-set_other (y ∷ ys) (suc at) (suc i) x n = slice_get-set_other ys at i x (λ e. n (ap suc e))

  pub slice_get-set_same : (xs : List X) (at : ℕ) (x : X) → at < length xs → slice_get (set xs at x) at ≡ Some x
  slice_get-set_same [] at x h = absurd (omega arith)
  slice_get-set_same (y ∷ ys) zero x h = refl
  slice_get-set_same (y ∷ ys) (suc at) x h = slice_get-set_same ys at x (omega arith)

-- one layer more of which nothing is held
pub bare_more : (p : Policy) (count : ℕ) (layers : List OfLayer) (l : OfLayer) → AreBare p count layers → l ≡ record { number = count; policy = p; uses = []; spare = l.spare } → AreBare p (count + 1) (layers ++ l ∷ [])
bare_more p count layers l bare is = record {
  size = length-append layers (l ∷ []) ∙ ap (λ n. n + 1) bare.size;
  number = λ i k e. elim (slice_get-push layers l i k e) [ inl h ↦ bare.number i k h | inr h ↦ ap (λ (k : OfLayer). k.number) (sym h.1 ∙ is) ∙ sym (h.0 ∙ bare.size) ];
  policy = λ i k e. elim (slice_get-push layers l i k e) [ inl h ↦ bare.policy i k h | inr h ↦ ap (λ (k : OfLayer). k.policy) (sym h.1 ∙ is) ];
  bare = λ i k e. elim (slice_get-push layers l i k e) [ inl h ↦ bare.bare i k h | inr h ↦ ap (λ (k : OfLayer). k.uses) (sym h.1 ∙ is) ];
}
