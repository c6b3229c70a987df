-- what the slots have after those are freed whose cuts don't stay
use Rattle.std.proofs.Common.{ℕ, ◌≡◌, ◌+◌, ◌∙◌, ap, subst, sym, Bool, cond, List, [], ◌∷◌, map, MutBor, Option, Some, None}
use Rattle.slab.specs.Slab.{RetainsFrom}
use Rattle.truncation_list.specs.declared.book.Cut.{Cut}
use Rattle.truncation_list.specs.declared.cover.Cover.{Cover}
use Rattle.truncation_list.specs.Slots.{stays, staying}

module _ {F : Type 0} (step : F → ℕ → MutBor Cut → Bool → MutBor Cut → F → Type 0) (cover : Option Cover) (least : Option ℕ) (f : F) (says : (key : ℕ) (shown : MutBor Cut) (keep : Bool) (left : MutBor Cut) (next : F) → step f key shown keep left next → (keep ≡ stays cover least shown.now) × (left.now ≡ shown.now) × (next ≡ f)) where
  pub retained_is : (key : ℕ) (old new : List (Option Cut)) → RetainsFrom step f key old new → new ≡ map (staying cover least) old
  retained_is key [] new h = h
  retained_is key (None ∷ rest) new h = h.1 ∙ ap (λ (xs : List (Option Cut)). None ∷ xs) (retained_is (key + 1) rest h.0 h.2)
  retained_is key (Some old ∷ rest) new h =
      let said = says key h.3.shown h.0 h.3.left h.2 h.3.called in
      let keep : h.0 ≡ stays cover least old = said.0 ∙ ap (stays cover least) h.3.shows in
      let same : h.1 ≡ old = sym h.3.leaves ∙ said.1 ∙ h.3.shows in
      h.5
      ∙ ap (λ (v : Bool). cond v (Some h.1) None ∷ h.4) keep
      ∙ ap (λ (k : Cut). cond (stays cover least old) (Some k) None ∷ h.4) same
      ∙ ap (λ (xs : List (Option Cut)). staying cover least (Some old) ∷ xs) (retained_is (key + 1) rest h.4 (subst (λ (g : F). RetainsFrom step g (key + 1) rest h.4) said.2 h.6))
