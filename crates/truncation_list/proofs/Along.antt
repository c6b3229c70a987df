-- what a look along a list of slots says of the whole order
use Rattle.std.proofs.Common.{ℕ, ◌≡◌, ◌<◌, ◌≤◌, ◌∙◌, inl, inr, ap, refl, subst, arith, Bool, true, false, List, length, map, get_or, Option, Some, None, IsTrue}
use Rattle.std.specs.Prelude.{filter}
use Rattle.std.specs.List.{All, Contains}
use Rattle.std.proofs.lemmas.Bool.{cases_eq, cases_lt}
use Rattle.std.proofs.lemmas.List.{get_or-map, length-map}
use Rattle.std.proofs.lemmas.List.Elements.{All-contains, All-contains_itself, All-map, Contains-get_or}
use Rattle.matrix_geometry.specs.declared.address.Address.{Address}
use Rattle.matrix_geometry.specs.declared.matrix.Matrix.{Matrix}
use Rattle.slab.specs.Slab.{Slab}
use Rattle.truncation_list.specs.declared.book.Cut.{Cut}
use Rattle.truncation_list.specs.declared.cover.Cover.{Cover}
use Rattle.truncation_list.specs.Contains.{contains}
use Rattle.truncation_list.specs.Covers.{covers}
use Rattle.truncation_list.specs.Index.{first_list, last_list, standing, stands}
use Rattle.truncation_list.specs.Listed.{IsLastCovering}
use Rattle.truncation_list.specs.Purge.{IsByNumber}
use Rattle.truncation_list.specs.Slots.{cut_in}
use Rattle.truncation_list.proofs.Answering.{any_of}
use Rattle.truncation_list.proofs.Filters.{filter_keeps}
use Rattle.truncation_list.proofs.InSlots.{all_kept}
use Rattle.truncation_list.proofs.Outermost.{number_lt}
use Rattle.truncation_list.proofs.Standing.{Meeting, contains_meets}

each_of : (P : ℕ → Type 0) (xs : List ℕ) → ((x : ℕ) → Contains xs x → P x) → All P xs
each_of P xs h = λ k d l. h (get_or xs k d) (Contains-get_or xs k d l)

pub of_slots : (f : ℕ → Cut) (P : Cut → Type 0) (xs : List ℕ) → All P (map f xs) → All (λ x. P (f x)) xs
of_slots f P xs h = λ k d l. subst P (get_or-map f xs k d (f d) l) (h k (f d) (let n = length-map xs f in omega (arith, n)))

-- what holds of the slots that pass holds of each one, where it holds of those that don't
module _ (p : ℕ → Bool) (P : ℕ → Type 0) (xs : List ℕ) where
  pub by_passing : All P (filter p xs) → ((x : ℕ) → p x ≡ false → P x) → All P xs
  by_passing h others = each_of P xs (λ x c. at x c (p x) refl)
    where
      at : (x : ℕ) → Contains xs x → (v : Bool) → p x ≡ v → P x
      at x c true e = All-contains P (filter p xs) x h (filter_keeps p xs x c e)
      at x c false e = others x e

false_of : (v : Bool) → (IsTrue v → ⊥) → v ≡ false
false_of true h = absurd (h refl)
false_of false h = refl

clash : (v : Bool) → IsTrue v → v ≡ false → ⊥
clash true t f = absurd (cc)
clash false t f = absurd (cc)

-- the last cut that covers a tile is among those of the tile's list
pub last_over : (f : ℕ → Cut) (p : ℕ → Bool) (xs : List ℕ) (m : Matrix) (a : Address) (result : Option ℕ) → ((x : ℕ) → IsTrue (covers (f x).cover m a) → IsTrue (p x)) → IsLastCovering (map f (filter p xs)) m a result → IsLastCovering (map f xs) m a result
last_over f p xs m a None stands h =
    All-map (λ cut. covers cut.cover m a ≡ false) f xs
    (by_passing p (λ x. covers (f x).cover m a ≡ false) xs (of_slots f (λ cut. covers cut.cover m a ≡ false) (filter p xs) h) (λ x e. false_of (covers (f x).cover m a) (λ t. clash (p x) (stands x t) e)))
last_over f p xs m a (Some number) stands h = (
  any_of (λ cut. (cut.number ≡ number) × IsTrue (covers cut.cover m a)) (map f xs) h.0.1
      (All-contains (Contains (map f xs)) (map f (filter p xs)) h.0.1 (all_kept f (Contains (map f xs)) p xs (All-contains_itself (map f xs))) (h.0.0, h.0.2, h.0.3)) h.0.4,
  All-map (λ cut. IsTrue (covers cut.cover m a) → cut.number ≤ number) f xs
      (by_passing p (λ x. IsTrue (covers (f x).cover m a) → (f x).number ≤ number) xs (of_slots f (λ cut. IsTrue (covers cut.cover m a) → cut.number ≤ number) (filter p xs) h.1) (λ x e t. absurd (clash (p x) (stands x t) e))),
)

-- where no list of a cover's zooms has a cut within it, none is
pub none_is_within : (slots : Slab Cut) (order : List ℕ) (cover : Cover) → ((k : ℕ) → first_list cover ≤ k → k ≤ last_list cover → All (λ slot. contains cover (cut_in slots slot).cover ≡ false) (standing cover.layer cover.grid k slots order)) → All (λ slot. contains cover (cut_in slots slot).cover ≡ false) order
none_is_within slots order cover h =
    each_of (λ slot. contains cover (cut_in slots slot).cover ≡ false) order (λ x c. false_of (contains cover (cut_in slots x).cover) (λ t. clash (contains cover (cut_in slots x).cover) t (at x c (contains_meets cover (cut_in slots x).cover t))))
  where
    at : (x : ℕ) → Contains order x → Meeting cover (cut_in slots x).cover → contains cover (cut_in slots x).cover ≡ false
    at x c w =
        All-contains (λ slot. contains cover (cut_in slots slot).cover ≡ false) (standing cover.layer cover.grid w.k slots order) x (h w.k w.first w.last)
        (filter_keeps (λ slot. stands cover.layer cover.grid w.k (cut_in slots slot).cover) order x c w.stands)

-- THE PLACE OF A SLOT

-- the first place whose number is no less is that of the slot with the number
pub place_is : (f : ℕ → Cut) (order : List ℕ) (slot i : ℕ) (d : Cut) → IsByNumber (map f order) → Contains order slot → ((j : ℕ) → j < i → (get_or (map f order) j d).number < (f slot).number) → ((j : ℕ) → i ≤ j → j < length order → (f slot).number ≤ (get_or (map f order) j d).number) → (i < length order) × (get_or (map f order) i d ≡ f slot)
place_is f order slot i d o c before from = elim (cases_lt c.0 i) [ inl l ↦ absurd (too_early l) | inr b ↦ elim (cases_eq i c.0) [ inl e ↦ (omega (arith, c.1, e), ap (λ (j : ℕ). get_or (map f order) j d) e ∙ at) | inr ne ↦ absurd (too_late (omega arith)) ] ]
  where
    long : length (map f order) ≡ length order
    long = length-map order f

    at : get_or (map f order) c.0 d ≡ f slot
    at = get_or-map f order c.0 slot d c.1 ∙ ap f c.2

    too_early : c.0 < i → ⊥
    too_early l = let less = before c.0 l in let same = ap (λ (k : Cut). k.number) at in omega (arith, less, same)

    too_late : i < c.0 → ⊥
    too_late l =
        let within = c.1 in
        let less = number_lt (map f order) i c.0 d o l (omega (arith, within, long)) in
        let more = from i (omega arith) (omega (arith, l, within)) in
        let same = ap (λ (k : Cut). k.number) at in
        omega (arith, less, more, same)
