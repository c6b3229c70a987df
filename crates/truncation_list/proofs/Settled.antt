-- after a purge no cut lies within a later one, also with the cut that it made room for
use Rattle.std.proofs.Common.{ℕ, ◌≡◌, ◌||◌, refl, Bool, true, false, cond, List, [], ◌∷◌, ◌++◌, Option, Some}
use Rattle.std.specs.List.{list_any}
use Rattle.truncation_list.specs.declared.book.Cut.{Cut}
use Rattle.truncation_list.specs.declared.cover.Cover.{Cover}
use Rattle.truncation_list.specs.Contains.{contains}
use Rattle.truncation_list.specs.Listed.{IsSettled}
use Rattle.truncation_list.specs.Purge.{goes, is_old, is_outdone, is_within, remaining}

none_of : (s t : Bool) → (s || t) ≡ false → (s ≡ false) × (t ≡ false)
none_of true t h = absurd (cc)
none_of false t h = (refl, h)

pub neither : (s t : Bool) → s ≡ false → t ≡ false → (s || t) ≡ false
neither true t h k = absurd (cc)
neither false t h k = k

module _ (p : Cut → Bool) where
  none_at : (x : Cut) (rest : List Cut) (v : Bool) → p x ≡ false → list_any p rest ≡ false → list_any p (cond v rest (x ∷ rest)) ≡ false
  none_at x rest true a b = b
  none_at x rest false a b = neither (p x) (list_any p rest) a b

  none_remaining : (cover : Option Cover) (least : Option ℕ) (cuts : List Cut) → list_any p cuts ≡ false → list_any p (remaining cover least cuts) ≡ false
  none_remaining cover least [] h = h
  none_remaining cover least (x ∷ xs) h =
      let n = none_of (p x) (list_any p xs) h in
      none_at x (remaining cover least xs) (goes cover least xs x) n.0 (none_remaining cover least xs n.1)

  none_with : (cuts : List Cut) (k : Cut) → list_any p cuts ≡ false → p k ≡ false → list_any p (cuts ++ k ∷ []) ≡ false
  none_with [] k h a = neither (p k) false a refl
  none_with (x ∷ xs) k h a =
      let n = none_of (p x) (list_any p xs) h in
      neither (p x) (list_any p (xs ++ k ∷ [])) n.0 (none_with xs k n.1 a)

remaining_at : (cover : Option Cover) (least : Option ℕ) (x : Cut) (xs : List Cut) (v : Bool) → goes cover least xs x ≡ v → IsSettled (remaining cover least xs) → IsSettled (cond v (remaining cover least xs) (x ∷ remaining cover least xs))
remaining_at cover least x xs true g h = h
remaining_at cover least x xs false g h =
    let n = none_of (is_within cover x || is_old least x) (is_outdone xs x) g in
    (none_remaining (λ other. contains other.cover x.cover) cover least xs n.1, h)

pub remaining_settled : (cover : Option Cover) (least : Option ℕ) (cuts : List Cut) → IsSettled (remaining cover least cuts)
remaining_settled cover least [] = tt
remaining_settled cover least (x ∷ xs) = remaining_at cover least x xs (goes cover least xs x) refl (remaining_settled cover least xs)

added_at : (k : Cut) (least : Option ℕ) (x : Cut) (xs : List Cut) (v : Bool) → goes (Some k.cover) least xs x ≡ v → IsSettled (remaining (Some k.cover) least xs ++ k ∷ []) → IsSettled (cond v (remaining (Some k.cover) least xs) (x ∷ remaining (Some k.cover) least xs) ++ k ∷ [])
added_at k least x xs true g h = h
added_at k least x xs false g h =
    let n = none_of (is_within (Some k.cover) x || is_old least x) (is_outdone xs x) g in
    let w = none_of (is_within (Some k.cover) x) (is_old least x) n.0 in
    let p : Cut → Bool = λ other. contains other.cover x.cover in
    (none_with p (remaining (Some k.cover) least xs) k (none_remaining p (Some k.cover) least xs n.1) w.0, h)

pub added_settled : (k : Cut) (least : Option ℕ) (cuts : List Cut) → IsSettled (remaining (Some k.cover) least cuts ++ k ∷ [])
added_settled k least [] = (refl, tt)
added_settled k least (x ∷ xs) = added_at k least x xs (goes (Some k.cover) least xs x) refl (added_settled k least xs)
