-- A label's value, read again by the format.
use Rattle.std.proofs.Common.{◌≡◌, ℕ, ◌==◌, Bool, true, false, List, [], ◌∷◌, ◌++◌, Some, flat_map, if◌then◌else◌, refl, sym, ap, ◌∙◌}
use Rattle.std.proofs.lemmas.Bool.{eqb-true}
use Rattle.std.specs.Option.{option_map}
use Rattle.metrics_text.specs.Exposition.{help_byte, value_byte}
use Rattle.metrics_text.specs.Reading.{unescaped, value_read, with_front}

-- what holds of either branch holds of the choice
pub choose : (P : List ℕ → Type 0) (t : Bool) (x y : List ℕ) → (t ≡ true → P x) → (t ≡ false → P y) → P (if t then x else y)
choose P true x y f g = f refl
choose P false x y f g = g refl

-- the mark at the end
ends : (behind : List ℕ) → value_read (34 ∷ behind) ≡ Some ([], behind)
unfolding value_read
ends [] = refl
ends (c ∷ rest) = refl

-- an escape
escape : (c v : ℕ) (tail vs behind : List ℕ) → unescaped c ≡ v → value_read tail ≡ Some (vs, behind) → value_read (92 ∷ c ∷ tail) ≡ Some (v ∷ vs, behind)
unfolding value_read
escape c v tail vs behind e so_far = ap (option_map (with_front (unescaped c))) so_far ∙ ap (λ (w : ℕ). Some (w ∷ vs, behind)) e

-- a byte that stands for itself
plain : (v : ℕ) (tail : List ℕ) → (v == 34) ≡ false → (v == 92) ≡ false → value_read (v ∷ tail) ≡ option_map (with_front v) (value_read tail)
unfolding value_read
plain v [] e f = rw e refl
plain v (c ∷ rest) e f = rw (e, f) refl

module _ (v : ℕ) (escaped vs behind : List ℕ) (so_far : value_read (escaped ++ 34 ∷ behind) ≡ Some (vs, behind)) where
  abbrev IsRead : List ℕ → Type 0
  IsRead piece = value_read ((piece ++ escaped) ++ 34 ∷ behind) ≡ Some (v ∷ vs, behind)

  by_escape : (c : ℕ) → unescaped c ≡ v → IsRead (92 ∷ c ∷ [])
  by_escape c e = escape c v (escaped ++ 34 ∷ behind) vs behind e so_far

  by_itself : (v == 34) ≡ false → (v == 92) ≡ false → IsRead (v ∷ [])
  by_itself e f = plain v (escaped ++ 34 ∷ behind) e f ∙ ap (option_map (with_front v)) so_far

  one_more : IsRead (value_byte v)
  one_more =
      choose IsRead (v == 34) (92 ∷ 34 ∷ []) (help_byte v) (λ e. by_escape 34 (sym (eqb-true v 34 e))) (λ no_mark.
      choose IsRead (v == 92) (92 ∷ 92 ∷ []) (if v == 10 then 92 ∷ 110 ∷ [] else v ∷ []) (λ e. by_escape 92 (sym (eqb-true v 92 e))) (λ no_slash.
      choose IsRead (v == 10) (92 ∷ 110 ∷ []) (v ∷ []) (λ e. by_escape 110 (sym (eqb-true v 10 e))) (λ no_end. by_itself no_mark no_slash)))

pub read_back : (value behind : List ℕ) → value_read (flat_map value_byte value ++ 34 ∷ behind) ≡ Some (value, behind)
read_back [] behind = ends behind
read_back (v ∷ vs) behind = one_more v (flat_map value_byte vs) vs behind (read_back vs behind)
