-- Values that are joined by commas, one after the other.
use Rattle.std.proofs.Common.{◌≡◌, ℕ, zero, suc, ◌+◌, List, [], ◌∷◌, ◌++◌, drop, slice_get, flat_map, Some, None, refl, sym, ap, ◌∙◌, ◌==◌, false, arith, append-nil, append_assoc}
use Rattle.std.proofs.lemmas.Bool.Decides.{nat_tests}
use Rattle.std.specs.List.{join_with_byte}
use Rattle.catalog.specs.declared.layer.Dimension.{Dimension}
use Rattle.kept_lines.specs.Lines.{comma_before, value_text, value_texts}

-- what is yet to be added from a place on
abbrev pub joined_rest : ℕ → List (List ℕ) → List ℕ
joined_rest zero texts = join_with_byte 44 texts
joined_rest (suc place) texts = flat_map (λ text. 44 ∷ text) texts

joined_first : (text : List ℕ) (texts : List (List ℕ)) → join_with_byte 44 (text ∷ texts) ≡ text ++ flat_map (λ t. 44 ∷ t) texts
joined_first text [] = sym (append-nil text)
joined_first text (next ∷ texts) = ap (λ (xs : List ℕ). text ++ 44 ∷ xs) (joined_first next texts)

joined_next : (place : ℕ) (text : List ℕ) (texts : List (List ℕ)) → joined_rest place (text ∷ texts) ≡ comma_before place ++ text ++ joined_rest (suc place) texts
joined_next zero text texts = joined_first text texts
joined_next (suc place) text texts = let e : (suc place == 0) ≡ false = grind (arith, nat_tests) in rw e refl

joined_none : (place : ℕ) → joined_rest place [] ≡ []
joined_none zero = refl
joined_none (suc place) = refl

values_next : (dims : List Dimension) (numbers : List ℕ) (i : ℕ) (d : Dimension) (n : ℕ) → slice_get dims i ≡ Some d → slice_get numbers i ≡ Some n
    → value_texts (drop i dims) (drop i numbers) ≡ value_text d n ∷ value_texts (drop (suc i) dims) (drop (suc i) numbers)
values_next [] numbers i d n e f = let g : None ≡ Some d = e in cc
values_next (x ∷ dims) [] i d n e f = let g : None ≡ Some n = f in cc
values_next (x ∷ dims) (y ∷ numbers) zero d n e f = let g : x ≡ d = cc in let h : y ≡ n = cc in rw (g, h) refl
values_next (x ∷ dims) (y ∷ numbers) (suc i) d n e f = values_next dims numbers i d n e f

no_numbers : (dims : List Dimension) → value_texts dims [] ≡ []
no_numbers [] = refl
no_numbers (d ∷ dims) = refl

no_values : (dims : List Dimension) (numbers : List ℕ) (i : ℕ) → slice_get numbers i ≡ None → value_texts (drop i dims) (drop i numbers) ≡ []
no_values [] numbers zero e = refl
no_values [] numbers (suc i) e = refl
no_values (x ∷ dims) [] zero e = refl
no_values (x ∷ dims) (y ∷ numbers) zero e = cc
no_values (x ∷ dims) [] (suc i) e = no_numbers (drop i dims)
no_values (x ∷ dims) (y ∷ numbers) (suc i) e = no_values dims numbers i e

module _ (dims : List Dimension) (numbers : List ℕ) (i : ℕ) (text whole : List ℕ) (so_far : text ++ joined_rest i (value_texts (drop i dims) (drop i numbers)) ≡ whole) where
  -- the next value is added after its comma
  pub value_added : (d : Dimension) (n : ℕ) (longer : List ℕ) → slice_get dims i ≡ Some d → slice_get numbers i ≡ Some n → longer ≡ text ++ comma_before i ++ value_text d n
      → longer ++ joined_rest (i + 1) (value_texts (drop (i + 1) dims) (drop (i + 1) numbers)) ≡ whole
  value_added d n longer e f g =
      let rest = value_texts (drop (suc i) dims) (drop (suc i) numbers) in
      let next : joined_rest i (value_texts (drop i dims) (drop i numbers)) ≡ comma_before i ++ value_text d n ++ joined_rest (suc i) rest =
      ap (joined_rest i) (values_next dims numbers i d n e f) ∙ joined_next i (value_text d n) rest in
      let one : i + 1 ≡ suc i = omega arith in
      rw (one, g, append_assoc text (comma_before i) (value_text d n), append_assoc text (comma_before i ++ value_text d n) (joined_rest (suc i) rest)) (ap (λ (xs : List ℕ). text ++ xs) (sym next) ∙ so_far)

  -- no number is left
  pub all_added : slice_get numbers i ≡ None → text ≡ whole
  all_added e = let none : joined_rest i (value_texts (drop i dims) (drop i numbers)) ≡ [] = ap (joined_rest i) (no_values dims numbers i e) ∙ joined_none i in sym (append-nil text) ∙ ap (λ (xs : List ℕ). text ++ xs) (sym none) ∙ so_far
