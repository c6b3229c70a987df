-- Segments, their names and their pairs.
use Rattle.std.proofs.Common.{◌≡◌, ◌⊎◌, ℕ, ◌-◌, ◌<◌, ◌≤◌, Bool, true, false, ◌&&◌, List, [], ◌∷◌, ◌++◌, length, take, map, refl, sym, ap, ◌∙◌, arith, inl, inr, append_assoc, append-nil, Bor}
use Rattle.std.specs.Prelude.{Option, nat_lt, zip, slice_index_or}
use Rattle.std.specs.List.{list_all}
use Rattle.std.proofs.lemmas.List.{take-map, length-map}
use Rattle.std.proofs.lemmas.Bool.{lt-ltb, ltb-true}
use Rattle.catalog.specs.declared.catalogue.Catalogue.{Catalogue}
use Rattle.catalog.specs.LookUp.{layer_named}
use Rattle.wmts_rest.specs.Paths.{are_segments, layer_reading, texts_reading}

-- four names at the end
pub four_more : {A : Type 0} (xs ys : List A) (a b c d : A) → ys ≡ (((xs ++ a ∷ []) ++ b ∷ []) ++ c ∷ []) ++ d ∷ [] → ys ≡ xs ++ a ∷ b ∷ c ∷ d ∷ []
four_more [] ys a b c d e = e
four_more (x ∷ xs) ys a b c d e = e ∙ ap (λ t. x ∷ t) (four_more xs _ a b c d refl)

-- one pair more
pub pair_more : {A B : Type 0} (done whole : List (A × B)) (ks ks' : List A) (vs vs' : List B) (k : A) (v : B) → ks ≡ k ∷ ks' → vs ≡ v ∷ vs' → done ++ zip ks vs ≡ whole → (done ++ (k, v) ∷ []) ++ zip ks' vs' ≡ whole
pair_more done whole ks ks' vs vs' k v ke ve e =
    append_assoc done ((k, v) ∷ []) (zip ks' vs') ∙ (rw (ke, ve) at e)

-- no pair is left
zip_left : {A B : Type 0} (ks : List A) (vs : List B) → (ks ≡ []) ⊎ (vs ≡ []) → zip ks vs ≡ []
zip_left [] vs e = refl
zip_left (k ∷ ks) [] e = refl
zip_left (k ∷ ks) (v ∷ vs) (inl e) = absurd (cc)
zip_left (k ∷ ks) (v ∷ vs) (inr e) = absurd (cc)

pub pairs_done : {A B : Type 0} (done whole : List (A × B)) (ks : List A) (vs : List B) → (ks ≡ []) ⊎ (vs ≡ []) → done ++ zip ks vs ≡ whole → done ≡ whole
pairs_done done whole ks vs none e = sym (append-nil done) ∙ ap (λ t. done ++ t) (sym (zip_left ks vs none)) ∙ e

both_true : (a b c d : Bool) → a ≡ true → b ≡ true → c ≡ d → c ≡ (a && b && d)
both_true true true c d ea eb e = e
both_true true false c d ea eb e = absurd (cc)
both_true false b c d ea eb e = absurd (cc)

-- the tests of 6 to 10 segments, all but the last of which were seen to be filled or not
pub segments_test : (xs front : List (Bor (List ℕ))) (filled : Bool) → 5 < length xs → length xs < 11 → front ≡ take (length xs - 1) xs → filled ≡ list_all (λ s. nat_lt 0 (length s)) (map (λ s. s.now) front) → filled ≡ are_segments (map (λ s. s.now) xs)
unfolding are_segments
segments_test xs front filled least most is e =
    rw (length-map xs (λ (s : Bor (List ℕ)). s.now), take-map (λ (s : Bor (List ℕ)). s.now) (length xs - 1) xs)
    (both_true _ _ filled _ (lt-ltb 5 (length xs) least) (lt-ltb (length xs) 11 most) (e ∙ ap (λ f. list_all (λ s. nat_lt 0 (length s)) (map (λ s. s.now) f)) is))

-- as many texts as segments
pub six_texts : {A : Type 0} (segments : List (List ℕ)) (f : List ℕ → A) → are_segments segments ≡ true → 6 ≤ length (map f segments)
unfolding are_segments
six_texts segments f are = rw (length-map segments f) (six (nat_lt 5 (length segments)) _ _ are refl)
  where
    six : (a b d : Bool) → (a && b && d) ≡ true → nat_lt 5 (length segments) ≡ a → 6 ≤ length segments
    six true b d e is = ltb-true 5 (length segments) is
    six false b d e is = absurd (cc)

-- the first text names the layer
pub first_names : (c : Catalogue) (texts : List (List ℕ)) (first : List ℕ) (layer : Option ℕ) → 0 < length texts → first ≡ slice_index_or texts 0 first → layer ≡ layer_named c first → texts_reading c texts ≡ layer_reading c layer texts
first_names c [] first layer some at named = absurd (omega arith)
first_names c (t ∷ ts) first layer some at named =
    ap (λ l. layer_reading c l (t ∷ ts)) (sym (named ∙ ap (λ n. layer_named c n) at))
