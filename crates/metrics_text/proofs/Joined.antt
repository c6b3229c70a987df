-- Lines of samples and of families, one after the other.
use Rattle.std.proofs.Common.{◌≡◌, ℕ, zero, suc, ◌+◌, ◌-◌, ◌/◌, ◌%◌, ◌<◌, List, [], ◌∷◌, ◌++◌, flat_map, map, refl, sym, ap, ◌∙◌, append_assoc, arith}
use Rattle.std.proofs.lemmas.List.Concat.{flat_map-append}
use Rattle.metrics_text.specs.Exposition.{ended, help_line, last_digits, lines_of, metrics_of, sample_line, type_line}
use Rattle.metrics_text.specs.declared.family.Family.{Family}

of_map : {X : Type 0} (f : List ℕ → List ℕ) (g : X → List ℕ) (xs : List X) → flat_map f (map g xs) ≡ flat_map (λ x. f (g x)) xs
of_map f g [] = refl
of_map f g (x ∷ xs) = ap (λ (ys : List ℕ). f (g x) ++ ys) (of_map f g xs)

-- the lines of a family
pub family_text : (f : Family) (text : List ℕ) → ((text ++ ended (help_line f)) ++ ended (type_line f)) ++ flat_map (λ s. ended (sample_line f.name.text s)) f.samples.items ≡ text ++ flat_map ended (lines_of f)
family_text f text =
    let samples = flat_map ended (map (sample_line f.name.text) f.samples.items) in
    ap (λ (ys : List ℕ). ((text ++ ended (help_line f)) ++ ended (type_line f)) ++ ys) (sym (of_map ended (sample_line f.name.text) f.samples.items))
    ∙ append_assoc (text ++ ended (help_line f)) (ended (type_line f)) samples
    ∙ append_assoc text (ended (help_line f)) (ended (type_line f) ++ samples)

-- the lines of all families
pub whole_text : (families : List Family) → flat_map (λ f. flat_map ended (lines_of f)) families ≡ metrics_of families
whole_text [] = refl
whole_text (f ∷ families) = ap (λ (ys : List ℕ). flat_map ended (lines_of f) ++ ys) (whole_text families) ∙ sym (flat_map-append ended (lines_of f) (flat_map lines_of families))

digits_more : (k n : ℕ) → 0 < k → last_digits (k - 1) (n / 10) ++ (48 + n % 10) ∷ [] ≡ last_digits k n
unfolding last_digits
digits_more zero n some = absurd (omega (arith, some))
digits_more (suc k) n some = let e : suc k - 1 ≡ k = omega arith in rw e refl

-- the last digit behind the others
pub digit_added : (old mid new : List ℕ) (k n : ℕ) → 0 < k → mid ≡ old ++ last_digits (k - 1) (n / 10) → new ≡ mid ++ (48 + n % 10) ∷ [] → new ≡ old ++ last_digits k n
digit_added old mid new k n some so_far more =
    more ∙ ap (λ (ys : List ℕ). ys ++ (48 + n % 10) ∷ []) so_far ∙ append_assoc old (last_digits (k - 1) (n / 10)) ((48 + n % 10) ∷ []) ∙ ap (λ (ys : List ℕ). old ++ ys) (digits_more k n some)
