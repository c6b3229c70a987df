-- A choice more.
use Rattle.std.proofs.Common.{ℕ, ◌≡◌, ◌+◌, List, [], ◌∷◌, ◌++◌, drop, length, zero, suc, slice_get, Some, ◌≤◌, inl, inr, refl, sym, ap, subst, ◌∙◌, append_assoc, append-nil, arith}
use Rattle.cabinet.specs.declared.kept.Kept.{Kept}
use Rattle.catalog.specs.declared.catalogue.Catalogue.{Catalogue}
use Rattle.served_covers.specs.OfCatalogue.{IsCoverOf}
use Rattle.truncation_list.specs.declared.book.Cut.{Cut}
use Rattle.carry_over.specs.declared.choosing.Choice.{Choice}
use Rattle.carry_over.specs.declared.choosing.Choice.TheVariants as choice
use Rattle.carry_over.specs.Chosen.{Chooses, ChoosesCuts}
use Rattle.carry_over.specs.Copied.{Adds, IsChoice}

some_is : {A : Type 0} (x y : A) → Some x ≡ Some y → x ≡ y
some_is x y e = cc

-- what is left behind a place begins with what stands there
pub drop_at : {A : Type 0} (xs : List A) (i : ℕ) (x : A) → slice_get xs i ≡ Some x → drop i xs ≡ x ∷ drop (i + 1) xs
drop_at [] i x is = absurd cc
drop_at (y ∷ ys) zero x is = ap (λ (z : _). z ∷ ys) (some_is y x is)
drop_at (y ∷ ys) (suc i) x is = let e : suc (i + 1) ≡ suc i + 1 = omega arith in subst (λ (n : ℕ). drop (suc i) (y ∷ ys) ≡ x ∷ drop n (y ∷ ys)) e (drop_at ys i x is)

pub adds_few : (t : Kept) (x : Choice) (us vs : List Kept) (n m k : ℕ) → Adds t x us n vs m → n ≤ k → m ≤ k + 1
adds_few t choice.Gone us vs n m k adds few = let e = adds.1 in omega (arith, e, few)
adds_few t choice.Roomless us vs n m k adds few = let e = adds.1 in omega (arith, e, few)
adds_few t choice.Taken us vs n m k adds few = let e = adds.1 in omega (arith, e, few)

-- whatever is chosen of what is left, all is chosen then
abbrev pub WillChoose : Catalogue → Catalogue → List Kept → List Kept → List Kept → ℕ → Type 0
WillChoose c d all left chosen roomless = (us : List Kept) (n : ℕ) → Chooses c d left us n → Chooses c d all (chosen ++ us) (roomless + n)

pub choose_more : (c d : Catalogue) (all ts : List Kept) (t : Kept) (x : Choice) (us vs : List Kept) (n m : ℕ) → IsChoice c d t x → Adds t x us n vs m → WillChoose c d all (t ∷ ts) us n → WillChoose c d all ts vs m
choose_more c d all ts t choice.Gone us vs n m is adds will ws k h =
    subst (λ (l : List Kept). Chooses c d all (l ++ ws) (m + k)) (sym adds.0) (subst (λ (i : ℕ). Chooses c d all (us ++ ws) (i + k)) (sym adds.1) (will ws k (inl (is, h))))
choose_more c d all ts t choice.Roomless us vs n m is adds will ws k h =
    let same : n + (k + 1) ≡ m + k = let e = adds.1 in omega (arith, e) in
    subst (λ (l : List Kept). Chooses c d all (l ++ ws) (m + k)) (sym adds.0) (subst (λ (i : ℕ). Chooses c d all (us ++ ws) i) same (will ws (k + 1) (inr (inl (is.0, is.1, (k, refl, h))))))
choose_more c d all ts t choice.Taken us vs n m is adds will ws k h =
    let along : us ++ (t ∷ ws) ≡ vs ++ ws = sym (append_assoc us (t ∷ []) ws) ∙ ap (λ (l : List Kept). l ++ ws) (sym adds.0) in
    subst (λ (l : List Kept). Chooses c d all l (m + k)) along (subst (λ (i : ℕ). Chooses c d all (us ++ (t ∷ ws)) (i + k)) (sym adds.1) (will (t ∷ ws) k (inr (inr (is.0, is.1, (ws, refl, h))))))

pub chosen_now : (c d : Catalogue) (all left chosen : List Kept) (n : ℕ) → left ≡ [] → WillChoose c d all left chosen n → Chooses c d all chosen n
chosen_now c d all left chosen n none will =
    subst (λ (l : List Kept). Chooses c d all l n) (append-nil chosen) (subst (λ (i : ℕ). Chooses c d all (chosen ++ []) i) (omega arith) (will [] 0 (subst (λ (l : List Kept). Chooses c d l [] 0) (sym none) (refl, refl))))

abbrev pub WillChooseCuts : Catalogue → List Cut → List Cut → List Cut → Type 0
WillChooseCuts d all left chosen = (ks : List Cut) → ChoosesCuts d left ks → ChoosesCuts d all (chosen ++ ks)

pub cuts_with : (d : Catalogue) (all cuts : List Cut) (k : Cut) (chosen new : List Cut) → IsCoverOf d k.cover → new ≡ chosen ++ k ∷ [] → WillChooseCuts d all (k ∷ cuts) chosen → WillChooseCuts d all cuts new
cuts_with d all cuts k chosen new is added will ks h =
    subst (ChoosesCuts d all) (sym (append_assoc chosen (k ∷ []) ks) ∙ ap (λ (l : List Cut). l ++ ks) (sym added)) (will (k ∷ ks) (inr (is, (ks, refl, h))))

pub cuts_without : (d : Catalogue) (all cuts : List Cut) (k : Cut) (chosen : List Cut) → (IsCoverOf d k.cover → ⊥) → WillChooseCuts d all (k ∷ cuts) chosen → WillChooseCuts d all cuts chosen
cuts_without d all cuts k chosen is will ks h = will ks (inl (is, h))

pub cuts_now : (d : Catalogue) (all left chosen : List Cut) → left ≡ [] → WillChooseCuts d all left chosen → ChoosesCuts d all chosen
cuts_now d all left chosen none will = subst (ChoosesCuts d all) (append-nil chosen) (will [] (subst (λ (l : List Cut). ChoosesCuts d l []) (sym none) refl))

-- nothing is left behind the end
pub drop_end : {A : Type 0} (xs : List A) (i : ℕ) → length xs ≤ i → drop i xs ≡ []
drop_end [] zero end = refl
drop_end [] (suc i) end = refl
drop_end (x ∷ xs) zero end = absurd (omega (arith, end))
drop_end (x ∷ xs) (suc i) end = drop_end xs i (omega (arith, end))
