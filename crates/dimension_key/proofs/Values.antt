-- The values of a draft are of the catalogue.
use Rattle.std.proofs.Common.{◌≡◌, ℕ, zero, suc, ◌<◌, List, [], ◌∷◌, length, slice_get, slice_set, Option, Some, None, Ok, refl, sym, subst, arith}
use Rattle.std.specs.Prelude.{IfSome, ok_or, option_and_then, option_map, unwrap_or}
use Rattle.std.specs.List.{AllByRecursion}
use Rattle.std.proofs.lemmas.List.Quantifiers.{position-Some}
use Rattle.catalog.specs.declared.catalogue.Catalogue.{Catalogue}
use Rattle.catalog.specs.declared.layer.Dimension.{Dimension}
use Rattle.catalog.specs.declared.layer.Layer.{Layer}
use Rattle.catalog.specs.LookUp.{HasValues, dimension_at, values_at}
use Rattle.catalog.specs.Names.{place_named}
use Rattle.catalog.specs.Valid.{IsDimension, IsLayer, IsValid}
use Rattle.dimension_key.specs.declared.draft.DimFault.{DimFault}
use Rattle.dimension_key.specs.declared.draft.DimFault.TheVariants.{Missing, Invalid}
use Rattle.dimension_key.specs.declared.draft.ThemeDraft.{ThemeDraft}
use Rattle.dimension_key.specs.Draft.{draft_of, number_in, with_number}

-- ---- the dimension at a place of a valid catalogue is a valid one, or there is none

all_at : {A : Type 0} (P : A → Type 0) (xs : List A) (i : ℕ) → AllByRecursion P xs → IfSome (slice_get xs i) P
all_at P [] i all = tt
all_at P (x ∷ xs) zero all = all.0
all_at P (x ∷ xs) (suc i) all = all_at P xs i all.1

dimension_in : (o : Option Layer) (place : ℕ) → IfSome o IsLayer → IfSome (option_and_then (λ l. slice_get l.dims place) o) IsDimension
dimension_in None place lawful = tt
dimension_in (Some l) place lawful = all_at IsDimension l.dims place lawful.dims

valid_dimension : (c : Catalogue) (layer place : ℕ) → IsValid c → IfSome (dimension_at c layer place) IsDimension
valid_dimension c layer place valid = dimension_in (slice_get c.layers layer) place (all_at IsLayer c.layers layer valid.layers)

abbrev count_of : Option Dimension → ℕ
count_of o = unwrap_or (option_map (λ d. length d.values) o) 1

-- ---- no value was read yet

some_value : (o : Option Dimension) → IfSome o IsDimension → 0 < count_of o
some_value None lawful = omega arith
some_value (Some d) lawful = lawful.values_least

zeros : (place number : ℕ) → slice_get (0 ∷ 0 ∷ 0 ∷ 0 ∷ []) place ≡ Some number → number ≡ 0
zeros zero number e = cc
zeros (suc zero) number e = cc
zeros (suc (suc zero)) number e = cc
zeros (suc (suc (suc zero))) number e = cc
zeros (suc (suc (suc (suc place)))) number e = absurd (cc)

pub first_values : (c : Catalogue) (layer style : ℕ) → IsValid c → HasValues c (draft_of layer style).theme
first_values c layer style valid = record {
  each = λ place number e. subst (λ (n : ℕ). n < values_at c layer place) (sym (zeros place number e)) (some_value (dimension_at c layer place) (valid_dimension c layer place valid));
}

-- ---- one value more

default_within : (m : Option ℕ) (size number : ℕ) → IfSome m (λ n. n < size) → ok_or m Missing ≡ Ok number → number < size
default_within None size number within e = absurd (cc)
default_within (Some n) size number within e = let d : n ≡ number = cc in subst (λ (k : ℕ). k < size) d within

named_within : (m : Option ℕ) (values : List (List ℕ)) (text : List ℕ) (number : ℕ) → place_named (λ v. v) values text ≡ m → ok_or m Invalid ≡ Ok number → number < length values
named_within None values text number is e = absurd (cc)
named_within (Some n) values text number is e =
    let d : n ≡ number = cc in subst (λ (k : ℕ). k < length values) d (position-Some _ values n [] is).0

none_given : (fault : DimFault) (number size : ℕ) → ok_or None fault ≡ Ok number → number < size
none_given fault number size e = absurd (cc)

number_within : (o : Option Dimension) (value : Option (List ℕ)) (number : ℕ) → IfSome o IsDimension
    → (c : Catalogue) (layer dim : ℕ) → dimension_at c layer dim ≡ o → number_in c layer dim value ≡ Ok number → number < count_of o
number_within None None number lawful c layer dim is e =
    none_given Missing number 1 (subst (λ (o : Option Dimension). ok_or (option_and_then (λ d. d.default) o) Missing ≡ Ok number) is e)
number_within None (Some text) number lawful c layer dim is e =
    none_given Invalid number 1 (subst (λ (o : Option Dimension). ok_or (option_and_then (λ d. place_named (λ v. v) d.values text) o) Invalid ≡ Ok number) is e)
number_within (Some d) None number lawful c layer dim is e =
    default_within d.default (length d.values) number lawful.default (subst (λ (o : Option Dimension). ok_or (option_and_then (λ d. d.default) o) Missing ≡ Ok number) is e)
number_within (Some d) (Some text) number lawful c layer dim is e =
    named_within (place_named (λ v. v) d.values text) d.values text number refl (subst (λ (o : Option Dimension). ok_or (option_and_then (λ d. place_named (λ v. v) d.values text) o) Invalid ≡ Ok number) is e)

set_within : (P : ℕ → ℕ → Type 0) (xs : List ℕ) (i number : ℕ) → ((p n : ℕ) → slice_get xs p ≡ Some n → P p n) → P i number → (place other : ℕ) → slice_get (slice_set xs i number) place ≡ Some other → P place other
set_within P [] i number all new place other e = absurd (cc)
set_within P (x ∷ xs) zero number all new zero other e = let d : number ≡ other = cc in subst (λ (n : ℕ). P zero n) d new
set_within P (x ∷ xs) zero number all new (suc place) other e = all (suc place) other e
set_within P (x ∷ xs) (suc i) number all new zero other e = all zero other e
set_within P (x ∷ xs) (suc i) number all new (suc place) other e = set_within (λ p n. P (suc p) n) xs i number (λ p n f. all (suc p) n f) new place other e

pub number_values : (c : Catalogue) (value : Option (List ℕ)) (t : ThemeDraft) (number : ℕ) → IsValid c → number_in c t.theme.layer t.count value ≡ Ok number → HasValues c t.theme → HasValues c (with_number t number).theme
number_values c value t number valid e has =
    let within = number_within (dimension_at c t.theme.layer t.count) value number (valid_dimension c t.theme.layer t.count valid) c t.theme.layer t.count refl e in
    record { each = set_within (λ p n. n < values_at c t.theme.layer p) t.theme.dims t.count number has.each within }
