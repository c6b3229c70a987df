-- Names that are tested one after the other are distinct.
use Rattle.std.proofs.Common.{◌≡◌, ℕ, zero, suc, ◌+◌, ◌<◌, ◌||◌, ◌⊎◌, inl, inr, Bool, true, false, not, List, [], ◌∷◌, ◌++◌, length, map, Some, Ok, refl, sym, ap, subst, ◌∙◌, arith, append_assoc, length-append, slice_get, true≢false}
use Rattle.std.specs.List.{list_any}
use Rattle.std.specs.Str.{bytes_eq}
use Rattle.std.proofs.lemmas.Bool.{and_parts}
use Rattle.std.proofs.lemmas.Bool.Decides.{leb_tells}
use Rattle.std.proofs.lemmas.List.{append-nil, map-append, map-id}
use Rattle.std.proofs.lemmas.Slice.Eq.{bytes_eq-Decides}
use Rattle.catalog.specs.FirstFault.{Test, each}
use Rattle.catalog.specs.Names.{are_distinct}
use Rattle.catalog.specs.Valid.{AreDistinct}
use Rattle.catalog.proofs.Passing.{next_met}

-- no place of the list has it
abbrev pub IsNew : {A : Type 0} → List A → A → Type 0
IsNew xs x = (i : ℕ) → slice_get xs i ≡ Some x → ⊥

slice_get-below : {A : Type 0} (xs : List A) (x : A) (i : ℕ) → i < length xs → slice_get (xs ++ x ∷ []) i ≡ slice_get xs i
slice_get-below [] x i h = absurd (omega arith)
slice_get-below (y ∷ ys) x zero h = refl
slice_get-below (y ∷ ys) x (suc i) h = slice_get-below ys x i (omega arith)

slice_get-end : {A : Type 0} (xs : List A) (x : A) → slice_get (xs ++ x ∷ []) (length xs) ≡ Some x
slice_get-end [] x = refl
slice_get-end (y ∷ ys) x = slice_get-end ys x

distinct_by : {A : Type 0} (xs : List A) (x : A) (i j : ℕ) → AreDistinct xs → IsNew xs x → i < j → (j < length xs) ⊎ (j ≡ length xs) → slice_get (xs ++ x ∷ []) i ≡ slice_get (xs ++ x ∷ []) j → ⊥
distinct_by xs x i j apart new h (inl below) e =
    apart i j h below (sym (slice_get-below xs x i (omega arith)) ∙ e ∙ slice_get-below xs x j below)
distinct_by xs x i j apart new h (inr end) e =
    new i (sym (slice_get-below xs x i (omega arith)) ∙ e ∙ rw end (slice_get-end xs x))

below_or_last : (j n : ℕ) → j < n + 1 → (j < n) ⊎ (j ≡ n)
below_or_last j n h = elim (leb_tells n j) [ inl reached ↦ inr (omega arith) | inr short ↦ inl (omega arith) ]

-- one more that is new
pub distinct_more : {A : Type 0} (xs : List A) (x : A) → AreDistinct xs → IsNew xs x → AreDistinct (xs ++ x ∷ [])
distinct_more xs x apart new i j h below =
    let last : length (xs ++ x ∷ []) ≡ length xs + 1 = length-append xs (x ∷ []) in
    distinct_by xs x i j apart new h (below_or_last j (length xs) (omega arith))

pub distinct_none : {A : Type 0} → AreDistinct {A = A} []
distinct_none i j h below = absurd (omega arith)

distinct_first : {A : Type 0} (x : A) (xs : List A) → IsNew xs x → AreDistinct xs → AreDistinct (x ∷ xs)
distinct_first x xs new apart i zero h below e = absurd (omega arith)
distinct_first x xs new apart zero (suc j) h below e = new j (sym e)
distinct_first x xs new apart (suc i) (suc j) h below e = apart i j (omega arith) (omega arith) e

some_is : {A : Type 0} (x y : A) → Some x ≡ Some y → x ≡ y
some_is x y e = cc

no_later : (a b : Bool) → (a || b) ≡ false → b ≡ false
no_later true b h = absurd cc
no_later false b h = h

not_true : (b : Bool) → not b ≡ true → b ≡ false
not_true true h = absurd cc
not_true false h = refl

-- what passes a test isn't in a list of which nothing passes
pub new_by : {A B : Type 0} (key : A → B) (p : B → Bool) (y : B) → p y ≡ true → (xs : List A) → list_any (λ x. p (key x)) xs ≡ false → IsNew (map key xs) y
new_by key p y passes [] none i e = absurd cc
new_by key p y passes (x ∷ xs) none zero e =
    let here : p (key x) ≡ true = ap p (some_is (key x) y e) ∙ passes in
    true≢false (sym (ap (λ (b : Bool). b || list_any (λ x. p (key x)) xs) here) ∙ none)
new_by key p y passes (x ∷ xs) none (suc i) e = new_by key p y passes xs (no_later (p (key x)) _ none) i e

pub equals_itself : (text : List ℕ) → bytes_eq text text ≡ true
equals_itself text = (bytes_eq-Decides text text).1 refl

-- a text that none has
pub new_text : {A : Type 0} (key : A → List ℕ) (text : List ℕ) (xs : List A) → list_any (λ x. bytes_eq (key x) text) xs ≡ false → IsNew (map key xs) text
new_text key text xs none = new_by key (λ t. bytes_eq t text) text (equals_itself text) xs none

-- each entry has a key that none before it has
pub each_distinct : {A B : Type 0} (key : A → B) (test : List A → A → Test) → ((before : List A) (x : A) → test before x ≡ Ok tt → IsNew (map key before) (key x)) → (before xs : List A) → AreDistinct (map key before) → each test before xs ≡ Ok tt → AreDistinct (map key (before ++ xs))
each_distinct key test new before [] apart e = subst (λ (ys : List _). AreDistinct (map key ys)) (sym (append-nil before)) apart
each_distinct key test new before (x ∷ xs) apart e =
    let parts : (test before x ≡ Ok tt) × (each test (before ++ x ∷ []) xs ≡ Ok tt) = next_met _ _ e in
    let more : AreDistinct (map key (before ++ x ∷ [])) =
    subst (λ (ys : List _). AreDistinct ys) (sym (map-append key before (x ∷ []))) (distinct_more (map key before) (key x) apart (new before x parts.0)) in
    subst (λ (ys : List _). AreDistinct (map key ys)) (append_assoc before (x ∷ []) xs) (each_distinct key test new (before ++ x ∷ []) xs more parts.1)

-- texts of which none stands twice
pub texts_distinct : (texts : List (List ℕ)) → are_distinct texts ≡ true → AreDistinct texts
texts_distinct [] e = distinct_none
texts_distinct (text ∷ texts) e =
    let parts : (not (list_any (λ t. bytes_eq t text) texts) ≡ true) × (are_distinct texts ≡ true) = and_parts _ _ e in
    distinct_first text texts (subst (λ (ys : List (List ℕ)). IsNew ys text) (map-id texts) (new_text (λ t. t) text texts (not_true _ parts.0))) (texts_distinct texts parts.1)
