-- What a look-up that finds something tells.
use Rattle.std.proofs.Common.{◌≡◌, ℕ, ◌==◌, ◌<◌, true, List, [], ◌∷◌, length, get_or, refl, sym, subst, arith, Option, Some, None}
use Rattle.std.specs.List.{slice_get, list_any, Contains}
use Rattle.std.specs.Option.{IsSome, IsSomeAnd, option_or, option_and_then}
use Rattle.std.proofs.lemmas.Bool.{eqb-true}
use Rattle.std.proofs.lemmas.List.Folds.{Any-from_list_any}
use Rattle.std.proofs.lemmas.Option.{slice_get-get_or}

-- the number is one of these
pub contains_of : (numbers : List ℕ) (number : ℕ) → list_any (λ n. n == number) numbers ≡ true → Contains numbers number
contains_of numbers number e =
    let a = Any-from_list_any (λ n. n == number) numbers e in
    let same : a.1 ≡ number = eqb-true a.1 number a.4 in
    let P : ℕ → Type 0 = λ n. get_or numbers a.0 n ≡ n in
    (a.0, a.2, subst P same a.3)

-- there is an entry at each place below the length
pub some_within : {A : Type 0} → (xs : List A) (i : ℕ) → i < length xs → IsSome (slice_get xs i)
some_within [] i l = absurd (omega arith)
some_within (x ∷ xs) i l = subst IsSome (sym (slice_get-get_or (x ∷ xs) i x l)) refl

-- what something is told of is there
pub some_told : {A : Type 0} (o : Option A) (P : A → Type 0) → IsSomeAnd o P → IsSome o
some_told None P told = absurd told
some_told (Some x) P told = refl

-- where something was looked up in it, it is there
pub some_before : {A B : Type 0} (o : Option A) (f : A → Option B) → IsSome (option_and_then f o) → IsSome o
some_before None f there = absurd cc
some_before (Some x) f there = refl

-- the first of three that is there
pub or_or : {A : Type 0} (a b c : Option A) → option_or (option_or a b) c ≡ option_or a (option_or b c)
or_or None b c = refl
or_or (Some x) b c = refl
