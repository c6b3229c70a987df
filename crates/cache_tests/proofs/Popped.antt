-- Two hands taken from the end of a list.
use Rattle.std.proofs.Common.{◌≡◌, ◌∙◌, List, [], ◌∷◌, ◌++◌, Some, length, slice_get, sym, refl, ap, arith, length-append}

pub both_popped : {A : Type 0} (xs ys zs : List A) (a b : A) → xs ≡ ys ++ b ∷ [] → ys ≡ zs ++ a ∷ [] → length xs ≡ 2 → (slice_get xs 0 ≡ Some a) × (slice_get xs 1 ≡ Some b)
both_popped xs ys [] a b e e' two =
    let is : xs ≡ a ∷ b ∷ [] = e ∙ ap (λ l. l ++ b ∷ []) e' in
    (ap (λ l. slice_get l 0) is, ap (λ l. slice_get l 1) is)
both_popped xs ys (z ∷ zs) a b e e' two =
    let m = length-append ys (b ∷ []) in
    let n = length-append (z ∷ zs) (a ∷ []) in
    let x : length xs ≡ length (ys ++ b ∷ []) = ap length e in
    let y : length ys ≡ length ((z ∷ zs) ++ a ∷ []) = ap length e' in
    absurd (omega arith)

pub some_is : {A : Type 0} (a b : A) → Some a ≡ Some b → a ≡ b
some_is a b e = cc
