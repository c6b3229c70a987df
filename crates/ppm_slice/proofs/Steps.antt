-- Lists of pieces, one piece longer or with other pieces.
use Rattle.std.proofs.Common.{◌≡◌, ℕ, zero, suc, ◌+◌, ◌*◌, ◌≤◌, ◌<◌, List, ◌++◌, length, refl, sym, ap, ◌∙◌, arith, append-nil, length-append}
use Rattle.std.specs.List.{flat_map, range_with_len}
use Rattle.raster_field.proofs.Pieces.{pieces_split}

pub step_more : {A : Type 0} (f : ℕ → List A) (a n : ℕ) → flat_map f (range_with_len a (n + 1)) ≡ flat_map f (range_with_len a n) ++ f (a + n)
step_more f a n = pieces_split f a n 1 ∙ ap (λ (xs : List _). flat_map f (range_with_len a n) ++ xs) (append-nil (f (a + n)))

pub same_within : {A : Type 0} (f g : ℕ → List A) (a n : ℕ) → ((i : ℕ) → a ≤ i → i < a + n → f i ≡ g i) → flat_map f (range_with_len a n) ≡ flat_map g (range_with_len a n)
same_within f g a zero same = refl
same_within f g a (suc n) same =
    let here = same a (omega arith) (omega arith) in
    let rest = same_within f g (a + 1) n (λ i least most. same i (omega (arith, least)) (omega (arith, most))) in
    rw (here, rest) refl

pub length_within : {A : Type 0} (f : ℕ → List A) (k a n : ℕ) → ((i : ℕ) → a ≤ i → i < a + n → length (f i) ≡ k) → length (flat_map f (range_with_len a n)) ≡ n * k
length_within f k a zero each = let e : 0 * k ≡ 0 = omega arith in sym e
length_within f k a (suc n) each =
    let here = each a (omega arith) (omega arith) in
    let rest = length_within f k (a + 1) n (λ i least most. each i (omega (arith, least)) (omega (arith, most))) in
    let e : suc n * k ≡ k + n * k = grind arith in
    length-append (f a) (flat_map f (range_with_len (a + 1) n)) ∙ rw (here, rest, e) refl
