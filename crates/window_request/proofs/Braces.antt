-- The front of a text that passes a test, and names in braces.
use Rattle.std.proofs.Common.{◌≡◌, ℕ, ◌+◌, ◌<◌, ◌≤◌, Bool, true, false, cond, List, [], ◌∷◌, ◌++◌, length, length-append, length-take-le, take, drop, get_or, drop-cons, refl, sym, ap, ◌∙◌, subst, arith, append_assoc, one-add, suc, add-one}
use Rattle.std.specs.List.{list_all, prefix_len}
use Rattle.std.proofs.lemmas.List.{take-append-drop, take_all}
use Rattle.std.proofs.lemmas.List.Sums.{prefix_len_stops}
use Rattle.std.proofs.lemmas.Bool.Decides.{nat_tests}
use Rattle.window_request.specs.declared.piece.Piece.{Piece}
use Rattle.window_request.specs.Pieces.{is_plain, differs, braced, piece_text, IsPiece, BeginsWithPiece, IsUnknown}

passes_more : (p : ℕ → Bool) (x : ℕ) (xs : List ℕ) (n : ℕ) (b : Bool) → p x ≡ b → list_all p (take n xs) ≡ true → list_all p (take (cond b (1 + n) 0) (x ∷ xs)) ≡ true
passes_more p x xs n true e h = rw (one-add n) (rw (e, h) refl)
passes_more p x xs n false e h = refl

pub front_passes : (p : ℕ → Bool) (xs : List ℕ) → list_all p (take (prefix_len p xs) xs) ≡ true
front_passes p [] = refl
front_passes p (x ∷ xs) = passes_more p x xs (prefix_len p xs) (p x) refl (front_passes p xs)

pub all_pass : (p : ℕ → Bool) (xs : List ℕ) (n : ℕ) → n ≡ prefix_len p xs → n ≡ length xs → list_all p xs ≡ true
all_pass p xs n is whole =
    let e : take (prefix_len p xs) xs ≡ xs = take_all (prefix_len p xs) xs (omega (arith, is, whole)) in
    subst (λ (l : List ℕ). list_all p l ≡ true) e (front_passes p xs)

same_byte : (b : ℕ) → differs 125 b ≡ false → b ≡ 125
same_byte b h = grind (arith, nat_tests)

-- the text up to the brace that closes, and behind it
pub closes : (xs : List ℕ) (n : ℕ) → n ≡ prefix_len (differs 125) xs → n < length xs → xs ≡ take n xs ++ (125 ∷ drop (n + 1) xs)
closes xs n is inside =
    let at : get_or xs n 0 ≡ 125 = same_byte (get_or xs n 0) (ap (λ (k : ℕ). differs 125 (get_or xs k 0)) is ∙ prefix_len_stops (differs 125) xs 0 (omega (arith, is, inside))) in
    let rest : drop n xs ≡ get_or xs n 0 ∷ drop (n + 1) xs = rw add-one (drop-cons xs n 0 inside) in
    sym (take-append-drop n xs) ∙ ap (λ (l : List ℕ). take n xs ++ l) (rest ∙ ap (λ (b : ℕ). b ∷ drop (n + 1) xs) at)

braced_front : (xs : List ℕ) (n : ℕ) → n ≡ prefix_len (differs 125) xs → n < length xs → 123 ∷ xs ≡ braced (take n xs) ++ drop (n + 1) xs
braced_front xs n is inside = ap (λ (l : List ℕ). 123 ∷ l) (closes xs n is inside ∙ sym (append_assoc (take n xs) (125 ∷ []) (drop (n + 1) xs)))

drop_one_more : (xs : List ℕ) (n : ℕ) → drop (n + 2) (123 ∷ xs) ≡ drop (n + 1) xs
drop_one_more xs n = let e : n + 2 ≡ suc (n + 1) = omega arith in rw e refl

pub name_stands : (xs : List ℕ) (n : ℕ) (piece : Piece) → n ≡ prefix_len (differs 125) xs → n < length xs → IsPiece piece × (piece_text piece ≡ braced (take n xs)) → BeginsWithPiece (123 ∷ xs) piece (n + 2)
name_stands xs n piece is inside told =
    let count : length (braced (take n xs)) ≡ n + 2 = omega (arith, length-append (take n xs) (125 ∷ []), length-take-le n xs (omega (arith, inside))) in
    record {
      is_piece = told.0;
      is = braced_front xs n is inside ∙ ap (λ (l : List ℕ). l ++ drop (n + 1) xs) (sym told.1) ∙ ap (λ (l : List ℕ). piece_text piece ++ l) (sym (drop_one_more xs n));
      len_is = sym (ap (λ (l : List ℕ). length l) told.1 ∙ count);
    }

pub no_name : (xs : List ℕ) (n : ℕ) → n ≡ prefix_len (differs 125) xs → n < length xs → ((piece : Piece) → IsPiece piece → ¬ (piece_text piece ≡ braced (take n xs))) → IsUnknown (123 ∷ xs)
no_name xs n is inside none = (take n xs, drop (n + 1) xs, braced_front xs n is inside, subst (λ (k : ℕ). list_all (differs 125) (take k xs) ≡ true) (sym is) (front_passes (differs 125) xs), none)

pub plain_stands : (text : List ℕ) (n : ℕ) (piece : Piece) (told : IsPiece piece) → piece_text piece ≡ take n text → n ≤ length text → BeginsWithPiece text piece n
plain_stands text n piece told e within = record {
  is_piece = told;
  is = sym (ap (λ (l : List ℕ). l ++ drop n text) e ∙ take-append-drop n text);
  len_is = sym (ap (λ (l : List ℕ). length l) e ∙ length-take-le n text within);
}

pub plain_piece : (text items : List ℕ) (n : ℕ) → items ≡ take n text → n ≡ prefix_len is_plain text → n ≤ length text → 0 < n → (0 < length items) × (list_all is_plain items ≡ true)
plain_piece text items n e is within some = (
  omega (arith, ap (λ (l : List ℕ). length l) e, length-take-le n text within, some),
  ap (list_all is_plain) (e ∙ ap (λ (k : ℕ). take k text) is) ∙ front_passes is_plain text,
)
