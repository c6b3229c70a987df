-- A piece of bytes that is copied to the front of a buffer.
use Rattle.std.proofs.Common.{◌≡◌, ℕ, ◌+◌, ◌≤◌, List, [], ◌∷◌, ◌++◌, length, take, drop, refl, sym, ap, ◌∙◌, subst, arith}
use Rattle.std.proofs.lemmas.List.{take-append-drop, drop-drop, length-take-le}
use Rattle.std.proofs.Math.Seq.{take-append_seam}

-- the front of the buffer is the copy
pub copied_front : (left copied room : List ℕ) (count : ℕ) → count ≤ length left → copied ≡ take count left → take count (copied ++ room) ≡ take count left
copied_front left copied room count fits e =
    let long : length copied ≡ count = ap (λ (xs : List ℕ). length xs) e ∙ length-take-le count left fits in
    subst (λ (n : ℕ). take n (copied ++ room) ≡ take count left) long (take-append_seam copied room ∙ e)

-- the bytes from a place on are the piece that was copied, and those after it
pub piece_at : (bytes left copied room : List ℕ) (at count : ℕ) → left ≡ drop at bytes → count ≤ length left → copied ≡ take count left
    → drop at bytes ≡ take count (copied ++ room) ++ drop (at + count) bytes
piece_at bytes left copied room at count from fits e =
    sym (take-append-drop count (drop at bytes))
    ∙ ap (λ (xs : List ℕ). take count xs ++ drop count (drop at bytes)) (sym from)
    ∙ ap (λ (xs : List ℕ). xs ++ drop count (drop at bytes)) (sym (copied_front left copied room count fits e))
    ∙ ap (λ (xs : List ℕ). take count (copied ++ room) ++ xs) (drop-drop count at bytes)

pub none_in : (xs : List ℕ) → length xs ≡ 0 → xs ≡ []
none_in [] l = refl
none_in (x ∷ xs) l = absurd (omega arith)

-- an empty piece stands only at the end
pub nothing_left : (bytes left : List ℕ) (at count : ℕ) → left ≡ drop at bytes → count ≡ 0 → length left ≡ 0 → drop (at + count) bytes ≡ []
nothing_left bytes left at count from none l = rw (none, sym (drop-drop 0 at bytes), sym from) (none_in left l)
