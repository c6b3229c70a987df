-- Lists that are made of pieces of one length.
use Rattle.std.proofs.Common.{◌≡◌, ℕ, zero, suc, ◌+◌, ◌-◌, ◌*◌, ◌≤◌, ◌<◌, List, ◌∷◌, ◌++◌, length, take, drop, refl, sym, ap, ◌∙◌, arith, length-append, length-drop, append-nil}
use Rattle.std.specs.List.{flat_map, range_with_len}
use Rattle.std.proofs.lemmas.Grind.{flat_map-append}
use Rattle.std.proofs.lemmas.List.{drop-append-le, drop-drop, drop_at, take-append-le}
use Rattle.std.proofs.Math.Seq.{take-append_seam}

pub take_at : {A : Type 0} (xs ys : List A) (n : ℕ) → length xs ≡ n → take n (xs ++ ys) ≡ xs
take_at xs ys n e = rw (sym e) (take-append_seam xs ys)

range_split : (a m n : ℕ) → range_with_len a (m + n) ≡ range_with_len a m ++ range_with_len (a + m) n
range_split a zero n =
    let e : 0 + n ≡ n = omega arith in let d : a + 0 ≡ a = omega arith in rw (e, d) refl
range_split a (suc m) n =
    let e : suc m + n ≡ suc (m + n) = omega arith in let d : a + suc m ≡ a + 1 + m = omega arith in
    rw (e, d) (ap (λ (ks : List ℕ). a ∷ ks) (range_split (a + 1) m n))

pub pieces_split : {A : Type 0} (f : ℕ → List A) (a m n : ℕ) → flat_map f (range_with_len a (m + n)) ≡ flat_map f (range_with_len a m) ++ flat_map f (range_with_len (a + m) n)
pieces_split f a m n = ap (λ (ks : List ℕ). flat_map f ks) (range_split a m n) ∙ flat_map-append f (range_with_len a m) (range_with_len (a + m) n)

-- counted from another start
pub pieces_from : {A : Type 0} (f : ℕ → List A) (a b n : ℕ) → flat_map f (range_with_len (a + b) n) ≡ flat_map (λ i. f (a + i)) (range_with_len b n)
pieces_from f a b zero = refl
pieces_from f a b (suc n) =
    let e : a + b + 1 ≡ a + (b + 1) = omega arith in rw e (ap (λ (xs : List _). f (a + b) ++ xs) (pieces_from f a (b + 1) n))

pub pieces_same : {A : Type 0} (f g : ℕ → List A) → ((i : ℕ) → f i ≡ g i) → (a n : ℕ) → flat_map f (range_with_len a n) ≡ flat_map g (range_with_len a n)
pieces_same f g same a zero = refl
pieces_same f g same a (suc n) = rw (same a, pieces_same f g same (a + 1) n) refl

-- one more piece
pub pieces_more : {A : Type 0} (f : ℕ → List A) (n : ℕ) → flat_map f (range_with_len 0 (n + 1)) ≡ flat_map f (range_with_len 0 n) ++ f n
pieces_more f n =
    let e : 0 + n ≡ n = omega arith in
    pieces_split f 0 n 1 ∙ rw e (ap (λ (xs : List _). flat_map f (range_with_len 0 n) ++ xs) (append-nil (f n)))

pub pieces_length : {A : Type 0} (f : ℕ → List A) (k : ℕ) → ((i : ℕ) → length (f i) ≡ k) → (a n : ℕ) → length (flat_map f (range_with_len a n)) ≡ n * k
pieces_length f k each a zero = let e : 0 * k ≡ 0 = omega arith in sym e
pieces_length f k each a (suc n) =
    let h = pieces_length f k each (a + 1) n in let one = each a in let e : suc n * k ≡ k + n * k = grind arith in
    length-append (f a) (flat_map f (range_with_len (a + 1) n)) ∙ rw (h, one, e) refl

-- some pieces from the middle
pub pieces_part : {A : Type 0} (f : ℕ → List A) (k : ℕ) → ((i : ℕ) → length (f i) ≡ k) → (a x n total : ℕ) → x + n ≤ total
    → take (n * k) (drop (x * k) (flat_map f (range_with_len a total))) ≡ flat_map f (range_with_len (a + x) n)
pieces_part f k each a x n total within =
    let e : total ≡ x + (n + (total - x - n)) = omega (arith, within) in
    rw (e, pieces_split f a x (n + (total - x - n)), drop_at (flat_map f (range_with_len a x)) (flat_map f (range_with_len (a + x) (n + (total - x - n)))) (x * k) (pieces_length f k each a x), pieces_split f (a + x) n (total - x - n))
    (take_at (flat_map f (range_with_len (a + x) n)) (flat_map f (range_with_len (a + x + n) (total - x - n))) (n * k) (pieces_length f k each (a + x) n))

-- a part of one piece
pub piece_part : {A : Type 0} (f : ℕ → List A) (k : ℕ) → ((i : ℕ) → length (f i) ≡ k) → (a y p q total : ℕ) → y < total → q + p ≤ k
    → take p (drop (y * k + q) (flat_map f (range_with_len a total))) ≡ take p (drop q (f (a + y)))
piece_part f k each a y p q total within short =
    let e : total ≡ y + suc (total - y - 1) = omega (arith, within) in
    let one = each (a + y) in
    let rest = flat_map f (range_with_len (a + y + 1) (total - y - 1)) in
    let l : p ≤ length (drop q (f (a + y))) = rw (length-drop, one) (omega (arith, short)) in
    let m : q ≤ length (f (a + y)) = rw one (omega (arith, short)) in
    rw (sym (drop-drop q (y * k) (flat_map f (range_with_len a total))), e, pieces_split f a y (suc (total - y - 1)), drop_at (flat_map f (range_with_len a y)) (f (a + y) ++ rest) (y * k) (pieces_length f k each a y), drop-append-le q (f (a + y)) rest m)
    (take-append-le p (drop q (f (a + y))) rest l)
