-- Where the elements of a list that is made of pieces stand, and how many there are.
use Rattle.std.proofs.Common.{◌≡◌, ℕ, zero, suc, ◌+◌, ◌*◌, ◌<◌, List, [], ◌∷◌, ◌++◌, length, map, Some, slice_get, refl, sym, ap, ◌∙◌, arith, length-append}
use Rattle.std.specs.List.{flat_map, range_with_len}

-- AN ELEMENT OF A JOINED LIST

pub get_front : {A : Type 0} (xs ys : List A) (i : ℕ) (y : A) → slice_get xs i ≡ Some y → slice_get (xs ++ ys) i ≡ Some y
get_front [] ys i y e = absurd (cc)
get_front (x ∷ xs) ys zero y e = e
get_front (x ∷ xs) ys (suc i) y e = get_front xs ys i y e

pub get_back : {A : Type 0} (xs ys : List A) (n j : ℕ) → length xs ≡ n → slice_get (xs ++ ys) (n + j) ≡ slice_get ys j
get_back [] ys n j e = let d : n + j ≡ j = omega (arith, e) in rw d refl
get_back (x ∷ xs) ys zero j e = absurd (omega (arith, e))
get_back (x ∷ xs) ys (suc n) j e =
    let d : suc n + j ≡ suc (n + j) = omega arith in let k : length xs ≡ n = omega (arith, e) in
    rw d (get_back xs ys n j k)

pub get_map : {A B : Type 0} (f : A → B) (xs : List A) (i : ℕ) (x : A) → slice_get xs i ≡ Some x → slice_get (map f xs) i ≡ Some (f x)
get_map f [] i x e = absurd (cc)
get_map f (y ∷ xs) zero x e = let d : y ≡ x = cc in ap (λ z. Some (f z)) d
get_map f (y ∷ xs) (suc i) x e = get_map f xs i x e

pub get_range : (a n i : ℕ) → i < n → slice_get (range_with_len a n) i ≡ Some (a + i)
get_range a zero i l = absurd (omega arith)
get_range a (suc n) zero l = let d : a + 0 ≡ a = omega arith in rw d refl
get_range a (suc n) (suc i) l =
    let d : a + suc i ≡ a + 1 + i = omega arith in let k : i < n = omega arith in
    rw d (get_range (a + 1) n i k)

pub range_length : (a n : ℕ) → length (range_with_len a n) ≡ n
range_length a zero = refl
range_length a (suc n) = ap suc (range_length (a + 1) n)

pub get_below : (n i : ℕ) → i < n → slice_get (range_with_len 0 n) i ≡ Some i
get_below n i l = let d : 0 + i ≡ i = omega arith in get_range 0 n i l ∙ ap Some d

pub map_length : {A B : Type 0} (f : A → B) (xs : List A) → length (map f xs) ≡ length xs
map_length f [] = refl
map_length f (x ∷ xs) = ap suc (map_length f xs)

-- PIECES OF ONE LENGTH

pub pieces_length : {X A : Type 0} (f : X → List A) (n : ℕ) → ((x : X) → length (f x) ≡ n) → (xs : List X) → length (flat_map f xs) ≡ length xs * n
pieces_length f n each [] = let e : 0 * n ≡ 0 = omega arith in sym e
pieces_length f n each (x ∷ xs) =
    let h = pieces_length f n each xs in let one = each x in let e : suc (length xs) * n ≡ n + length xs * n = grind arith in
    length-append (f x) (flat_map f xs) ∙ rw (h, one, e) refl

-- the j-th element of the i-th piece
pub get_piece : {X A : Type 0} (f : X → List A) (n : ℕ) → ((x : X) → length (f x) ≡ n) → (xs : List X) (i j : ℕ) (x : X) (y : A)
    → slice_get xs i ≡ Some x → slice_get (f x) j ≡ Some y → slice_get (flat_map f xs) (i * n + j) ≡ Some y
get_piece f n each [] i j x y e d = absurd (cc)
get_piece f n each (z ∷ xs) zero j x y e d =
    let same : z ≡ x = cc in let k : 0 * n + j ≡ j = omega arith in
    rw (k, same) (get_front (f x) (flat_map f xs) j y d)
get_piece f n each (z ∷ xs) (suc i) j x y e d =
    let k : suc i * n + j ≡ n + (i * n + j) = grind arith in
    rw k (get_back (f z) (flat_map f xs) n (i * n + j) (each z) ∙ get_piece f n each xs i j x y e d)
