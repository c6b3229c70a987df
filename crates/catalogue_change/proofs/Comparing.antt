-- Lists and matrices that are compared part by part.
use Rattle.std.proofs.Common.{ℕ, ◌≡◌, ◌<◌, ◌&&◌, ◌==◌, Bool, true, List, [], ◌∷◌, length, Some, slice_get, refl, subst, arith, zero, suc}
use Rattle.std.specs.Ordering.{int_eq}
use Rattle.std.proofs.lemmas.Bool.Decides.{Decides-eqb, Decides-int_eq}
use Rattle.matrix_geometry.specs.declared.matrix.Matrix.{Matrix}
use Rattle.truncation_list.proofs.Decided.{both}

-- lists of one length that agree at each place are one
pub same_list : {A : Type 0} (xs ys : List A) → length ys ≡ length xs → ((i : ℕ) (x y : A) → slice_get xs i ≡ Some x → slice_get ys i ≡ Some y → y ≡ x) → ys ≡ xs
same_list [] [] long each = refl
same_list [] (y ∷ ys) long each = absurd (omega (arith, long))
same_list (x ∷ xs) [] long each = absurd (omega (arith, long))
same_list (x ∷ xs) (y ∷ ys) long each = λ k. each 0 x y refl refl k ∷ same_list xs ys (omega (arith, long)) (λ i. each (suc i)) k

-- a place at which something stands lies below the length, and below the length something stands at each place
pub there_below : {A : Type 0} (xs : List A) (i : ℕ) (x : A) → slice_get xs i ≡ Some x → i < length xs
there_below [] i x is = absurd cc
there_below (y ∷ ys) zero x is = omega arith
there_below (y ∷ ys) (suc i) x is = let below = there_below ys i x is in omega (arith, below)

pub below_there : {A : Type 0} (xs : List A) (i : ℕ) → i < length xs → (x : A) × (slice_get xs i ≡ Some x)
below_there [] i below = absurd (omega (arith, below))
below_there (y ∷ ys) zero below = (y, refl)
below_there (y ∷ ys) (suc i) below = below_there ys i (omega (arith, below))

abbrev pub matrix_eq : Matrix → Matrix → Bool
matrix_eq a b = (int_eq a.span.n b.span.n && int_eq a.span.d b.span.d) && (int_eq a.left b.left && (int_eq a.top b.top && ((a.tile_w == b.tile_w) && ((a.tile_h == b.tile_h) && ((a.cols == b.cols) && (a.rows == b.rows))))))

pub matrix_is : (a b : Matrix) → matrix_eq a b ≡ true → a ≡ b
matrix_is a b is =
    let one = both (int_eq a.span.n b.span.n && int_eq a.span.d b.span.d) (int_eq a.left b.left && (int_eq a.top b.top && ((a.tile_w == b.tile_w) && ((a.tile_h == b.tile_h) && ((a.cols == b.cols) && (a.rows == b.rows)))))) is in
    let two = both (int_eq a.left b.left) (int_eq a.top b.top && ((a.tile_w == b.tile_w) && ((a.tile_h == b.tile_h) && ((a.cols == b.cols) && (a.rows == b.rows))))) one.1 in
    let three = both (int_eq a.top b.top) ((a.tile_w == b.tile_w) && ((a.tile_h == b.tile_h) && ((a.cols == b.cols) && (a.rows == b.rows)))) two.1 in
    let four = both (a.tile_w == b.tile_w) ((a.tile_h == b.tile_h) && ((a.cols == b.cols) && (a.rows == b.rows))) three.1 in
    let five = both (a.tile_h == b.tile_h) ((a.cols == b.cols) && (a.rows == b.rows)) four.1 in
    let six = both (a.cols == b.cols) (a.rows == b.rows) five.1 in
    let span = both (int_eq a.span.n b.span.n) (int_eq a.span.d b.span.d) one.0 in
    let n = (Decides-int_eq a.span.n b.span.n).0 span.0 in
    let d = (Decides-int_eq a.span.d b.span.d).0 span.1 in
    let left = (Decides-int_eq a.left b.left).0 two.0 in
    let top = (Decides-int_eq a.top b.top).0 three.0 in
    let tile_w = (Decides-eqb a.tile_w b.tile_w).0 four.0 in
    let tile_h = (Decides-eqb a.tile_h b.tile_h).0 five.0 in
    let cols = (Decides-eqb a.cols b.cols).0 six.0 in
    let rows = (Decides-eqb a.rows b.rows).0 six.1 in
    λ i. record { span = record { n = n i; d = d i }; left = left i; top = top i; tile_w = tile_w i; tile_h = tile_h i; cols = cols i; rows = rows i }

matrix_itself : (a : Matrix) → matrix_eq a a ≡ true
matrix_itself a =
    let n = (Decides-int_eq a.span.n a.span.n).1 refl in
    let d = (Decides-int_eq a.span.d a.span.d).1 refl in
    let left = (Decides-int_eq a.left a.left).1 refl in
    let top = (Decides-int_eq a.top a.top).1 refl in
    let tile_w = (Decides-eqb a.tile_w a.tile_w).1 refl in
    let tile_h = (Decides-eqb a.tile_h a.tile_h).1 refl in
    let cols = (Decides-eqb a.cols a.cols).1 refl in
    let rows = (Decides-eqb a.rows a.rows).1 refl in
    λ i. (n i && d i) && (left i && (top i && ((tile_w i) && ((tile_h i) && ((cols i) && (rows i))))))

pub matrix_same : (a b : Matrix) → a ≡ b → matrix_eq a b ≡ true
matrix_same a b is = subst (λ (x : Matrix). matrix_eq a x ≡ true) is (matrix_itself a)
