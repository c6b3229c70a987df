-- A list of bytes is the pixels that stand in it.
use Rattle.std.proofs.Common.{◌≡◌, ℕ, zero, suc, ◌+◌, ◌-◌, ◌*◌, ◌≤◌, ◌<◌, List, [], ◌∷◌, ◌++◌, length, take, drop, get_or, refl, sym, ap, ◌∙◌, arith, length-drop}
use Rattle.std.specs.List.{flat_map, range_with_len}
use Rattle.std.proofs.lemmas.List.{drop-drop, drop-take, length-take, nil_from_length, take-append-drop}
use Rattle.std.proofs.Math.Nat.{mul-le-mul_right}
use Rattle.std.proofs.Math.Seq.{drop-cons}
use Rattle.raster_field.specs.declared.colour.Colour.{Colour}
use Rattle.raster_field.specs.TileText.{bytes_of}
use Rattle.layer_recipes.specs.Composite.{pixel_in}

-- a list is made of its pieces of one length
pieces_of : {A : Type 0} (g : ℕ → List A) (k a n : ℕ) (xs : List A) → length xs ≡ n * k → ((i : ℕ) → i < n → take k (drop (i * k) xs) ≡ g (a + i)) → xs ≡ flat_map g (range_with_len a n)
pieces_of g k a zero xs size each = let e : zero * k ≡ 0 = omega arith in nil_from_length xs (size ∙ e)
pieces_of g k a (suc n) xs size each =
    let none : zero * k ≡ 0 = omega arith in let same : a + zero ≡ a = omega arith in
    let more : suc n * k ≡ k + n * k = grind arith in
    let first : take k xs ≡ g a = (let here = each zero (omega arith) in rw (none, same) at here) in
    let left : length (drop k xs) ≡ n * k = length-drop k xs ∙ (rw (size, more) (omega arith)) in
    let rest = pieces_of g k (a + 1) n (drop k xs) left (λ i less.
    (let next : suc i * k ≡ k + i * k = grind arith in let at : a + suc i ≡ a + 1 + i = omega arith in
    ap (λ (ys : List _). take k ys) (drop-drop (i * k) k xs) ∙ ap (λ (p : ℕ). take k (drop p xs)) (sym next) ∙ each (suc i) (omega arith) ∙ ap g at)) in
    sym (take-append-drop k xs) ∙ ap (λ (ys : List _). ys ++ drop k xs) first ∙ ap (λ (ys : List _). g a ++ ys) rest

take_within : {A : Type 0} (k n : ℕ) (xs : List A) → k ≤ n → take k (take n xs) ≡ take k xs
take_within zero n xs few = refl
take_within (suc k) zero xs few = absurd (omega arith)
take_within (suc k) (suc n) [] few = refl
take_within (suc k) (suc n) (x ∷ xs) few = ap (λ (ys : List _). x ∷ ys) (take_within k n xs (omega arith))

three_of : (xs : List ℕ) (p : ℕ) → p + 3 ≤ length xs → take 3 (drop p xs) ≡ bytes_of (pixel_in xs p)
three_of xs p fits =
    let one : suc p ≡ p + 1 = omega arith in let two : suc (suc p) ≡ p + 2 = omega arith in
    ap (λ (ys : List ℕ). take 3 ys) (drop-cons xs p 0 (omega arith))
    ∙ ap (λ (ys : List ℕ). get_or xs p 0 ∷ take 2 ys) (drop-cons xs (suc p) 0 (omega arith))
    ∙ ap (λ (ys : List ℕ). get_or xs p 0 ∷ get_or xs (suc p) 0 ∷ take 1 ys) (drop-cons xs (suc (suc p)) 0 (omega arith))
    ∙ ap (λ (i : ℕ). get_or xs p 0 ∷ get_or xs i 0 ∷ get_or xs (suc (suc p)) 0 ∷ []) one
    ∙ ap (λ (i : ℕ). get_or xs p 0 ∷ get_or xs (p + 1) 0 ∷ get_or xs i 0 ∷ []) two

-- so many pixels from a place on
row_is : (w q : ℕ) (xs : List ℕ) (f : ℕ → Colour) → q + w * 3 ≤ length xs → ((x : ℕ) → x < w → pixel_in xs (q + x * 3) ≡ f x) → take (w * 3) (drop q xs) ≡ flat_map (λ i. bytes_of (f i)) (range_with_len 0 w)
row_is w q xs f fits each =
    let size : length (take (w * 3) (drop q xs)) ≡ w * 3 = rw (length-take, length-drop) (omega (arith, fits)) in
    pieces_of (λ i. bytes_of (f i)) 3 0 w (take (w * 3) (drop q xs)) size (λ i less.
    (let parted : w * 3 ≡ i * 3 + (w * 3 - i * 3) = omega arith in
    let here : 0 + i ≡ i = omega arith in
    ap (λ (n : ℕ). take 3 (drop (i * 3) (take n (drop q xs)))) parted
    ∙ ap (λ (ys : List ℕ). take 3 ys) (drop-take (i * 3) (w * 3 - i * 3) (drop q xs))
    ∙ take_within 3 (w * 3 - i * 3) (drop (i * 3) (drop q xs)) (omega arith)
    ∙ ap (λ (ys : List ℕ). take 3 ys) (drop-drop (i * 3) q xs)
    ∙ three_of xs (q + i * 3) (omega (arith, fits))
    ∙ ap (λ (c : Colour). bytes_of c) (each i less)
    ∙ ap (λ (n : ℕ). bytes_of (f n)) (sym here)))

-- all pixels, by rows
pub pixels_are : (w h : ℕ) (xs : List ℕ) (f : ℕ → ℕ → Colour) → length xs ≡ 3 * (h * w) → ((x y : ℕ) → x < w → y < h → pixel_in xs (3 * (y * w + x)) ≡ f x y)
    → xs ≡ flat_map (λ j. flat_map (λ i. bytes_of (f i j)) (range_with_len 0 w)) (range_with_len 0 h)
pixels_are w h xs f size each =
    let whole : 3 * (h * w) ≡ h * (w * 3) = grind arith in
    pieces_of (λ j. flat_map (λ i. bytes_of (f i j)) (range_with_len 0 w)) (w * 3) 0 h xs (size ∙ whole) (λ j less.
    (let here : 0 + j ≡ j = omega arith in
    let room : suc j * (w * 3) ≤ h * (w * 3) = mul-le-mul_right (w * 3) less in
    let more : suc j * (w * 3) ≡ w * 3 + j * (w * 3) = grind arith in
    row_is w (j * (w * 3)) xs (λ i. f i j) (omega (arith, room, more, size, whole)) (λ x few.
    (let place : j * (w * 3) + x * 3 ≡ 3 * (j * w + x) = grind arith in
    ap (λ (p : ℕ). pixel_in xs p) place ∙ each x j few less))
    ∙ ap (λ (n : ℕ). flat_map (λ i. bytes_of (f i n)) (range_with_len 0 w)) (sym here)))
