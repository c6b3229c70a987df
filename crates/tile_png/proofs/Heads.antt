-- The text of a pixmap and its spelling: the one is read back from the other.
use Rattle.std.proofs.Common.{◌≡◌, ℕ, ◌<◌, Bool, true, false, List, [], ◌∷◌, ◌++◌, length, take, drop, refl, sym, ap, subst, ◌∙◌, arith, Some, None, Option, option_map, option_and_then, append_assoc, codes, decimal, nat_lt}
use Rattle.std.specs.Prelude.{◌^◌, bytes_eq, if◌then◌else◌}
use Rattle.std.specs.Char.{digit_value, is_ascii_digit}
use Rattle.std.specs.List.{prefix_len}
use Rattle.std.specs.Str.Parse.{AllDigits}
use Rattle.std.proofs.Math.Seq.{drop-append_seam, take-append_seam}
use Rattle.std.proofs.lemmas.Bool.Decides.{nat_tests}
use Rattle.std.proofs.lemmas.Fmt.{decimal_is_IsNumeral, length-decimal-le}
use Rattle.std.proofs.lemmas.Grind.{common_steps}
use Rattle.std.proofs.lemmas.List.{take-append-drop}
use Rattle.std.proofs.lemmas.Slice.Eq.{bytes_eq-Decides}
use Rattle.std.proofs.lemmas.Str.Parse.{digit_from_value}
use Rattle.png_text.specs.Picture.{IsPicture, png_of}
use Rattle.tile_png.specs.Pixmap.{IsPixmap, head}
use Rattle.tile_png.specs.Reading.{are_pixels, behind, behind_digits, behind_head, height_in, if_pixels, number_in, pixels_in, png_of_tile, width_in}

-- FRONTS

same_bytes : (xs : List ℕ) → bytes_eq xs xs ≡ true
same_bytes xs = (bytes_eq-Decides xs xs).1 refl

pub behind_front : (front rest : List ℕ) → behind front (front ++ rest) ≡ Some rest
behind_front front rest = rw (take-append_seam front rest, same_bytes front, drop-append_seam front rest) refl

pub front_of : (front text rest : List ℕ) → behind front text ≡ Some rest → text ≡ front ++ rest
front_of front text rest e = by (bytes_eq (take (length front) text) front) refl e
  where
    by : (b : Bool) → bytes_eq (take (length front) text) front ≡ b → (if b then Some (drop (length front) text) else None) ≡ Some rest → text ≡ front ++ rest
    by true t e =
        let same = (bytes_eq-Decides (take (length front) text) front).0 t in
        let left : drop (length front) text ≡ rest = cc in
        sym (take-append-drop (length front) text) ∙ ap (λ (xs : List ℕ). xs ++ drop (length front) text) same ∙ ap (λ (xs : List ℕ). front ++ xs) left
    by false t e = absurd (cc)

-- THE NUMBERS OF A HEAD

is_digit : (c : ℕ) → digit_value c < 10 → is_ascii_digit c ≡ true
is_digit c h = let k = digit_from_value c h in grind (arith, nat_tests, common_steps)

digits_long : (ds : List ℕ) (b : ℕ) (rest : List ℕ) → AllDigits 10 ds → is_ascii_digit b ≡ false → prefix_len is_ascii_digit (ds ++ b ∷ rest) ≡ length ds
digits_long [] b rest all other = rw other refl
digits_long (d ∷ ds) b rest all other = rw (is_digit d all.0) (omega (arith, digits_long ds b rest all.1 other))

module _ (n b : ℕ) (rest : List ℕ) (small : n < 10 ^ 5) (other : is_ascii_digit b ≡ false) where
  long : prefix_len is_ascii_digit (decimal n ++ b ∷ rest) ≡ length (decimal n)
  long = digits_long (decimal n) b rest (decimal_is_IsNumeral n (omega arith)).0.1 other

  pub number_read : number_in (decimal n ++ b ∷ rest) ≡ n
  number_read =
      let few : nat_lt 5 (length (decimal n)) ≡ false = let k = length-decimal-le 5 n (omega arith) small (omega arith) in grind (arith, nat_tests) in
      rw (long, few, take-append_seam (decimal n) (b ∷ rest)) (decimal_is_IsNumeral n (omega arith)).1

  pub number_behind : behind_digits (decimal n ++ b ∷ rest) ≡ b ∷ rest
  number_behind = rw long (drop-append_seam (decimal n) (b ∷ rest))

-- A HEAD AND ITS PIXELS

-- behind the height
abbrev last_part : List ℕ → List ℕ
last_part pixels = 10 ∷ 50 ∷ 53 ∷ 53 ∷ 10 ∷ pixels

abbrev spread : ℕ → ℕ → List ℕ → List ℕ
spread w h pixels = 80 ∷ 54 ∷ 10 ∷ (decimal w ++ 32 ∷ (decimal h ++ last_part pixels))

spread_head : (w h : ℕ) (pixels : List ℕ) → head w h ++ pixels ≡ spread w h pixels
spread_head w h pixels =
    append_assoc (codes "P6\n" ++ decimal w ++ codes " " ++ decimal h) (codes "\n255\n") pixels
    ∙ append_assoc (codes "P6\n" ++ decimal w ++ codes " ") (decimal h) (last_part pixels)
    ∙ append_assoc (codes "P6\n" ++ decimal w) (codes " ") (decimal h ++ last_part pixels)
    ∙ append_assoc (codes "P6\n") (decimal w) (32 ∷ (decimal h ++ last_part pixels))

width_read : (w h : ℕ) (pixels : List ℕ) → w < 10 ^ 5 → width_in (spread w h pixels) ≡ w
width_read w h pixels small = number_read w 32 (decimal h ++ last_part pixels) small refl

height_read : (w h : ℕ) (pixels : List ℕ) → w < 10 ^ 5 → h < 10 ^ 5 → height_in (spread w h pixels) ≡ h
height_read w h pixels small short =
    ap (λ (xs : List ℕ). number_in (drop 1 xs)) (number_behind w 32 (decimal h ++ last_part pixels) small refl) ∙ number_read h 10 (50 ∷ 53 ∷ 53 ∷ 10 ∷ pixels) short refl

then_more : (o : Option (List ℕ)) (f : List ℕ → Option (List ℕ)) (s t : List ℕ) → o ≡ Some s → f s ≡ Some t → option_and_then f o ≡ Some t
then_more o f s t e h = let P : Option (List ℕ) → Type 0 = λ x. option_and_then f x ≡ Some t in subst P (sym e) h

pixels_behind : (w h : ℕ) (pixels : List ℕ) → behind_head w h (spread w h pixels) ≡ Some pixels
unfolding behind_head
pixels_behind w h pixels =
    let magic = behind_front (codes "P6\n") (decimal w ++ 32 ∷ (decimal h ++ last_part pixels)) in
    let width = then_more _ (behind (decimal w)) _ _ magic (behind_front (decimal w) (32 ∷ (decimal h ++ last_part pixels))) in
    let blank = then_more _ (behind (codes " ")) _ _ width (behind_front (codes " ") (decimal h ++ last_part pixels)) in
    let height = then_more _ (behind (decimal h)) _ _ blank (behind_front (decimal h) (last_part pixels)) in
    then_more _ (behind (codes "\n255\n")) _ _ height (behind_front (codes "\n255\n") pixels)

whole_pixels : (w h : ℕ) (pixels : List ℕ) → IsPicture w h pixels → are_pixels w h pixels ≡ true
whole_pixels w h pixels is =
    let a = is.some_width in let b = is.width_most in let c = is.some_height in let d = is.height_most in let e = is.whole in
    grind (arith, nat_tests, common_steps)

spelt_spread : (w h : ℕ) (pixels : List ℕ) → IsPicture w h pixels → png_of_tile (spread w h pixels) ≡ Some (png_of w h pixels)
unfolding png_of_tile pixels_in
spelt_spread w h pixels is =
    let a = is.width_most in
    let b = is.height_most in
    let small : w < 10 ^ 5 = omega arith in
    let short : h < 10 ^ 5 = omega arith in
    rw (width_read w h pixels small, height_read w h pixels small short, pixels_behind w h pixels, whole_pixels w h pixels is) refl

pub spelt : (w h : ℕ) (pixels text : List ℕ) → IsPixmap w h pixels text → png_of_tile text ≡ Some (png_of w h pixels)
spelt w h pixels text is = ap png_of_tile (is.is ∙ spread_head w h pixels) ∙ spelt_spread w h pixels is.picture

-- WHERE THERE IS A SPELLING

-- what came to something came to something before
record Steps (o : Option (List ℕ)) (f : List ℕ → Option (List ℕ)) (t : List ℕ) : Type 0 where
  middle : List ℕ
  first : o ≡ Some middle
  second : f middle ≡ Some t

back : (o : Option (List ℕ)) (f : List ℕ → Option (List ℕ)) (t : List ℕ) → option_and_then f o ≡ Some t → Steps o f t
back None f t e = absurd (cc)
back (Some s) f t e = record { middle = s; first = refl; second = e }

text_of : (w h : ℕ) (text pixels : List ℕ) → behind_head w h text ≡ Some pixels → text ≡ head w h ++ pixels
unfolding behind_head
text_of w h text pixels e =
    let last = back _ (behind (codes "\n255\n")) pixels e in
    let height = back _ (behind (decimal h)) last.middle last.first in
    let blank = back _ (behind (codes " ")) height.middle height.first in
    let width = back _ (behind (decimal w)) blank.middle blank.first in
    let a = front_of (codes "P6\n") text width.middle width.first in
    let b = front_of (decimal w) width.middle blank.middle width.second in
    let c = front_of (codes " ") blank.middle height.middle blank.second in
    let d = front_of (decimal h) height.middle last.middle height.second in
    let f = front_of (codes "\n255\n") last.middle pixels last.second in
    a ∙ ap (λ (xs : List ℕ). codes "P6\n" ++ xs) (b ∙ ap (λ (xs : List ℕ). decimal w ++ xs) (c ∙ ap (λ (xs : List ℕ). codes " " ++ xs) (d ∙ ap (λ (xs : List ℕ). decimal h ++ xs) f))) ∙ sym (spread_head w h pixels)

are_whole : (w h : ℕ) (bytes pixels : List ℕ) → if_pixels w h bytes ≡ Some pixels → (bytes ≡ pixels) × IsPicture w h bytes
are_whole w h bytes pixels e = by (are_pixels w h bytes) refl e
  where
    by : (b : Bool) → are_pixels w h bytes ≡ b → (if b then Some bytes else None) ≡ Some pixels → (bytes ≡ pixels) × IsPicture w h bytes
    by true t e = (
      cc,
      record {
        some_width = grind (arith, nat_tests, common_steps);
        width_most = grind (arith, nat_tests, common_steps);
        some_height = grind (arith, nat_tests, common_steps);
        height_most = grind (arith, nat_tests, common_steps);
        whole = grind (arith, nat_tests, common_steps);
      },
    )
    by false t e = absurd (cc)

-- the pixmap that a text is
abbrev pub IsSpelt : List ℕ → List ℕ → Type 0
IsSpelt text png = (width : ℕ) × (height : ℕ) × (pixels : List ℕ) × IsPixmap width height pixels text × (png ≡ png_of width height pixels)

spelt_from : (w h : ℕ) (text png : List ℕ) (o : Option (List ℕ)) → pixels_in w h text ≡ o → option_map (png_of w h) o ≡ Some png → IsSpelt text png
unfolding pixels_in
spelt_from w h text png None at e = absurd (cc)
spelt_from w h text png (Some pixels) at e =
    let same : png_of w h pixels ≡ png = cc in
    let last = back _ (if_pixels w h) pixels at in
    let whole = are_whole w h last.middle pixels last.second in
    (w, h, pixels, record { is = text_of w h text last.middle last.first ∙ ap (λ (xs : List ℕ). head w h ++ xs) whole.0; picture = subst (IsPicture w h) whole.0 whole.1 }, sym same)

pub only_spelt : (text png : List ℕ) → png_of_tile text ≡ Some png → IsSpelt text png
unfolding png_of_tile
only_spelt text png e = spelt_from (width_in text) (height_in text) text png _ refl e
