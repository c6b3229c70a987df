-- what has the form of a pixmap is accepted
use Rattle.std.proofs.Common.{◌≡◌, ℕ, ◌*◌, ◌≤◌, List, [], ◌∷◌, ◌++◌, length, take, drop, refl, sym, ap, ◌∙◌, subst, arith, Bool, true, false, nat_eq, nat_lt, Some, append_assoc}
use Rattle.std.specs.Prelude.{Option, ◌&&◌, not}
use Rattle.std.specs.List.{prefix_len}
use Rattle.std.specs.Char.{is_ascii_digit}
use Rattle.std.specs.Str.Parse.{digits_value}
use Rattle.std.proofs.lemmas.Bool.Decides.{nat_tests}
use Rattle.std.proofs.lemmas.Grind.{common_steps}
use Rattle.std.proofs.Math.Seq.{take-append_seam, drop-append_seam}
use Rattle.ppm_reading.specs.Reading.{after_blanks, after_gap, after_magic, after_number, after_space, and_then, of_length, pixels_of}
use Rattle.ppm_reading.specs.Form.{is_space, is_line_end, HasNoLineEnd, AreDigits, AreBlanks, done, space, comment, BeginsWithGap, BeginsWithNumber, BeginsWithSpace, IsPixmap}

pub space_no_sign : (b : ℕ) → is_space b ≡ true → nat_eq b 35 ≡ false
space_no_sign b h = grind (arith, nat_tests, common_steps)

pub space_no_digit : (b : ℕ) → is_space b ≡ true → is_ascii_digit b ≡ false
space_no_digit b h = grind (arith, nat_tests, common_steps)

pub digit_no_sign : (b : ℕ) → is_ascii_digit b ≡ true → nat_eq b 35 ≡ false
digit_no_sign b h = grind (arith, nat_tests, common_steps)

pub digit_no_space : (b : ℕ) → is_ascii_digit b ≡ true → is_space b ≡ false
digit_no_space b h = grind (arith, nat_tests, common_steps)

pub comment_done : (text s : List ℕ) (e : ℕ) → HasNoLineEnd text → is_line_end e ≡ true → after_blanks true (text ++ (e ∷ s)) ≡ after_blanks false s
comment_done [] s e n h = ap (λ (b : Bool). after_blanks (not b) s) h
comment_done (x ∷ xs) s e n h = ap (λ (b : Bool). after_blanks (not b) (xs ++ (e ∷ s))) n.0 ∙ comment_done xs s e n.1 h

digit_stays : (d : ℕ) (t : List ℕ) → is_ascii_digit d ≡ true → after_blanks false (d ∷ t) ≡ d ∷ t
digit_stays d t h = rw (digit_no_sign d h, digit_no_space d h) refl

space_goes : (b : ℕ) (s : List ℕ) → is_space b ≡ true → after_blanks false (b ∷ s) ≡ after_blanks false s
space_goes b s h = rw (space_no_sign b h, h) refl

-- a list that begins with a digit
pub record BeginsWithDigit (t : List ℕ) : Type 0 where
  pub first : ℕ
  pub rest : List ℕ
  pub is : t ≡ first ∷ rest
  pub digit : is_ascii_digit first ≡ true

stays : (t : List ℕ) → BeginsWithDigit t → after_blanks false t ≡ t
stays t h = let P : List ℕ → Type 0 = λ s. after_blanks false s ≡ s in subst P (sym h.is) (digit_stays h.first h.rest h.digit)

gap_done : (t g : List ℕ) → AreBlanks g → BeginsWithDigit t → after_blanks false (g ++ t) ≡ t
gap_done t _ done d = stays t d
gap_done t _ (space b s h gap) d = space_goes b (s ++ t) h ∙ gap_done t s gap d
gap_done t _ (comment text s e plain ends gap) d =
    ap (after_blanks true) (append_assoc text (e ∷ s) t) ∙ comment_done text (s ++ t) e plain ends ∙ gap_done t s gap d

pub gapped_done : (s t : List ℕ) → BeginsWithGap s t → BeginsWithDigit t → after_gap s ≡ Some t
gapped_done s t g d =
    let P : List ℕ → Type 0 = λ l. after_gap l ≡ Some t in
    subst P (sym g.is) (rw g.space (ap (λ (l : List ℕ). Some l) (gap_done t g.more g.blanks d)))

digits_len : (ds : List ℕ) (b : ℕ) (t : List ℕ) → AreDigits ds → is_ascii_digit b ≡ false → prefix_len is_ascii_digit (ds ++ (b ∷ t)) ≡ length ds
digits_len [] b t a other = rw other refl
digits_len (x ∷ xs) b t a other = rw a.0 (omega (arith, digits_len xs b t a.1 other))

number_tests : (k v n : ℕ) → 1 ≤ k → k ≤ 9 → v ≡ n → (nat_lt 0 k && nat_lt k 10 && nat_eq v n) ≡ true
number_tests k v n some few value = grind (arith, nat_tests, common_steps)

numbered_at : (n k : ℕ) (s : List ℕ) → prefix_len is_ascii_digit s ≡ k → (nat_lt 0 k && nat_lt k 10 && nat_eq (digits_value 10 (take k s)) n) ≡ true → after_number n s ≡ Some (drop k s)
numbered_at n k s len test = rw (len, test) refl

pub numbered_done : (n : ℕ) (s t : List ℕ) (b : ℕ) (rest : List ℕ) → t ≡ b ∷ rest → is_ascii_digit b ≡ false → BeginsWithNumber n s t → after_number n s ≡ Some t
numbered_done n s t b rest begins other h =
    let P : List ℕ → Type 0 = λ l. prefix_len is_ascii_digit (h.digits ++ l) ≡ length h.digits in
    let Q : List ℕ → Type 0 = λ l. after_number n l ≡ Some t in
    let len : prefix_len is_ascii_digit (h.digits ++ t) ≡ length h.digits = subst P (sym begins) (digits_len h.digits b rest h.all other) in
    let value : digits_value 10 (take (length h.digits) (h.digits ++ t)) ≡ n = ap (digits_value 10) (take-append_seam h.digits t) ∙ h.value in
    subst Q (sym h.is)
    (numbered_at n (length h.digits) (h.digits ++ t) len (number_tests (length h.digits) _ n h.some h.few value) ∙ ap (λ (l : List ℕ). Some l) (drop-append_seam h.digits t))

digits_begin : (ds t : List ℕ) → 1 ≤ length ds → AreDigits ds → BeginsWithDigit (ds ++ t)
digits_begin [] t some all = absurd (omega arith)
digits_begin (x ∷ xs) t some all = record { first = x; rest = xs ++ t; is = refl; digit = all.0 }

pub number_begins : (n : ℕ) (s t : List ℕ) → BeginsWithNumber n s t → BeginsWithDigit s
number_begins n s t h = subst BeginsWithDigit (sym h.is) (digits_begin h.digits t h.some h.all)

step : (o : Option (List ℕ)) (f : List ℕ → Option (List ℕ)) (s t : List ℕ) → o ≡ Some s → f s ≡ Some t → and_then o f ≡ Some t
step o f s t e h = let P : Option (List ℕ) → Type 0 = λ x. and_then x f ≡ Some t in subst P (sym e) h

magic_done : (s a : List ℕ) → s ≡ 80 ∷ (54 ∷ a) → after_magic s ≡ Some a
magic_done s a e = let P : List ℕ → Type 0 = λ x. after_magic x ≡ Some a in subst P (sym e) refl

spaced_done : (s t : List ℕ) → BeginsWithSpace s t → after_space s ≡ Some t
spaced_done s t h = let P : List ℕ → Type 0 = λ x. after_space x ≡ Some t in subst P (sym h.is) (rw h.space refl)

length_done : (n : ℕ) (p : List ℕ) → length p ≡ n → of_length n p ≡ Some p
length_done n p e = let same : nat_eq (length p) n ≡ true = grind (arith, nat_tests) in rw same refl

pub complete : (w h : ℕ) (s p : List ℕ) → IsPixmap w h s p → pixels_of w h s ≡ Some p
unfolding pixels_of
complete w h s p x =
    let a = magic_done s x.behind_magic x.magic in
    let b = gapped_done x.behind_magic x.from_width x.gap_to_width (number_begins w x.from_width x.behind_width x.width_is) in
    let c = numbered_done w x.from_width x.behind_width x.gap_to_height.first _ x.gap_to_height.is (space_no_digit x.gap_to_height.first x.gap_to_height.space) x.width_is in
    let d = gapped_done x.behind_width x.from_height x.gap_to_height (number_begins h x.from_height x.behind_height x.height_is) in
    let e = numbered_done h x.from_height x.behind_height x.gap_to_maxval.first _ x.gap_to_maxval.is (space_no_digit x.gap_to_maxval.first x.gap_to_maxval.space) x.height_is in
    let f = gapped_done x.behind_height x.from_maxval x.gap_to_maxval (number_begins 255 x.from_maxval x.behind_maxval x.maxval_is) in
    let g = numbered_done 255 x.from_maxval x.behind_maxval x.space.byte _ x.space.is (space_no_digit x.space.byte x.space.space) x.maxval_is in
    let last = spaced_done x.behind_maxval p x.space in
    step _ _ _ p (step _ _ _ p (step _ _ _ _ (step _ _ _ _ (step _ _ _ _ (step _ _ _ _ (step _ _ _ _ (step _ _ _ _ a b) c) d) e) f) g) last) (length_done (3 * w * h) p x.size)
