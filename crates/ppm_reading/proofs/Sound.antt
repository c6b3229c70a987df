-- what is accepted has the form of a pixmap
use Rattle.std.proofs.Common.{◌≡◌, ℕ, ◌+◌, ◌-◌, ◌*◌, ◌≤◌, List, [], ◌∷◌, ◌++◌, length, take, drop, refl, sym, ap, ◌∙◌, subst, arith, Bool, true, false, nat_eq, nat_lt, Some, None, append_assoc, length-append, one-add}
use Rattle.std.specs.Prelude.{if◌then◌else◌, Option, MatchOption, not, ◌&&◌}
use Rattle.std.specs.List.{prefix_len}
use Rattle.std.specs.Char.{is_ascii_digit}
use Rattle.std.specs.Str.Parse.{digits_value}
use Rattle.std.proofs.lemmas.Bool.Decides.{nat_tests}
use Rattle.std.proofs.lemmas.Grind.{common_steps}
use Rattle.std.proofs.lemmas.List.{take-append-drop, length-take-le}
use Rattle.std.proofs.lemmas.List.Sums.{prefix_len-le-length}
use Rattle.std.proofs.Math.Seq.{drop-append_seam}
use Rattle.ppm_reading.specs.Reading.{after_blanks, after_gap, after_magic, after_number, after_space, and_then, of_length, pixels_of}
use Rattle.ppm_reading.specs.Form.{is_space, is_line_end, HasNoLineEnd, AreDigits, AreBlanks, done, space, comment, BeginsWithGap, BeginsWithNumber, BeginsWithSpace, IsPixmap}
use Rattle.ppm_reading.proofs.Complete.{BeginsWithDigit, number_begins, complete}

-- what comes to something came to something before
pub record Steps (o : Option (List ℕ)) (f : List ℕ → Option (List ℕ)) (t : List ℕ) : Type 0 where
  pub middle : List ℕ
  pub first : o ≡ Some middle
  pub second : f middle ≡ Some t

back : (o : Option (List ℕ)) (f : List ℕ → Option (List ℕ)) (t : List ℕ) → and_then o f ≡ Some t → Steps o f t
back None f t h = absurd (cc)
back (Some s) f t h = record { middle = s; first = refl; second = h }

-- a gap that is left, from within a comment or from outside
pub record Blanks (s t : List ℕ) : Type 0 where
  pub gap : List ℕ
  pub is : s ≡ gap ++ t
  pub all : AreBlanks gap

pub record InsideComment (s t : List ℕ) : Type 0 where
  pub text : List ℕ
  pub end : ℕ
  pub gap : List ℕ
  pub is : s ≡ text ++ (end ∷ (gap ++ t))
  pub plain : HasNoLineEnd text
  pub ends : is_line_end end ≡ true
  pub all : AreBlanks gap

abbrev BlanksAt : Bool → List ℕ → List ℕ → Type 0
BlanksAt true s t = InsideComment s t
BlanksAt false s t = Blanks s t

inside_more : (b : ℕ) (bs t : List ℕ) (v : Bool) → is_line_end b ≡ v → BlanksAt (not v) bs t → InsideComment (b ∷ bs) t
inside_more b bs t true e l = record { text = []; end = b; gap = l.gap; is = ap (λ (s : List ℕ). b ∷ s) l.is; plain = tt; ends = e; all = l.all }
inside_more b bs t false e l = record { text = b ∷ l.text; end = l.end; gap = l.gap; is = ap (λ (s : List ℕ). b ∷ s) l.is; plain = (e, l.plain); ends = l.ends; all = l.all }

same_number : (b n : ℕ) → nat_eq b n ≡ true → b ≡ n
same_number b n e = grind (arith, nat_tests)

outside_more : (b : ℕ) (bs t : List ℕ) (v u : Bool) → nat_eq b 35 ≡ v → is_space b ≡ u → (if v then after_blanks true bs else (if u then after_blanks false bs else b ∷ bs)) ≡ t → (after_blanks true bs ≡ t → InsideComment bs t) → (after_blanks false bs ≡ t → Blanks bs t) → Blanks (b ∷ bs) t
outside_more b bs t true u e f h in_comment out =
    let l = in_comment h in
    record {
      gap = 35 ∷ (l.text ++ (l.end ∷ l.gap));
      is = ap (λ (n : ℕ). n ∷ bs) (same_number b 35 e) ∙ ap (λ (s : List ℕ). 35 ∷ s) (l.is ∙ sym (append_assoc l.text (l.end ∷ l.gap) t));
      all = comment l.text l.gap l.end l.plain l.ends l.all;
    }
outside_more b bs t false true e f h in_comment out =
    let l = out h in record { gap = b ∷ l.gap; is = ap (λ (s : List ℕ). b ∷ s) l.is; all = space b l.gap f l.all }
outside_more b bs t false false e f h in_comment out = record { gap = []; is = h; all = done }

nothing : (s t : List ℕ) → BeginsWithDigit t → [] ≡ t → ⊥
nothing s t d h = let e : [] ≡ d.first ∷ d.rest = h ∙ d.is in absurd (cc)

left : (i : Bool) (s t : List ℕ) → BeginsWithDigit t → after_blanks i s ≡ t → BlanksAt i s t
left true [] t d h = absurd (nothing [] t d h)
left false [] t d h = absurd (nothing [] t d h)
left true (b ∷ bs) t d h = inside_more b bs t (is_line_end b) refl (left (not (is_line_end b)) bs t d h)
left false (b ∷ bs) t d h = outside_more b bs t (nat_eq b 35) (is_space b) refl refl h (left true bs t d) (left false bs t d)

same_some : (s t : List ℕ) → Some s ≡ Some t → s ≡ t
same_some s t e = cc

gapped_more : (b : ℕ) (bs t : List ℕ) (u : Bool) → is_space b ≡ u → (if u then Some (after_blanks false bs) else None) ≡ Some t → BeginsWithDigit t → BeginsWithGap (b ∷ bs) t
gapped_more b bs t true e h d =
    let l = left false bs t d (same_some _ _ h) in record { first = b; more = l.gap; is = ap (λ (s : List ℕ). b ∷ s) l.is; space = e; blanks = l.all }
gapped_more b bs t false e h d = absurd (cc)

gapped : (s t : List ℕ) → after_gap s ≡ Some t → BeginsWithDigit t → BeginsWithGap s t
gapped [] t h d = absurd (cc)
gapped (b ∷ bs) t h d = gapped_more b bs t (is_space b) refl h d

taken_more : (x n : ℕ) (xs : List ℕ) (v : Bool) → is_ascii_digit x ≡ v → AreDigits (take n xs) → AreDigits (take (if v then 1 + n else 0) (x ∷ xs))
taken_more x n xs true e h = rw (one-add n) (e, h)
taken_more x n xs false e h = tt

digits_taken : (s : List ℕ) → AreDigits (take (prefix_len is_ascii_digit s) s)
digits_taken [] = tt
digits_taken (x ∷ xs) = taken_more x (prefix_len is_ascii_digit xs) xs (is_ascii_digit x) refl (digits_taken xs)

number_parts : (k v n : ℕ) → (nat_lt 0 k && nat_lt k 10 && nat_eq v n) ≡ true → (1 ≤ k) × (k ≤ 9) × (v ≡ n)
number_parts k v n h = (grind (arith, nat_tests, common_steps), grind (arith, nat_tests, common_steps), grind (arith, nat_tests, common_steps))

numbered_more : (n : ℕ) (s t : List ℕ) (v : Bool) → (nat_lt 0 (prefix_len is_ascii_digit s) && nat_lt (prefix_len is_ascii_digit s) 10 && nat_eq (digits_value 10 (take (prefix_len is_ascii_digit s) s)) n) ≡ v → (if v then Some (drop (prefix_len is_ascii_digit s) s) else None) ≡ Some t → BeginsWithNumber n s t
numbered_more n s t false e h = absurd (cc)
numbered_more n s t true e h =
    let k = prefix_len is_ascii_digit s in
    let p = number_parts (prefix_len is_ascii_digit s) (digits_value 10 (take (prefix_len is_ascii_digit s) s)) n e in
    let len : length (take (prefix_len is_ascii_digit s) s) ≡ prefix_len is_ascii_digit s = length-take-le (prefix_len is_ascii_digit s) s (prefix_len-le-length is_ascii_digit s) in
    record {
      digits = take (prefix_len is_ascii_digit s) s;
      is = sym (take-append-drop (prefix_len is_ascii_digit s) s) ∙ ap (λ (l : List ℕ). take (prefix_len is_ascii_digit s) s ++ l) (same_some _ _ h);
      some = omega (arith, p.0, len);
      few = omega (arith, p.1, len);
      all = digits_taken s;
      value = p.2;
    }

numbered : (n : ℕ) (s t : List ℕ) → after_number n s ≡ Some t → BeginsWithNumber n s t
numbered n s t h = numbered_more n s t _ refl h

spaced_more : (b : ℕ) (bs t : List ℕ) (u : Bool) → is_space b ≡ u → (if u then Some bs else None) ≡ Some t → BeginsWithSpace (b ∷ bs) t
spaced_more b bs t true e h = record { byte = b; is = ap (λ (s : List ℕ). b ∷ s) (same_some _ _ h); space = e }
spaced_more b bs t false e h = absurd (cc)

spaced : (s t : List ℕ) → after_space s ≡ Some t → BeginsWithSpace s t
spaced [] t h = absurd (cc)
spaced (b ∷ bs) t h = spaced_more b bs t (is_space b) refl h

magic_parts : (a b : ℕ) → (nat_eq a 80 && nat_eq b 54) ≡ true → (a ≡ 80) × (b ≡ 54)
magic_parts a b h = (grind (arith, nat_tests, common_steps), grind (arith, nat_tests, common_steps))

magic_more : (a b : ℕ) (s t : List ℕ) (v : Bool) → (nat_eq a 80 && nat_eq b 54) ≡ v → (if v then Some s else None) ≡ Some t → a ∷ (b ∷ s) ≡ 80 ∷ (54 ∷ t)
magic_more a b s t false e h = absurd (cc)
magic_more a b s t true e h = let p = magic_parts a b e in ap (λ (n : ℕ). n ∷ (b ∷ s)) p.0 ∙ ap (λ (n : ℕ). 80 ∷ (n ∷ s)) p.1 ∙ ap (λ (l : List ℕ). 80 ∷ (54 ∷ l)) (same_some _ _ h)

magic_read : (s t : List ℕ) → after_magic s ≡ Some t → s ≡ 80 ∷ (54 ∷ t)
magic_read [] t h = absurd (cc)
magic_read (a ∷ []) t h = absurd (cc)
magic_read (a ∷ (b ∷ s)) t h = magic_more a b s t _ refl h

length_more : (n : ℕ) (s t : List ℕ) (v : Bool) → nat_eq (length s) n ≡ v → (if v then Some s else None) ≡ Some t → (s ≡ t) × (length t ≡ n)
length_more n s t false e h = absurd (cc)
length_more n s t true e h = let same = same_some s t h in (same, ap (λ (l : List ℕ). length l) (sym same) ∙ same_number (length s) n e)

length_read : (n : ℕ) (s t : List ℕ) → of_length n s ≡ Some t → (s ≡ t) × (length t ≡ n)
length_read n s t h = length_more n s t _ refl h

pub sound : (w h : ℕ) (s p : List ℕ) → pixels_of w h s ≡ Some p → IsPixmap w h s p
unfolding pixels_of
sound w h s p e =
    let all = back _ (of_length (3 * w * h)) p e in
    let size = length_read (3 * w * h) all.middle p all.second in
    let last = back _ after_space all.middle all.first in
    let to_maxval = back _ (after_number 255) last.middle last.first in
    let maxval = numbered 255 to_maxval.middle last.middle to_maxval.second in
    let gap_3 = back _ after_gap to_maxval.middle to_maxval.first in
    let to_height = back _ (after_number h) gap_3.middle gap_3.first in
    let height = numbered h to_height.middle gap_3.middle to_height.second in
    let gap_2 = back _ after_gap to_height.middle to_height.first in
    let to_width = back _ (after_number w) gap_2.middle gap_2.first in
    let width = numbered w to_width.middle gap_2.middle to_width.second in
    let gap_1 = back _ after_gap to_width.middle to_width.first in
    record {
      behind_magic = gap_1.middle;
      magic = magic_read s gap_1.middle gap_1.first;
      from_width = to_width.middle;
      gap_to_width = gapped gap_1.middle to_width.middle gap_1.second (number_begins w to_width.middle gap_2.middle width);
      behind_width = gap_2.middle;
      width_is = width;
      from_height = to_height.middle;
      gap_to_height = gapped gap_2.middle to_height.middle gap_2.second (number_begins h to_height.middle gap_3.middle height);
      behind_height = gap_3.middle;
      height_is = height;
      from_maxval = to_maxval.middle;
      gap_to_maxval = gapped gap_3.middle to_maxval.middle gap_3.second (number_begins 255 to_maxval.middle last.middle maxval);
      behind_maxval = last.middle;
      maxval_is = maxval;
      space = spaced last.middle p (last.second ∙ ap (λ (l : List ℕ). Some l) size.0);
      size = size.1;
    }

-- a list that ends with another
record EndsWith (s rest : List ℕ) : Type 0 where
  front : List ℕ
  is : s ≡ front ++ rest

further : (a b c : List ℕ) → EndsWith a b → EndsWith b c → EndsWith a c
further a b c h g = record { front = h.front ++ g.front; is = h.is ∙ ap (λ (s : List ℕ). h.front ++ s) g.is ∙ sym (append_assoc h.front g.front c) }

behind_gap : (a b : List ℕ) → BeginsWithGap a b → EndsWith a b
behind_gap a b h = record { front = h.first ∷ h.more; is = h.is }

behind_number : (n : ℕ) (a b : List ℕ) → BeginsWithNumber n a b → EndsWith a b
behind_number n a b h = record { front = h.digits; is = h.is }

ends : (w h : ℕ) (s p : List ℕ) → IsPixmap w h s p → EndsWith s p
ends w h s p x =
    let magic : EndsWith s x.behind_magic = record { front = 80 ∷ (54 ∷ []); is = x.magic } in
    let width = further _ _ _ (behind_gap _ _ x.gap_to_width) (behind_number _ _ _ x.width_is) in
    let height = further _ _ _ (behind_gap _ _ x.gap_to_height) (behind_number _ _ _ x.height_is) in
    let maxval = further _ _ _ (behind_gap _ _ x.gap_to_maxval) (behind_number _ _ _ x.maxval_is) in
    let last : EndsWith x.behind_maxval p = record { front = x.space.byte ∷ []; is = x.space.is } in
    further _ _ _ magic (further _ _ _ width (further _ _ _ height (further _ _ _ maxval last)))

seam : (s p : List ℕ) → EndsWith s p → drop (length s - length p) s ≡ p
seam s p h =
    let P : List ℕ → Type 0 = λ l. drop (length l - length p) l ≡ p in
    let n : length (h.front ++ p) - length p ≡ length h.front = omega (arith, length-append h.front p) in
    subst P (sym h.is) (ap (λ (k : ℕ). drop k (h.front ++ p)) n ∙ drop-append_seam h.front p)

-- pixels that are read stand at the end
pub pixels_last : (w h : ℕ) (s p : List ℕ) → pixels_of w h s ≡ Some p → IsPixmap w h s (drop (length s - length p) s)
pixels_last w h s p e =
    let x = sound w h s p e in
    subst (IsPixmap w h s) (sym (seam s p (ends w h s p x))) x

pub pixels_fit : (w h : ℕ) (s p : List ℕ) → pixels_of w h s ≡ Some p → length s - length p + 3 * w * h ≡ length s
pixels_fit w h s p e =
    let x = sound w h s p e in
    let end = ends w h s p x in
    let n : length s ≡ length end.front + length p = ap (λ (l : List ℕ). length l) end.is ∙ length-append end.front p in
    omega (arith, n, x.size)

pub pixels_short : (w h : ℕ) (s p : List ℕ) → pixels_of w h s ≡ Some p → length p ≤ length s
pixels_short w h s p e =
    let end = ends w h s p (sound w h s p e) in
    let n : length s ≡ length end.front + length p = ap (λ (l : List ℕ). length l) end.is ∙ length-append end.front p in
    omega (arith, n)

pub no_pixels : (w h : ℕ) (s : List ℕ) (r : Option ℕ) → r ≡ None → pixels_of w h s ≡ None → MatchOption r ((p : List ℕ) → ¬ IsPixmap w h s p) (λ at. IsPixmap w h s (drop at s))
no_pixels w h s r is e = let P : Option ℕ → Type 0 = λ o. MatchOption o ((p : List ℕ) → ¬ IsPixmap w h s p) (λ at. IsPixmap w h s (drop at s)) in
    subst P (sym is) (λ p x. let g : None ≡ Some p = sym e ∙ complete w h s p x in absurd (cc))
