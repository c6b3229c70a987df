-- where a text leaves the form of a decimal number
use Rattle.std.proofs.Common.{◌≡◌, ℕ, zero, suc, ◌+◌, ◌-◌, ◌<◌, ◌≤◌, ◌⊎◌, inl, inr, List, [], ◌∷◌, ◌++◌, length, take, get_or, sym, ap, subst, ◌∙◌, arith, length-append, length-take}
use Rattle.std.specs.Prelude.{◌==◌, if◌then◌else◌}
use Rattle.std.specs.Char.{IsAsciiDigit}
use Rattle.std.proofs.Math.ListN.{get_or-append}
use Rattle.std.proofs.Math.Seq.{get_or-append_right}
use Rattle.std.proofs.lemmas.Bool.{cases_order}
use Rattle.std.proofs.lemmas.List.{get_or-take}
use Rattle.exact_ratio.specs.Decimal.{sign_len}
use Rattle.exact_ratio.specs.Form.{GoesOn, IsDecimalText, IsLeftAt}

-- SIGNS

sign_of : ℕ → ℕ
sign_of b = if b == 45 then 1 else 0

same_sign : (xs ys : List ℕ) → get_or xs 0 0 ≡ get_or ys 0 0 → sign_len xs ≡ sign_len ys
unfolding sign_of
same_sign xs ys e = ap sign_of e

-- A TEXT THAT GOES ON WITH A DIGIT

abbrev with_zero : List ℕ → ℕ → List ℕ
with_zero text place = take place text ++ 48 ∷ []

length-with_zero : (text : List ℕ) (place : ℕ) → place ≤ length text → length (with_zero text place) ≡ place + 1
length-with_zero text place h = omega (arith, length-append (take place text) (48 ∷ []), length-take place text)

zero_before : (text : List ℕ) (place k : ℕ) → place ≤ length text → k < place → get_or (with_zero text place) k 0 ≡ get_or text k 0
zero_before text place k h lt =
    let within : k < length (take place text) = omega (arith, length-take place text) in
    get_or-append (take place text) (48 ∷ []) 0 k within ∙ get_or-take place text k 0 lt

zero_there : (text : List ℕ) (place : ℕ) → place ≤ length text → get_or (with_zero text place) place 0 ≡ 48
zero_there text place h =
    let all : length (take place text) ≡ place = omega (arith, length-take place text) in
    let none : place - length (take place text) ≡ 0 = omega arith in
    get_or-append_right (take place text) (48 ∷ []) place 0 (omega arith) ∙ ap (λ (k : ℕ). get_or (48 ∷ []) k 0) none

zero_sign : (text : List ℕ) (place : ℕ) → place ≤ length text → sign_len text ≤ place → sign_len (with_zero text place) ≡ sign_len text
zero_sign text zero h k = let none : sign_len text ≡ 0 = omega arith in sym none
zero_sign text (suc place) h k = same_sign (with_zero text (suc place)) text (zero_before text (suc place) 0 h (omega arith))

is_zero_digit : (b : ℕ) → b ≡ 48 → IsAsciiDigit b
is_zero_digit b e = (omega arith, omega arith)

zero_digit : (text : List ℕ) (place i : ℕ) → place ≤ length text → (i < place → IsAsciiDigit (get_or text i 0)) → i < place + 1 → IsAsciiDigit (get_or (with_zero text place) i 0)
zero_digit text place i h digit lt =
    elim (cases_order i place) [
      | inl e ↦ is_zero_digit _ (ap (λ (k : ℕ). get_or (with_zero text place) k 0) e ∙ zero_there text place h)
      | inr e ↦ elim e [
        | inl below ↦ rw (zero_before text place i h below) (digit below)
        | inr above ↦ absurd (omega arith)
      ]
    ]

-- it has the form where the digits before the point come last
zero_whole : (text : List ℕ) (place : ℕ) → place ≤ length text → sign_len text ≤ place → ((k : ℕ) → sign_len text ≤ k → k < place → IsAsciiDigit (get_or text k 0)) → GoesOn text place
zero_whole text place h k digits =
    record {
      other = with_zero text place;
      longer = omega (arith, length-with_zero text place h);
      same = λ i lt. zero_before text place i h lt;
      form = record {
        point = place + 1;
        whole = record {
          some = rw (zero_sign text place h k) (omega arith);
          within = rw (length-with_zero text place h) (omega arith);
          digits = λ i from lt. zero_digit text place i h (λ below. digits i (rw (zero_sign text place h k) at from) below) lt;
        };
        part = inl (sym (length-with_zero text place h));
      };
    }

-- it has the form where the digits after the point come last
zero_part : (text : List ℕ) (point place : ℕ) → place ≤ length text → sign_len text < point → point < place → ((k : ℕ) → sign_len text ≤ k → k < point → IsAsciiDigit (get_or text k 0)) → get_or text point 0 ≡ 46 → ((k : ℕ) → point + 1 ≤ k → k < place → IsAsciiDigit (get_or text k 0)) → GoesOn text place
zero_part text point place h some order whole is_point part =
    let sign = zero_sign text place h (omega arith) in
    record {
      other = with_zero text place;
      longer = omega (arith, length-with_zero text place h);
      same = λ i lt. zero_before text place i h lt;
      form = record {
        point = point;
        whole = record {
          some = rw sign some;
          within = rw (length-with_zero text place h) (omega arith);
          digits = λ i from lt. zero_digit text place i h (λ _. whole i (rw sign at from) lt) (omega arith);
        };
        part = inr (
          zero_before text place point h order ∙ is_point,
          record {
            some = rw (length-with_zero text place h) (omega arith);
            within = omega arith;
            digits = λ i from lt. zero_digit text place i h (λ below. part i from below) (rw (length-with_zero text place h) at lt);
          },
        );
      };
    }

-- WHERE THE POINT OF A FORM STANDS

no_point_digit : (b : ℕ) → IsAsciiDigit b → b ≡ 46 → ⊥
no_point_digit b d e = let low = d.0 in absurd (omega arith)

-- digits stand up to `point`, and no digit there
point_is : (other : List ℕ) (point : ℕ) → point < length other → ((k : ℕ) → sign_len other ≤ k → k < point → IsAsciiDigit (get_or other k 0)) → sign_len other < point → ¬ IsAsciiDigit (get_or other point 0) → (f : IsDecimalText other) → f.point ≡ point
point_is other point h digits some no_digit f =
    let start = f.whole.some in
    elim (cases_order f.point point) [
      | inl e ↦ e
      | inr e ↦ elim e [
        | inl before ↦ elim f.part [
          | inl ends ↦ absurd (omega arith)
          | inr p ↦ absurd (no_point_digit _ (digits f.point (omega arith) before) p.0)
        ]
        | inr behind ↦ absurd (no_digit (f.whole.digits point (omega arith) behind))
      ]
    ]

-- WHERE A TEXT IS LEFT

-- a longer text of the form that goes on past this place is one whose bytes are known
agrees : (text : List ℕ) (place : ℕ) (g : GoesOn text (place + 1)) → sign_len g.other ≡ sign_len text
agrees text place g = same_sign g.other text (g.same 0 (omega arith))

pub left_at_start : (text : List ℕ) (start : ℕ) → start ≡ sign_len text → start < length text → ¬ IsAsciiDigit (get_or text start 0) → IsLeftAt text start
left_at_start text start is h no_digit =
    record {
      within = omega arith;
      before = zero_whole text start (omega arith) (omega arith) (λ k from lt. absurd (omega arith));
      there = λ _ g.
          let sign = agrees text start g in
          let some = g.form.whole.some in
          no_digit (rw (g.same start (omega arith)) at (g.form.whole.digits start (omega arith) (omega arith)));
      not_met = λ f.
          let some = f.whole.some in
          no_digit (f.whole.digits start (omega arith) (omega arith));
    }

pub left_at_point : (text : List ℕ) (start point : ℕ) → start ≡ sign_len text → start < point → point < length text → ((k : ℕ) → start ≤ k → k < point → IsAsciiDigit (get_or text k 0)) → ¬ IsAsciiDigit (get_or text point 0) → ¬ (get_or text point 0 ≡ 46) → IsLeftAt text point
left_at_point text start point is some h digits no_digit no_point =
    record {
      within = omega arith;
      before = zero_whole text point (omega arith) (omega arith) (λ k from lt. digits k (omega arith) lt);
      there = λ _ g.
          let sign = agrees text point g in
          let longer = g.longer in
          let same = g.same point (omega arith) in
          let at = point_is g.other point (omega arith) (λ k from lt. rw (g.same k (omega arith)) (digits k (omega arith) lt)) (omega arith) (rw same no_digit) g.form in
          elim g.form.part [ inl ends ↦ absurd (omega arith) | inr p ↦ no_point (sym same ∙ subst (λ (k : ℕ). get_or g.other k 0 ≡ 46) at p.0) ];
      not_met = λ f.
          let at = point_is text point h (λ k from lt. digits k (omega arith) lt) (omega arith) no_digit f in
          elim f.part [ inl ends ↦ absurd (omega arith) | inr p ↦ no_point (subst (λ (k : ℕ). get_or text k 0 ≡ 46) at p.0) ];
    }

not_digit_46 : (b : ℕ) → b ≡ 46 → ¬ IsAsciiDigit b
not_digit_46 b e d = no_point_digit b d e

pub left_behind_point : (text : List ℕ) (start point end : ℕ) → start ≡ sign_len text → start < point → point < length text → ((k : ℕ) → start ≤ k → k < point → IsAsciiDigit (get_or text k 0)) → get_or text point 0 ≡ 46 → point + 1 ≤ end → end ≤ length text → ((k : ℕ) → point + 1 ≤ k → k < end → IsAsciiDigit (get_or text k 0)) → (end < length text → ¬ IsAsciiDigit (get_or text end 0)) → (end ≡ point + 1) ⊎ (end < length text) → IsLeftAt text end
left_behind_point text start point end is some h digits is_point behind within part no_digit left =
    record {
      within = within;
      before = zero_part text point end within (omega arith) (omega arith) (λ k from lt. digits k (omega arith) lt) is_point part;
      there = λ lt g.
          let sign = agrees text end g in
          let longer = g.longer in
          let at = point_is g.other point (omega arith) (λ k from below. rw (g.same k (omega arith)) (digits k (omega arith) below)) (omega arith) (rw (g.same point (omega arith)) (not_digit_46 _ is_point)) g.form in
          elim g.form.part [ inl ends ↦ absurd (omega arith) | inr p ↦ no_digit lt (rw (g.same end (omega arith)) at (p.1.digits end (omega arith) (omega arith))) ];
      not_met = λ f.
          let at = point_is text point h (λ k from below. digits k (omega arith) below) (omega arith) (not_digit_46 _ is_point) f in
          elim f.part [
            | inl ends ↦ absurd (omega arith)
            | inr p ↦ let more = p.1.some in elim left [ inl none ↦ absurd (omega arith) | inr lt ↦ no_digit lt (p.1.digits end (omega arith) lt) ]
          ];
    }
