-- One pixel more of a part.
use Rattle.std.proofs.Common.{◌≡◌, ℕ, ◌+◌, ◌*◌, ◌<◌, ◌&&◌, inl, inr, Bool, true, false, List, length, get_or, slice_set, arith, refl, sym, ap, subst, ◌∙◌}
use Rattle.std.specs.Prelude.{if◌then◌else◌}
use Rattle.std.proofs.lemmas.List.{get_or-set_other, get_or-set_same, length-set}
use borrow.Author.Count.{below_more}
use Rattle.raster_field.specs.declared.colour.Colour.{Colour}
use Rattle.layer_recipes.specs.Composite.{is_same, pixel_in}
use Rattle.layer_recipes.specs.Overlaid.{AreLaid, laid, with_pixel}
use Rattle.layer_recipes.proofs.Bytes.{above, below, head_there, length_there, pixel_here, pixel_there}

pub none_laid : (start : ℕ) (key : Colour) (text before : List ℕ) (clear : List Bool) → AreLaid start 0 key text before before clear clear
none_laid start key text before clear = record {
  head = refl;
  size = refl;
  count = refl;
  pixels = λ p less. absurd (omega arith);
  clear = λ p less. absurd (omega arith);
  rest = λ p most. refl;
  clear_rest = λ p most. refl;
}

-- it was clear
one_clear : (start n : ℕ) (key : Colour) (text before after : List ℕ) (cb ca : List Bool) → n < length ca → length after ≡ start + 3 * length ca
    → get_or ca n false ≡ true → AreLaid start n key text before after cb ca
    → AreLaid start (n + 1) key text before (with_pixel (start + 3 * n) (pixel_in text (start + 3 * n)) after) cb (slice_set ca n (is_same (pixel_in text (start + 3 * n)) key))
one_clear start n key text before after cb ca within size clear so_far =
    let at = start + 3 * n in let c = pixel_in text at in let s = is_same c key in
    let was : get_or cb n false ≡ true = sym (so_far.clear_rest n (omega arith)) ∙ clear in
    record {
      head = head_there after start at c (omega arith) ∙ so_far.head;
      size = length_there after at c ∙ so_far.size;
      count = length-set ca n s ∙ so_far.count;
      pixels = below_more (λ p. pixel_in (with_pixel at c after) (start + 3 * p) ≡ laid (get_or cb p false) (pixel_in text (start + 3 * p)) (pixel_in before (start + 3 * p))) n
          (λ p less. pixel_there after at (start + 3 * p) c (inl (omega arith)) ∙ so_far.pixels p less)
          (pixel_here after at c (omega arith) ∙ sym (ap (λ (b : Bool). laid b c (pixel_in before at)) was));
      clear = below_more (λ p. get_or (slice_set ca n s) p false ≡ (get_or cb p false && is_same (pixel_in text (start + 3 * p)) key)) n
          (λ p less. get_or-set_other ca n p s false (below p n less) ∙ so_far.clear p less)
          (get_or-set_same ca n s false within ∙ sym (ap (λ (b : Bool). b && s) was));
      rest = λ p most. pixel_there after at (start + 3 * p) c (inr (omega arith)) ∙ so_far.rest p (omega arith);
      clear_rest = λ p most. get_or-set_other ca n p s false (above p n (omega arith)) ∙ so_far.clear_rest p (omega arith);
    }

-- it was hidden
one_hidden : (start n : ℕ) (key : Colour) (text before after : List ℕ) (cb ca : List Bool) → get_or ca n false ≡ false → AreLaid start n key text before after cb ca
    → AreLaid start (n + 1) key text before after cb ca
one_hidden start n key text before after cb ca hidden so_far =
    let at = start + 3 * n in
    let was : get_or cb n false ≡ false = sym (so_far.clear_rest n (omega arith)) ∙ hidden in
    record {
      head = so_far.head;
      size = so_far.size;
      count = so_far.count;
      pixels = below_more (λ p. pixel_in after (start + 3 * p) ≡ laid (get_or cb p false) (pixel_in text (start + 3 * p)) (pixel_in before (start + 3 * p))) n
          so_far.pixels
          (so_far.rest n (omega arith) ∙ sym (ap (λ (b : Bool). laid b (pixel_in text at) (pixel_in before at)) was));
      clear = below_more (λ p. get_or ca p false ≡ (get_or cb p false && is_same (pixel_in text (start + 3 * p)) key)) n
          so_far.clear
          (hidden ∙ sym (ap (λ (b : Bool). b && is_same (pixel_in text at) key) was));
      rest = λ p most. so_far.rest p (omega arith);
      clear_rest = λ p most. so_far.clear_rest p (omega arith);
    }

one_by : (b : Bool) (start n : ℕ) (key : Colour) (text before after : List ℕ) (cb ca : List Bool) → n < length ca → length after ≡ start + 3 * length ca
    → get_or ca n false ≡ b → AreLaid start n key text before after cb ca
    → AreLaid start (n + 1) key text before (if b then with_pixel (start + 3 * n) (pixel_in text (start + 3 * n)) after else after) cb (if b then slice_set ca n (is_same (pixel_in text (start + 3 * n)) key) else ca)
one_by true start n key text before after cb ca within size is so_far = one_clear start n key text before after cb ca within size is so_far
one_by false start n key text before after cb ca within size is so_far = one_hidden start n key text before after cb ca is so_far

pub one_laid : (start n : ℕ) (key : Colour) (text before after then_after : List ℕ) (cb ca then_ca : List Bool) → n < length ca → length after ≡ start + 3 * length ca
    → then_after ≡ (if get_or ca n false then with_pixel (start + 3 * n) (pixel_in text (start + 3 * n)) after else after)
    → then_ca ≡ (if get_or ca n false then slice_set ca n (is_same (pixel_in text (start + 3 * n)) key) else ca)
    → AreLaid start n key text before after cb ca → AreLaid start (n + 1) key text before then_after cb then_ca
one_laid start n key text before after then_after cb ca then_ca within size text_is clear_is so_far =
    let new = one_by (get_or ca n false) start n key text before after cb ca within size refl so_far in
    subst (λ (t : List ℕ). AreLaid start (n + 1) key text before t cb then_ca) (sym text_is)
    (subst (λ (o : List Bool). AreLaid start (n + 1) key text before (if get_or ca n false then with_pixel (start + 3 * n) (pixel_in text (start + 3 * n)) after else after) cb o) (sym clear_is) new)
