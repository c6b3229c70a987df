-- Sheets: without a part, with one part more, and as a text.
use Rattle.std.proofs.Common.{◌≡◌, ℕ, zero, suc, ◌+◌, ◌*◌, ◌-◌, ◌<◌, ◌&&◌, Bool, true, false, List, [], ◌∷◌, ◌++◌, length, map, take, drop, get_or, replicate, refl, sym, ap, subst, ◌∙◌, arith, length-append, length-drop}
use Rattle.std.proofs.lemmas.List.{get_or-append_right, get_or-drop, get_or-replicate, get_or_past, length-replicate, map-append, take-append-drop}
use Rattle.std.proofs.lemmas.Nat.{mul-add-lt}
use Rattle.std.proofs.Math.Nat.{mul_comm}
use Rattle.std.proofs.Math.Seq.{take-append_seam}
use Rattle.matrix_geometry.specs.declared.matrix.Matrix.{Matrix}
use Rattle.matrix_geometry.specs.Limits.{IsWithinLimits}
use Rattle.metatile_plan.specs.Texts.{header}
use Rattle.raster_field.specs.declared.colour.Colour.{Colour}
use Rattle.layer_recipes.specs.Composite.{Layered, black, is_same, laid_over, pixel_at, pixel_in, seen_through, shown}
use Rattle.layer_recipes.specs.Overlaid.{AreLaid, IsSheet, Lays, are_keys, laid}
use Rattle.layer_recipes.proofs.Rows.{pixels_are}
use Rattle.layer_recipes.proofs.Seen.{keys_more, seen_more}

-- the place of a pixel is one of the places
place_within : (m : Matrix) (count x y : ℕ) → count ≡ m.tile_h * m.tile_w → x < m.tile_w → y < m.tile_h → y * m.tile_w + x < count
place_within m count x y is left up =
    let e = mul-add-lt y m.tile_w x m.tile_h up left in let d = mul_comm m.tile_w m.tile_h in
    rw is (rw d at e)

-- ---- without a part

zeros : (n i : ℕ) → ◌≡◌ {A = ℕ} (get_or (replicate n 0) i 0) 0
zeros zero i = get_or_past [] i 0 (omega arith)
zeros (suc n) zero = refl
zeros (suc n) (suc i) = zeros n i

behind : (h : List ℕ) (n p k : ℕ) → get_or (h ++ replicate n 0) (length h + p + k) 0 ≡ 0
behind h n p k =
    let e : length h + p + k - length h ≡ p + k = omega arith in
    get_or-append_right h (replicate n 0) (length h) (length h + p + k) 0 refl (omega arith) ∙ ap (λ (i : ℕ). get_or (replicate n 0) i 0) e ∙ zeros n (p + k)

all_black : (h : List ℕ) (n p : ℕ) → pixel_in (h ++ replicate n 0) (length h + p) ≡ black
all_black h n p =
    let zero : length h + p + 0 ≡ length h + p = omega arith in
    let first = behind h n p 0 in let red = rw zero at first in
    let green = behind h n p 1 in let blue = behind h n p 2 in
    λ i. record { r = red i; g = green i; b = blue i }

pub new_sheet : (m : Matrix) (start count : ℕ) (text : List ℕ) (clear : List Bool) → IsWithinLimits m → count ≡ m.tile_h * m.tile_w → text ≡ header m ++ replicate (3 * (m.tile_h * m.tile_w)) 0
    → clear ≡ replicate count true → start ≡ length text - 3 * count → IsSheet m start text clear
new_sheet m start count text clear limits is text_is clear_is start_is =
    let zs : List ℕ = replicate (3 * (m.tile_h * m.tile_w)) 0 in
    let some : length zs ≡ 3 * (m.tile_h * m.tile_w) = length-replicate (3 * (m.tile_h * m.tile_w)) 0 in
    let whole : length text ≡ length (header m) + 3 * (m.tile_h * m.tile_w) = ap (λ (t : List ℕ). length t) text_is ∙ length-append (header m) zs ∙ ap (λ (n : ℕ). length (header m) + n) some in
    let first : start ≡ length (header m) = omega (arith, whole, is, start_is) in
    record {
      limits = limits;
      begins = first;
      head = ap (λ (n : ℕ). take n text) first ∙ ap (λ (t : List ℕ). take (length (header m)) t) text_is ∙ take-append_seam (header m) zs;
      size = whole ∙ ap (λ (n : ℕ). n + 3 * (m.tile_h * m.tile_w)) (sym first);
      count = ap (λ (o : List Bool). length o) clear_is ∙ length-replicate count true ∙ is;
    }

pub none_lays : (m : Matrix) (count : ℕ) (text : List ℕ) (clear : List Bool) → count ≡ m.tile_h * m.tile_w → text ≡ header m ++ replicate (3 * (m.tile_h * m.tile_w)) 0
    → clear ≡ replicate count true → Lays (record { matrix = m; text = text; clear = clear }) []
none_lays m count text clear is text_is clear_is = record {
  colour = λ x y left up. ap (λ (t : List ℕ). pixel_in t (pixel_at m x y)) text_is ∙ all_black (header m) (3 * (m.tile_h * m.tile_w)) (3 * (y * m.tile_w + x));
  clear = λ x y left up. ap (λ (o : List Bool). get_or o (y * m.tile_w + x) false) clear_is ∙ get_or-replicate count (y * m.tile_w + x) true false (place_within m count x y is left up);
}

-- ---- one part more

pub sheet_more : (m : Matrix) (start n : ℕ) (before after : List ℕ) (cb ca : List Bool) (key : Colour) (text : List ℕ) → IsSheet m start before cb → AreLaid start n key text before after cb ca → IsSheet m start after ca
sheet_more m start n before after cb ca key text is laid = record {
  limits = is.limits;
  begins = is.begins;
  head = laid.head ∙ is.head;
  size = laid.size ∙ is.size;
  count = laid.count ∙ is.count;
}

pub lays_more : (m : Matrix) (start : ℕ) (before after : List ℕ) (cb ca : List Bool) (key : Colour) (text : List ℕ) → IsSheet m start before cb → AreLaid start (length cb) key text before after cb ca
    → (parts : List (Colour × List ℕ)) → Lays (record { matrix = m; text = before; clear = cb }) parts → Lays (record { matrix = m; text = after; clear = ca }) (parts ++ (key, text) ∷ [])
lays_more m start before after cb ca key text is all parts lays =
    let part : Colour × List ℕ = (key, text) in
    let on = subst (λ (n : ℕ). AreLaid n (length cb) key text before after cb ca) is.begins all in
    let ls = map (shown m) parts in let l = shown m part in
    let joined = map-append (shown m) parts (part ∷ []) in
    record {
      colour = λ x y left up.
          (let p = y * m.tile_w + x in
          on.pixels p (place_within m (length cb) x y is.count left up)
          ∙ ap (λ (b : Bool). laid b (pixel_in text (pixel_at m x y)) (pixel_in before (pixel_at m x y))) (lays.clear x y left up)
          ∙ ap (λ (c : Colour). laid (are_keys ls x y) (pixel_in text (pixel_at m x y)) c) (lays.colour x y left up)
          ∙ sym (seen_more ls l x y) ∙ sym (ap (λ (ks : List Layered). seen_through ks x y) joined));
      clear = λ x y left up.
          (let p = y * m.tile_w + x in
          on.clear p (place_within m (length cb) x y is.count left up)
          ∙ ap (λ (b : Bool). b && is_same (pixel_in text (pixel_at m x y)) key) (lays.clear x y left up)
          ∙ sym (keys_more ls l x y) ∙ sym (ap (λ (ks : List Layered). are_keys ks x y) joined));
    }

-- ---- as a text

pub sheet_text : (m : Matrix) (start : ℕ) (text : List ℕ) (clear : List Bool) (parts : List (Colour × List ℕ)) → IsSheet m start text clear → Lays (record { matrix = m; text = text; clear = clear }) parts → text ≡ laid_over m parts
sheet_text m start text clear parts is lays =
    let ls = map (shown m) parts in
    let size : length (drop start text) ≡ 3 * (m.tile_h * m.tile_w) = length-drop start text ∙ rw is.size (omega arith) in
    let pixels = pixels_are m.tile_w m.tile_h (drop start text) (seen_through ls) size (λ x y left up.
    (let at = λ (k : ℕ). (let e : start + (3 * (y * m.tile_w + x) + k) ≡ length (header m) + 3 * (y * m.tile_w + x) + k = omega (arith, is.begins) in
    get_or-drop start text (3 * (y * m.tile_w + x) + k) 0 ∙ ap (λ (i : ℕ). get_or text i 0) e) in
    let zero : 3 * (y * m.tile_w + x) + 0 ≡ 3 * (y * m.tile_w + x) = omega arith in
    let nothing : length (header m) + 3 * (y * m.tile_w + x) + 0 ≡ length (header m) + 3 * (y * m.tile_w + x) = omega arith in
    let first = at 0 in let red = rw (zero, nothing) at first in let green = at 1 in let blue = at 2 in
    let here : pixel_in (drop start text) (3 * (y * m.tile_w + x)) ≡ pixel_in text (pixel_at m x y) = λ i. record { r = red i; g = green i; b = blue i } in
    here ∙ lays.colour x y left up)) in
    sym (take-append-drop start text) ∙ ap (λ (h : List ℕ). h ++ drop start text) is.head ∙ ap (λ (ps : List ℕ). header m ++ ps) pixels
