-- An encoded tile on which parts are laid, each under those before it.
use Rattle.std.specs.Prelude.{ℕ, ◌≡◌, ◌<◌, ◌≤◌, ◌+◌, ◌*◌, ◌&&◌, Bool, true, false, if◌then◌else◌, List, [], ◌∷◌, length, map, take, get_or, slice_set}
use Rattle.matrix_geometry.specs.declared.matrix.Matrix.{Matrix}
use Rattle.matrix_geometry.specs.Limits.{IsWithinLimits}
use Rattle.metatile_plan.specs.Texts.{header}
use Rattle.raster_field.specs.declared.colour.Colour.{Colour}
use Rattle.layer_recipes.specs.Composite.{Layered, is_same, pixel_at, pixel_in, seen_through, shown}

-- an encoded tile on a matrix; of each pixel, whether each part so far shows its key there
pub record OverlaySheet : Type 0 where
  pub matrix : Matrix
  pub text : List ℕ
  pub clear : List Bool

-- each of these parts shows its key at a pixel
abbrev pub are_keys : List Layered → ℕ → ℕ → Bool
are_keys [] x y = true
are_keys (l ∷ ls) x y = is_same (l.colour x y) l.key && are_keys ls x y

-- these parts were laid on it, from the top down
pub record Lays (s : OverlaySheet) (parts : List (Colour × List ℕ)) : Type 0 where
  pub colour : (x y : ℕ) → x < s.matrix.tile_w → y < s.matrix.tile_h → pixel_in s.text (pixel_at s.matrix x y) ≡ seen_through (map (shown s.matrix) parts) x y
  pub clear : (x y : ℕ) → x < s.matrix.tile_w → y < s.matrix.tile_h → get_or s.clear (y * s.matrix.tile_w + x) false ≡ are_keys (map (shown s.matrix) parts) x y

-- it has the header and the bytes of all pixels, which begin at `start`
pub record IsSheet (m : Matrix) (start : ℕ) (text : List ℕ) (clear : List Bool) : Type 0 where
  pub limits : IsWithinLimits m
  pub begins : start ≡ length (header m)
  pub head : take start text ≡ header m
  pub size : length text ≡ start + 3 * (m.tile_h * m.tile_w)
  pub count : length clear ≡ m.tile_h * m.tile_w

-- ONE PART

-- what is seen of a pixel with another one below it
abbrev pub laid : Bool → Colour → Colour → Colour
laid clear below above = if clear then below else above

abbrev pub with_pixel : ℕ → Colour → List ℕ → List ℕ
with_pixel at c text = slice_set (slice_set (slice_set text at c.r) (at + 1) c.g) (at + 2) c.b

-- the first n pixels of a text were laid under those of another, and the others stayed
pub record AreLaid (start n : ℕ) (key : Colour) (text before after : List ℕ) (clear_before clear_after : List Bool) : Type 0 where
  pub head : take start after ≡ take start before
  pub size : length after ≡ length before
  pub count : length clear_after ≡ length clear_before
  pub pixels : (p : ℕ) → p < n → pixel_in after (start + 3 * p) ≡ laid (get_or clear_before p false) (pixel_in text (start + 3 * p)) (pixel_in before (start + 3 * p))
  pub clear : (p : ℕ) → p < n → get_or clear_after p false ≡ (get_or clear_before p false && is_same (pixel_in text (start + 3 * p)) key)
  pub rest : (p : ℕ) → n ≤ p → pixel_in after (start + 3 * p) ≡ pixel_in before (start + 3 * p)
  pub clear_rest : (p : ℕ) → n ≤ p → get_or clear_after p false ≡ get_or clear_before p false
