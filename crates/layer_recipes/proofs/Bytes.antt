-- The pixels of a text after one of them was written.
use Rattle.std.proofs.Common.{◌≡◌, ℕ, ◌+◌, ◌≤◌, ◌<◌, ◌⊎◌, inl, inr, List, length, take, get_or, slice_set, arith, ◌∙◌}
use Rattle.std.proofs.lemmas.List.{get_or-set_other, get_or-set_same, length-set, take-set-le}
use Rattle.raster_field.specs.declared.colour.Colour.{Colour}
use Rattle.layer_recipes.specs.Composite.{pixel_in}
use Rattle.layer_recipes.specs.Overlaid.{with_pixel}

pub below : (a b : ℕ) → a < b → a ≡ b → ⊥
below a b less same = omega arith

pub above : (a b : ℕ) → b < a → a ≡ b → ⊥
above a b more same = omega arith

-- a byte outside of the pixel
byte_there : (text : List ℕ) (at i : ℕ) (c : Colour) → (i < at) ⊎ (at + 3 ≤ i) → get_or (with_pixel at c text) i 0 ≡ get_or text i 0
byte_there text at i c (inl before) =
    get_or-set_other (slice_set (slice_set text at c.r) (at + 1) c.g) (at + 2) i c.b 0 (below i (at + 2) (omega arith))
    ∙ get_or-set_other (slice_set text at c.r) (at + 1) i c.g 0 (below i (at + 1) (omega arith))
    ∙ get_or-set_other text at i c.r 0 (below i at before)
byte_there text at i c (inr behind) =
    get_or-set_other (slice_set (slice_set text at c.r) (at + 1) c.g) (at + 2) i c.b 0 (above i (at + 2) (omega arith))
    ∙ get_or-set_other (slice_set text at c.r) (at + 1) i c.g 0 (above i (at + 1) (omega arith))
    ∙ get_or-set_other text at i c.r 0 (above i at (omega arith))

outside : (at p k : ℕ) → k < 3 → (p + 3 ≤ at) ⊎ (at + 3 ≤ p) → (p + k < at) ⊎ (at + 3 ≤ p + k)
outside at p k few (inl before) = inl (omega arith)
outside at p k few (inr behind) = inr (omega arith)

-- another pixel
pub pixel_there : (text : List ℕ) (at p : ℕ) (c : Colour) → (p + 3 ≤ at) ⊎ (at + 3 ≤ p) → pixel_in (with_pixel at c text) p ≡ pixel_in text p
pixel_there text at p c far =
    let byte = λ (k : ℕ) (few : k < 3). byte_there text at (p + k) c (outside at p k few far) in
    let zero : p + 0 ≡ p = omega arith in
    let first = byte 0 (omega arith) in let red = rw zero at first in
    let green = byte 1 (omega arith) in let blue = byte 2 (omega arith) in
    λ n. record { r = red n; g = green n; b = blue n }

-- the pixel that was written
pub pixel_here : (text : List ℕ) (at : ℕ) (c : Colour) → at + 3 ≤ length text → pixel_in (with_pixel at c text) at ≡ c
pixel_here text at c fits =
    let one = length-set text at c.r in
    let two = length-set (slice_set text at c.r) (at + 1) c.g in
    let red = get_or-set_other (slice_set (slice_set text at c.r) (at + 1) c.g) (at + 2) at c.b 0 (below at (at + 2) (omega arith))
    ∙ get_or-set_other (slice_set text at c.r) (at + 1) at c.g 0 (below at (at + 1) (omega arith))
    ∙ get_or-set_same text at c.r 0 (omega arith) in
    let green = get_or-set_other (slice_set (slice_set text at c.r) (at + 1) c.g) (at + 2) (at + 1) c.b 0 (below (at + 1) (at + 2) (omega arith))
    ∙ get_or-set_same (slice_set text at c.r) (at + 1) c.g 0 (omega (arith, one)) in
    let blue = get_or-set_same (slice_set (slice_set text at c.r) (at + 1) c.g) (at + 2) c.b 0 (omega (arith, one, two)) in
    λ n. record { r = red n; g = green n; b = blue n }

pub length_there : (text : List ℕ) (at : ℕ) (c : Colour) → length (with_pixel at c text) ≡ length text
length_there text at c =
    length-set (slice_set (slice_set text at c.r) (at + 1) c.g) (at + 2) c.b ∙ length-set (slice_set text at c.r) (at + 1) c.g ∙ length-set text at c.r

-- what stands before the pixel
pub head_there : (text : List ℕ) (start at : ℕ) (c : Colour) → start ≤ at → take start (with_pixel at c text) ≡ take start text
head_there text start at c before =
    take-set-le start (slice_set (slice_set text at c.r) (at + 1) c.g) (at + 2) c.b (omega arith)
    ∙ take-set-le start (slice_set text at c.r) (at + 1) c.g (omega arith)
    ∙ take-set-le start text at c.r before
