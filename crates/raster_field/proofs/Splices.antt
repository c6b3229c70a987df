-- What a written pixel leaves.
use Rattle.std.proofs.Common.{◌≡◌, ℕ, ◌+◌, ◌-◌, ◌*◌, ◌≤◌, ◌<◌, ◌⊎◌, inl, inr, List, ◌++◌, length, take, drop, get_or, refl, ap, ◌∙◌, arith, append_assoc}
use Rattle.std.proofs.lemmas.Bool.{cases_order}
use Rattle.std.proofs.lemmas.List.{get_or_append_left, get_or-append_right, get_or-take, get_or-drop, length-take}
use Rattle.std.proofs.Math.Nat.{mul-le-mul_right}
use Rattle.raster_field.specs.declared.colour.Colour.{Colour}
use Rattle.raster_field.specs.Rasters.{Image, IsWhole, colour_in, place_of, spliced, with_bytes}
use Rattle.raster_field.specs.TileText.{bytes_of}

-- a byte outside of what was written
unwritten : (at p : ℕ) (more bytes : List ℕ) → at + length more ≤ length bytes → (p < at) ⊎ (at + length more ≤ p) → get_or (spliced at more bytes) p 0 ≡ get_or bytes p 0
unwritten at p more bytes fits (inl before) =
    let l : length (take at bytes) ≡ at = rw length-take (omega (arith, fits)) in
    let b : p < length (take at bytes) = rw l before in
    rw append_assoc (get_or_append_left (take at bytes) (more ++ drop (at + length more) bytes) 0 p b ∙ get_or-take at bytes p 0 before)
unwritten at p more bytes fits (inr behind) =
    let l : length (take at bytes) ≡ at = rw length-take (omega (arith, fits)) in
    let e : at + length more + (p - at - length more) ≡ p = omega (arith, behind) in
    rw append_assoc (get_or-append_right (take at bytes) (more ++ drop (at + length more) bytes) at p 0 l (omega (arith, behind))
    ∙ get_or-append_right more (drop (at + length more) bytes) (length more) (p - at) 0 refl (omega (arith, behind))
    ∙ get_or-drop (at + length more) bytes (p - at - length more) 0 ∙ ap (λ (k : ℕ). get_or bytes k 0) e)

-- two places of pixels are three bytes apart
apart : (row x y i j : ℕ) → x * 3 + 3 ≤ row → i * 3 + 3 ≤ row → (i ≡ x → j ≡ y → ⊥) → (j * row + i * 3 + 3 ≤ y * row + x * 3) ⊎ (y * row + x * 3 + 3 ≤ j * row + i * 3)
apart row x y i j here there other = elim (cases_order j y) as (λ _. (j * row + i * 3 + 3 ≤ y * row + x * 3) ⊎ (y * row + x * 3 + 3 ≤ j * row + i * 3)) [
  | inl same ↦ elim (cases_order i x) as (λ _. (j * row + i * 3 + 3 ≤ y * row + x * 3) ⊎ (y * row + x * 3 + 3 ≤ j * row + i * 3)) [
    | inl one ↦ absurd (other one same)
    | inr (inl left) ↦ inl (rw same (omega (arith, left)))
    | inr (inr right) ↦ inr (rw same (omega (arith, right)))
  ]
  | inr (inl above) ↦ inl (let h : (j + 1) * row ≤ y * row = mul-le-mul_right row (omega (arith, above)) in omega (arith, h, here, there))
  | inr (inr below) ↦ inr (let h : (y + 1) * row ≤ j * row = mul-le-mul_right row (omega (arith, below)) in omega (arith, h, here, there))
]

outside : (at p k : ℕ) → k < 3 → (p + 3 ≤ at) ⊎ (at + 3 ≤ p) → (p + k < at) ⊎ (at + 3 ≤ p + k)
outside at p k few (inl before) = inl (omega (arith, few, before))
outside at p k few (inr behind) = inr (omega (arith, behind))

-- another pixel keeps its colour
pub colour_kept : (r : Image) (x y i j : ℕ) (c : Colour) → IsWhole r → x < r.width → y < r.height → i < r.width → j < r.height → (i ≡ x → j ≡ y → ⊥)
    → colour_in (with_bytes (place_of r x y) (bytes_of c) r) i j ≡ colour_in r i j
colour_kept r x y i j c whole across down left top other =
    let h : (y + 1) * (r.width * 3) ≤ r.height * (r.width * 3) = mul-le-mul_right (r.width * 3) (omega (arith, down)) in
    let fits : place_of r x y + 3 ≤ length r.bytes = rw whole (omega (arith, h, across)) in
    let far = apart (r.width * 3) x y i j (omega (arith, across)) (omega (arith, left)) other in
    let at = λ (k : ℕ) (few : k < 3). unwritten (place_of r x y) (place_of r i j + k) (bytes_of c) r.bytes fits (outside (place_of r x y) (place_of r i j) k few far) in
    let zero : place_of r i j + 0 ≡ place_of r i j = omega arith in
    let first = at 0 (omega arith) in let red = rw zero at first in
    λ n. record { r = red n; g = at 1 (omega arith) n; b = at 2 (omega arith) n }
