-- Parts of the picture on a window.
use Rattle.std.proofs.Common.{◌≡◌, ℕ, ◌+◌, ◌*◌, ◌≤◌, ◌<◌, List, [], ◌∷◌, length, take, drop, get_or, refl, sym, ap, ◌∙◌, arith, Some, None}
use Rattle.std.specs.declared.option.Option.{Option}
use Rattle.std.proofs.lemmas.List.{get_or-take, get_or-drop, length-replicate}
use Rattle.metatile_plan.specs.declared.windows.Window.{Window}
use Rattle.raster_field.specs.Picture.{Scene, colour_at}
use Rattle.raster_field.specs.Rasters.{IsWhole, colour_in, part_of_row, picture_in, place_of, window_pixels}
use Rattle.raster_field.specs.TileText.{bytes_of, pixel_row}
use Rattle.raster_field.proofs.Pieces.{piece_part, pieces_from, pieces_length, pieces_part, pieces_same}

pub row_length : (s : Scene) (x y width : ℕ) → length (pixel_row s x y width) ≡ width * 3
row_length s x y width = pieces_length (λ i. bytes_of (colour_at s (x + i) y)) 3 (λ i. refl) 0 width

-- so many pixels of a row
row_part : (s : Scene) (left y x count width : ℕ) → x + count ≤ width → take (count * 3) (drop (x * 3) (pixel_row s left y width)) ≡ pixel_row s (left + x) y count
row_part s left y x count width within =
    let f = λ (i : ℕ). bytes_of (colour_at s (left + i) y) in
    let g = λ (i : ℕ). bytes_of (colour_at s (left + x + i) y) in
    let e : (i : ℕ) → bytes_of (colour_at s (left + (x + i)) y) ≡ g i = λ (i : ℕ). (let d : left + (x + i) ≡ left + x + i = omega arith in ap (λ (n : ℕ). bytes_of (colour_at s n y)) d) in
    let z : 0 + x ≡ x + 0 = omega arith in
    pieces_part f 3 (λ i. refl) 0 x count width within
    ∙ (rw z (pieces_from f x 0 count) ∙ pieces_same (λ (i : ℕ). f (x + i)) g e 0 count)

pub window_part : (s : Scene) (w : Window) (x y count : ℕ) → x + count ≤ w.width → y < w.height → part_of_row (picture_in (Some s) w) x y count ≡ pixel_row s (w.x + x) (w.y + y) count
window_part s w x y count across down =
    piece_part (λ j. pixel_row s w.x (w.y + j) w.width) (w.width * 3) (λ j. row_length s w.x (w.y + j) w.width) 0 y (count * 3) (x * 3) w.height down (omega (arith, across))
    ∙ row_part s w.x (w.y + (0 + y)) x count w.width across ∙ (let e : 0 + y ≡ y = omega arith in rw e refl)

colour_of_part : (bytes : List ℕ) (at r g b : ℕ) → take 3 (drop at bytes) ≡ r ∷ g ∷ b ∷ [] → (get_or bytes at 0 ≡ r) × (get_or bytes (at + 1) 0 ≡ g) × (get_or bytes (at + 2) 0 ≡ b)
colour_of_part bytes at r g b e =
    let read = λ (k : ℕ) (few : k < 3). sym (get_or-drop at bytes k 0) ∙ sym (get_or-take 3 (drop at bytes) k 0 few) ∙ ap (λ (xs : List ℕ). get_or xs k 0) e in
    let z : at + 0 ≡ at = omega arith in
    let first = read 0 (omega arith) in
    (rw z at first, read 1 (omega arith), read 2 (omega arith))

pub window_colour : (s : Scene) (w : Window) (x y : ℕ) → x < w.width → y < w.height → colour_in (picture_in (Some s) w) x y ≡ colour_at s (w.x + x) (w.y + y)
window_colour s w x y across down =
    let c = colour_at s (w.x + x) (w.y + y) in
    let z : w.x + x + 0 ≡ w.x + x = omega arith in
    let one : pixel_row s (w.x + x) (w.y + y) 1 ≡ c.r ∷ c.g ∷ c.b ∷ [] = ap (λ (n : ℕ). bytes_of (colour_at s n (w.y + y))) z in
    let part = colour_of_part (window_pixels s w) (place_of (picture_in (Some s) w) x y) c.r c.g c.b (window_part s w x y 1 (omega (arith, across)) down ∙ one) in
    λ n. record { r = part.0 n; g = part.1 n; b = part.2 n }

pub picture_whole : (scene : Option Scene) (w : Window) → IsWhole (picture_in scene w)
picture_whole None w = length-replicate (w.height * (w.width * 3)) 0
picture_whole (Some s) w = pieces_length (λ j. pixel_row s w.x (w.y + j) w.width) (w.width * 3) (λ j. row_length s w.x (w.y + j) w.width) 0 w.height
