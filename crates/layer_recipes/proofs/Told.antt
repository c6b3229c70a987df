-- Encoded tiles of pictures show what the pictures do.
use Rattle.std.proofs.Common.{◌≡◌, ℕ, zero, suc, ◌+◌, ◌*◌, ◌-◌, ◌≤◌, ◌<◌, List, [], ◌∷◌, ◌++◌, length, map, get_or, Option, Some, None, refl, sym, ap, subst, ◌∙◌, arith}
use Rattle.std.specs.Prelude.{IfSome, if◌then◌else◌, option_and_then}
use Rattle.std.specs.List.{flat_map, range_with_len}
use Rattle.std.specs.Option.{option_map_or}
use Rattle.std.proofs.lemmas.List.{get_or-append_right, get_or_past}
use Rattle.catalog.specs.declared.catalogue.Catalogue.{Catalogue}
use Rattle.catalog.specs.declared.layer.Layer.{Layer}
use Rattle.catalog.specs.declared.layer.Style.{Style}
use Rattle.catalog.specs.LookUp.{layer_of, matrix_in, style_of}
use Rattle.matrix_geometry.specs.declared.matrix.Matrix.{Matrix}
use Rattle.matrix_geometry.specs.declared.theme.Theme.{Theme}
use Rattle.metatile_plan.specs.declared.windows.Window.{Window}
use Rattle.metatile_plan.specs.Texts.{header}
use Rattle.raster_field.specs.declared.colour.Colour.{Colour}
use Rattle.raster_field.specs.Picture.{Scene, scene_of}
use Rattle.raster_field.specs.Rasters.{picture_in, place_of}
use Rattle.raster_field.specs.TileText.{bytes_of, text_in, tile_pixels, tile_text}
use Rattle.raster_field.proofs.Windows.{window_colour}
use Rattle.layer_recipes.specs.declared.place.TilePlace.{TilePlace}
use Rattle.layer_recipes.specs.declared.recipe.Part.{Part}
use Rattle.layer_recipes.specs.Composite.{black, colour_on, composite, is_same, laid_over, pictured, pictures, pixel_at, pixel_in, seen_through, shown, text_of, told_parts}
use Rattle.layer_recipes.specs.OfCatalogue.{tile_at}

-- ---- one tile

-- its window on the picture
abbrev window : Scene → ℕ → ℕ → Window
window s row col = record { meta = record { theme = s.theme; grid = 0; z = 0; row = 0; col = 0 }; x = col * s.matrix.tile_w; y = row * s.matrix.tile_h; width = s.matrix.tile_w; height = s.matrix.tile_h }

byte_of_text : (s : Scene) (row col x y k : ℕ) → get_or (text_in (Some s) row col) (pixel_at s.matrix x y + k) 0 ≡ get_or (tile_pixels s row col) (place_of (picture_in (Some s) (window s row col)) x y + k) 0
byte_of_text s row col x y k =
    let h = header s.matrix in
    let place : 3 * (y * s.matrix.tile_w + x) ≡ y * (s.matrix.tile_w * 3) + x * 3 = grind arith in
    let e : length h + 3 * (y * s.matrix.tile_w + x) + k - length h ≡ y * (s.matrix.tile_w * 3) + x * 3 + k = omega (arith, place) in
    get_or-append_right h (tile_pixels s row col) (length h) (length h + 3 * (y * s.matrix.tile_w + x) + k) 0 refl (omega arith) ∙ ap (λ (i : ℕ). get_or (tile_pixels s row col) i 0) e

text_shows : (s : Scene) (row col x y : ℕ) → x < s.matrix.tile_w → y < s.matrix.tile_h → pixel_in (text_in (Some s) row col) (pixel_at s.matrix x y) ≡ colour_on (Some s) row col x y
text_shows s row col x y left up =
    let at = place_of (picture_in (Some s) (window s row col)) x y in
    let p = pixel_at s.matrix x y in
    let zero : p + 0 ≡ p = omega arith in let nothing : at + 0 ≡ at = omega arith in
    let first = byte_of_text s row col x y 0 in let red = rw (zero, nothing) at first in
    let green = byte_of_text s row col x y 1 in let blue = byte_of_text s row col x y 2 in
    let same : pixel_in (text_in (Some s) row col) p ≡ pixel_in (tile_pixels s row col) at = λ i. record { r = red i; g = green i; b = blue i } in
    same ∙ window_colour s (window s row col) x y left up

no_text : (at : ℕ) → pixel_in [] at ≡ black
no_text at =
    let red = get_or_past [] at 0 (omega arith) in let green = get_or_past [] (at + 1) 0 (omega arith) in let blue = get_or_past [] (at + 2) 0 (omega arith) in
    λ i. record { r = red i; g = green i; b = blue i }

shows : (m : Matrix) (o : Option Scene) (row col x y : ℕ) → IfSome o (λ s. s.matrix ≡ m) → x < m.tile_w → y < m.tile_h → pixel_in (text_in o row col) (pixel_at m x y) ≡ colour_on o row col x y
shows m None row col x y is left up = no_text (pixel_at m x y)
shows m (Some s) row col x y is left up =
    subst (λ (m : Matrix). x < m.tile_w → y < m.tile_h → pixel_in (text_in (Some s) row col) (pixel_at m x y) ≡ colour_on (Some s) row col x y) is (text_shows s row col x y) left up

-- the scene of a tile is on its matrix
on_matrix : (source number : ℕ) (theme : Theme) (m : Matrix) (l : Option Layer) (s : Option Style)
    → IfSome (option_and_then (λ l. option_and_then (λ s. (let scene : Scene = record { source = source; number = number; theme = theme; matrix = m; layer = l; style = s } in Some scene)) s) l) (λ s. s.matrix ≡ m)
on_matrix source number theme m None s = tt
on_matrix source number theme m (Some l) None = tt
on_matrix source number theme m (Some l) (Some s) = refl

its_matrix : (c : Catalogue) (source number : ℕ) (theme : Theme) (grid z : ℕ) (m : Matrix) → matrix_in c grid z ≡ Some m → IfSome (scene_of c source number theme grid z) (λ s. s.matrix ≡ m)
its_matrix c source number theme grid z m is =
    subst (λ (o : Option Matrix). IfSome (option_and_then (λ m. option_and_then (λ l. option_and_then (λ s. (let scene : Scene = record { source = source; number = number; theme = theme; matrix = m; layer = l; style = s } in Some scene)) (style_of c theme)) (layer_of c theme)) o) (λ s. s.matrix ≡ m))
    (sym is) (on_matrix source number theme m (layer_of c theme) (style_of c theme))

part_shows : (c : Catalogue) (place : TilePlace) (m : Matrix) (p : Part) (number x y : ℕ) → matrix_in c place.grid place.z ≡ Some m → x < m.tile_w → y < m.tile_h
    → pixel_in (tile_text c number (tile_at place p)) (pixel_at m x y) ≡ (pictured c (tile_at place p) number p.key).colour x y
part_shows c place m p number x y is left up =
    shows m (scene_of c c.source number p.theme place.grid place.z) place.row place.col x y (its_matrix c c.source number p.theme place.grid place.z m is) left up

-- ---- all of them

below_same : (key a b s t : Colour) → a ≡ b → s ≡ t → (if is_same a key then s else a) ≡ (if is_same b key then t else b)
below_same key a b s t e d = ap (λ (c : Colour). if is_same c key then s else c) e ∙ ap (λ (u : Colour). if is_same b key then u else b) d

all_show : (c : Catalogue) (place : TilePlace) (m : Matrix) (ps : List Part) (ks : List ℕ) (x y : ℕ) → matrix_in c place.grid place.z ≡ Some m → x < m.tile_w → y < m.tile_h
    → seen_through (map (shown m) (told_parts c place ps ks)) x y ≡ seen_through (pictures c place ps ks) x y
all_show c place m [] ks x y is left up = refl
all_show c place m (p ∷ ps) [] x y is left up = refl
all_show c place m (p ∷ []) (k ∷ ks) x y is left up = part_shows c place m p k x y is left up
all_show c place m (p ∷ q ∷ ps) (k ∷ []) x y is left up = part_shows c place m p k x y is left up
all_show c place m (p ∷ q ∷ ps) (k ∷ l ∷ ks) x y is left up =
    below_same p.key (pixel_in (tile_text c k (tile_at place p)) (pixel_at m x y)) ((pictured c (tile_at place p) k p.key).colour x y)
    (seen_through (map (shown m) (told_parts c place (q ∷ ps) (l ∷ ks))) x y) (seen_through (pictures c place (q ∷ ps) (l ∷ ks)) x y)
    (part_shows c place m p k x y is left up) (all_show c place m (q ∷ ps) (l ∷ ks) x y is left up)

same_within : {A : Type 0} (f g : ℕ → List A) (a n : ℕ) → ((i : ℕ) → a ≤ i → i < a + n → f i ≡ g i) → flat_map f (range_with_len a n) ≡ flat_map g (range_with_len a n)
same_within f g a zero same = refl
same_within f g a (suc n) same =
    let here = same a (omega arith) (omega arith) in
    let rest = same_within f g (a + 1) n (λ i least most. same i (omega (arith, least)) (omega (arith, most))) in
    rw (here, rest) refl

text_same : (m : Matrix) (f g : ℕ → ℕ → Colour) → ((x y : ℕ) → x < m.tile_w → y < m.tile_h → f x y ≡ g x y) → text_of m f ≡ text_of m g
text_same m f g same =
    ap (λ (ps : List ℕ). header m ++ ps)
    (same_within (λ j. flat_map (λ i. bytes_of (f i j)) (range_with_len 0 m.tile_w)) (λ j. flat_map (λ i. bytes_of (g i j)) (range_with_len 0 m.tile_w)) 0 m.tile_h (λ j first last.
    (let up : j < m.tile_h = omega (arith, last) in
    same_within (λ i. bytes_of (f i j)) (λ i. bytes_of (g i j)) 0 m.tile_w (λ i least most.
    (let left : i < m.tile_w = omega (arith, most) in ap (λ (c : Colour). bytes_of c) (same i j left up))))))

pub told_composite : (c : Catalogue) (place : TilePlace) (m : Matrix) (parts : List Part) (numbers : List ℕ) → matrix_in c place.grid place.z ≡ Some m → laid_over m (told_parts c place parts numbers) ≡ composite c place parts numbers
told_composite c place m parts numbers is =
    text_same m (seen_through (map (shown m) (told_parts c place parts numbers))) (seen_through (pictures c place parts numbers)) (λ x y left up. all_show c place m parts numbers x y is left up)
    ∙ sym (ap (λ (o : Option Matrix). option_map_or (λ m. text_of m (seen_through (pictures c place parts numbers))) o []) is)
