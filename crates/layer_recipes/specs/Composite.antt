-- Tiles that are laid over each other, from the top down.
use Rattle.std.specs.Prelude.{ℕ, ◌+◌, ◌*◌, ◌==◌, ◌&&◌, Bool, if◌then◌else◌, List, [], ◌∷◌, ◌++◌, Option, Some, None, length, map, get_or}
use Rattle.std.specs.List.{flat_map, range_with_len}
use Rattle.std.specs.Option.{option_map_or}
use Rattle.catalog.specs.declared.catalogue.Catalogue.{Catalogue}
use Rattle.catalog.specs.LookUp.{matrix_in}
use Rattle.matrix_geometry.specs.declared.address.Address.{Address}
use Rattle.matrix_geometry.specs.declared.matrix.Matrix.{Matrix}
use Rattle.metatile_plan.specs.Texts.{header}
use Rattle.raster_field.specs.declared.colour.Colour.{Colour}
use Rattle.raster_field.specs.Picture.{Scene, colour_at, scene_of}
use Rattle.raster_field.specs.TileText.{bytes_of, tile_text}
use Rattle.layer_recipes.specs.declared.place.TilePlace.{TilePlace}
use Rattle.layer_recipes.specs.declared.recipe.Part.{Part}
use Rattle.layer_recipes.specs.OfCatalogue.{tile_at}

-- A PIXEL

-- a part on a tile: the colour of each pixel, and the colour through which the parts below are seen
pub record Layered : Type 0 where
  pub colour : ℕ → ℕ → Colour
  pub key : Colour

abbrev pub is_same : Colour → Colour → Bool
is_same a b = a.r == b.r && a.g == b.g && a.b == b.b

abbrev pub black : Colour
black = record { r = 0; g = 0; b = 0 }

-- The colour at a pixel is that of the first part whose colour there isn't its key; where there is none, that of the last part.
-- So the key of the last part says nothing: its colour is seen either way.
abbrev pub seen_through : List Layered → ℕ → ℕ → Colour
seen_through [] x y = black
seen_through (l ∷ []) x y = l.colour x y
seen_through (l ∷ m ∷ ls) x y = if is_same (l.colour x y) l.key then seen_through (m ∷ ls) x y else l.colour x y

-- THE TEXT

-- the encoded tile with these colours: its header and its pixels, by rows from the top
abbrev pub text_of : Matrix → (ℕ → ℕ → Colour) → List ℕ
text_of m f = header m ++ flat_map (λ j. flat_map (λ i. bytes_of (f i j)) (range_with_len 0 m.tile_w)) (range_with_len 0 m.tile_h)

-- PICTURES

-- the colour of a pixel of the tile at this row and column of a scene
abbrev pub colour_on : Option Scene → ℕ → ℕ → ℕ → ℕ → Colour
colour_on None row col x y = black
colour_on (Some s) row col x y = colour_at s (col * s.matrix.tile_w + x) (row * s.matrix.tile_h + y)

-- a tile in the picture of a render, with a key
abbrev pub pictured : Catalogue → Address → ℕ → Colour → Layered
pictured c a number key = record { colour = colour_on (scene_of c c.source number a.theme a.grid a.z) a.row a.col; key = key }

-- the parts at their numbers
abbrev pub pictures : Catalogue → TilePlace → List Part → List ℕ → List Layered
pictures c place [] numbers = []
pictures c place (p ∷ ps) [] = []
pictures c place (p ∷ ps) (number ∷ numbers) = pictured c (tile_at place p) number p.key ∷ pictures c place ps numbers

-- the composite of parts at their numbers
abbrev pub composite : Catalogue → TilePlace → List Part → List ℕ → List ℕ
composite c place parts numbers = option_map_or (λ m. text_of m (seen_through (pictures c place parts numbers))) (matrix_in c place.grid place.z) []

-- PARTS THAT ARE ENCODED TILES

-- the colour of three bytes of a text; a byte that isn't there is 0
abbrev pub pixel_in : List ℕ → ℕ → Colour
pixel_in text at = record { r = get_or text at 0; g = get_or text (at + 1) 0; b = get_or text (at + 2) 0 }

-- where a pixel begins in an encoded tile
abbrev pub pixel_at : Matrix → ℕ → ℕ → ℕ
pixel_at m x y = length (header m) + 3 * (y * m.tile_w + x)

-- a key with a text, as the text shows the tile
abbrev pub shown : Matrix → Colour × List ℕ → Layered
shown m part = record { colour = λ x y. pixel_in part.1 (pixel_at m x y); key = part.0 }

-- the encoded tile of these parts
abbrev pub laid_over : Matrix → List (Colour × List ℕ) → List ℕ
laid_over m parts = text_of m (seen_through (map (shown m) parts))

-- the encoded tiles of parts at their numbers, with their keys
abbrev pub told_parts : Catalogue → TilePlace → List Part → List ℕ → List (Colour × List ℕ)
told_parts c place [] numbers = []
told_parts c place (p ∷ ps) [] = []
told_parts c place (p ∷ ps) (number ∷ numbers) = (p.key, tile_text c number (tile_at place p)) ∷ told_parts c place ps numbers
