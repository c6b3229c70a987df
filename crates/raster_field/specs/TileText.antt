-- An encoded tile: a binary PPM image (the Netpbm description of PPM), its part of the picture of a render.
use Rattle.std.specs.Prelude.{ℕ, ◌+◌, ◌*◌, List, [], ◌∷◌, ◌++◌, Option, Some, None}
use Rattle.std.specs.List.{flat_map, range_with_len}
use Rattle.catalog.specs.declared.catalogue.Catalogue.{Catalogue}
use Rattle.catalog.specs.LookUp.{matrix_of}
use Rattle.matrix_geometry.specs.declared.address.Address.{Address}
use Rattle.matrix_geometry.specs.declared.matrix.Matrix.{Matrix}
use Rattle.metatile_plan.specs.Texts.{header}
use Rattle.raster_field.specs.declared.colour.Colour.{Colour}
use Rattle.raster_field.specs.Picture.{Scene, scene_of, colour_at}

abbrev pub bytes_of : Colour → List ℕ
bytes_of c = c.r ∷ c.g ∷ c.b ∷ []

-- so many pixels of a row of the picture, from (x, y) to the right
abbrev pub pixel_row : Scene → ℕ → ℕ → ℕ → List ℕ
pixel_row s x y width = flat_map (λ i. bytes_of (colour_at s (x + i) y)) (range_with_len 0 width)

-- the pixels of a tile, by rows from the top
abbrev pub tile_pixels : Scene → ℕ → ℕ → List ℕ
tile_pixels s row col =
    flat_map (λ j. pixel_row s (col * s.matrix.tile_w) (row * s.matrix.tile_h + j) s.matrix.tile_w) (range_with_len 0 s.matrix.tile_h)

-- the pixels of a tile in a scene, if the catalogue has that scene
abbrev pub pixels_in : Option Scene → ℕ → ℕ → List ℕ
pixels_in None row col = []
pixels_in (Some s) row col = tile_pixels s row col

abbrev pub text_in : Option Scene → ℕ → ℕ → List ℕ
text_in None row col = []
text_in (Some s) row col = header s.matrix ++ tile_pixels s row col

-- the pixels of a tile in the picture of a source and a render
abbrev pub pixels : Catalogue → ℕ → ℕ → Address → List ℕ
pixels c source number a = pixels_in (scene_of c source number a.theme a.grid a.z) a.row a.col

-- an encoded tile of the catalogue in the picture of a render
abbrev pub tile_text : Catalogue → ℕ → Address → List ℕ
tile_text c number a = text_in (scene_of c c.source number a.theme a.grid a.z) a.row a.col

-- how many bytes the pixels of a tile take
abbrev pub pixel_bytes_in : Option Matrix → ℕ
pixel_bytes_in None = 0
pixel_bytes_in (Some m) = 3 * m.tile_w * m.tile_h

abbrev pub pixel_bytes : Catalogue → Address → ℕ
pixel_bytes c a = pixel_bytes_in (matrix_of c a)
