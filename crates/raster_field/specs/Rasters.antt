-- What a raster shows, and the picture on a window.
use Rattle.std.specs.Prelude.{ℕ, ◌≡◌, ◌+◌, ◌*◌, ◌≤◌, List, ◌++◌, length, take, drop, get_or, replicate, Option, Some, None, IsSomeAnd}
use Rattle.std.specs.List.{flat_map, range_with_len}
use Rattle.std.specs.Option.{option_map_or}
use Rattle.catalog.specs.declared.catalogue.Catalogue.{Catalogue}
use Rattle.catalog.specs.LookUp.{matrix_in}
use Rattle.metatile_plan.specs.declared.metatile.MetaKey.{MetaKey}
use Rattle.metatile_plan.specs.declared.windows.Window.{Window}
use Rattle.metatile_plan.specs.Plan.{window_of}
use Rattle.raster_field.specs.declared.colour.Colour.{Colour}
use Rattle.raster_field.specs.Blocks.{factors_at}
use Rattle.raster_field.specs.Picture.{Scene, scene_of}
use Rattle.raster_field.specs.TileText.{pixel_row}

-- RASTERS

-- other bytes in place of those from a place on
abbrev pub spliced : ℕ → List ℕ → List ℕ → List ℕ
spliced at with bytes = take at bytes ++ with ++ drop (at + length with) bytes

-- so many columns and rows of pixels: three bytes each, by rows from the top
pub record Image : Type 0 where
  pub width : ℕ
  pub height : ℕ
  pub bytes : List ℕ

-- each pixel has its bytes
abbrev pub IsWhole : Image → Type 0
IsWhole r = length r.bytes ≡ r.height * (r.width * 3)

-- black all over
abbrev pub blank : Window → Image
blank w = record { width = w.width; height = w.height; bytes = replicate (w.height * (w.width * 3)) 0 }

-- where the bytes of a pixel begin
abbrev pub place_of : Image → ℕ → ℕ → ℕ
place_of r x y = y * (r.width * 3) + x * 3

-- the colour of a pixel
abbrev pub colour_in : Image → ℕ → ℕ → Colour
colour_in r x y = record { r = get_or r.bytes (place_of r x y) 0; g = get_or r.bytes (place_of r x y + 1) 0; b = get_or r.bytes (place_of r x y + 2) 0 }

-- the bytes of so many pixels of a row, from (x, y) to the right
abbrev pub part_of_row : Image → ℕ → ℕ → ℕ → List ℕ
part_of_row r x y count = take (count * 3) (drop (place_of r x y) r.bytes)

abbrev pub with_bytes : ℕ → List ℕ → Image → Image
with_bytes at bytes r = record { width = r.width; height = r.height; bytes = spliced at bytes r.bytes }

-- with another row
abbrev pub with_row : ℕ → List ℕ → Image → Image
with_row y row r = with_bytes (place_of r 0 y) row r

-- WINDOWS OF A PICTURE

-- the window of a metatile of the catalogue; where the catalogue hasn't its matrix, one of no pixels
abbrev pub window_in : Catalogue → MetaKey → Window
window_in c k = option_map_or (λ m. window_of (factors_at c k.theme) m k) (matrix_in c k.grid k.z) (record { meta = k; x = 0; y = 0; width = 0; height = 0 })

-- a window of the metatile, within its matrix
pub record IsWindowOf (c : Catalogue) (k : MetaKey) (w : Window) : Type 0 where
  pub meta : w.meta ≡ k
  pub within : IsSomeAnd (matrix_in c k.grid k.z) (λ m. (w.x + w.width ≤ m.cols * m.tile_w) × (w.y + w.height ≤ m.rows * m.tile_h))

-- the raster has the window's size
pub record HasSize (r : Image) (w : Window) : Type 0 where
  pub width : r.width ≡ w.width
  pub height : r.height ≡ w.height

-- the pixels of a scene on a window, by rows from the top
abbrev pub window_pixels : Scene → Window → List ℕ
window_pixels s w = flat_map (λ j. pixel_row s w.x (w.y + j) w.width) (range_with_len 0 w.height)

abbrev pub picture_in : Option Scene → Window → Image
picture_in None w = blank w
picture_in (Some s) w = record { width = w.width; height = w.height; bytes = window_pixels s w }

-- the picture of a source and a render, on a window of a metatile of the catalogue
abbrev pub picture_on : Catalogue → ℕ → ℕ → Window → Image
picture_on c source number w = picture_in (scene_of c source number w.meta.theme w.meta.grid w.meta.z) w
