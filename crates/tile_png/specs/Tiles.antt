-- The PNG spelling of the tiles of a catalogue.
use Rattle.std.specs.Prelude.{ℕ, ◌≡◌, Some}
use Rattle.catalog.specs.declared.catalogue.Catalogue.{Catalogue}
use Rattle.catalog.specs.LookUp.{matrix_of}
use Rattle.matrix_geometry.specs.declared.address.Address.{Address}
use Rattle.matrix_geometry.specs.declared.matrix.Matrix.{Matrix}
use Rattle.png_text.specs.Picture.{png_of}
use Rattle.raster_field.specs.TileText.{pixels, tile_text}
use Rattle.tile_png.specs.Reading.{png_of_tile}

-- the text of the tile in the picture of this render is spelt with the tile's width, height and pixels
pub record IsSpeltTile (c : Catalogue) (number : ℕ) (a : Address) : Type 0 where
  pub matrix : Matrix
  pub its : matrix_of c a ≡ Some matrix
  pub spelt : png_of_tile (tile_text c number a) ≡ Some (png_of matrix.tile_w matrix.tile_h (pixels c c.source number a))
