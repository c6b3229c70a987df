-- How a body comes into a raster.
use Rattle.std.specs.Prelude.{◌≡◌, List, ℕ, Option, Some, None, ⊤}
use Rattle.ppm_reading.specs.Form.{IsPixmap}
use Rattle.raster_field.specs.Rasters.{Image}

-- the raster has the pixels of the pixmap of its size that the body is
pub record IsPainted (old : Image) (body : List ℕ) (new : Image) : Type 0 where
  pub width : new.width ≡ old.width
  pub height : new.height ≡ old.height
  pub pixels : IsPixmap old.width old.height body new.bytes

-- exactly where the body is such a pixmap; else the raster stays
abbrev pub Paints : Image → List ℕ → Image → Option ⊤ → Type 0
Paints old body new (Some done) = IsPainted old body new
Paints old body new None = (new ≡ old) × ((pixels : List ℕ) → ¬ IsPixmap old.width old.height body pixels)
