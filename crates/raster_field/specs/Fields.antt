-- The value of a pixel in the picture of a source and a render.
use Rattle.std.specs.Prelude.{ℕ, ◌<◌, ◌*◌, Option, Some, None, IsSomeAnd}
use Rattle.catalog.specs.declared.catalogue.Catalogue.{Catalogue}
use Rattle.catalog.specs.LookUp.{matrix_in}
use Rattle.metatile_plan.specs.declared.metatile.MetaKey.{MetaKey}
use Rattle.raster_field.specs.Picture.{Scene, scene_of, value_at}

-- the pixel lies in the matrix of the metatile
abbrev pub IsPixel : Catalogue → MetaKey → ℕ → ℕ → Type 0
IsPixel c k x y = IsSomeAnd (matrix_in c k.grid k.z) (λ m. (x < m.cols * m.tile_w) × (y < m.rows * m.tile_h))

abbrev pub value_in : Option Scene → ℕ → ℕ → ℕ
value_in None x y = 0
value_in (Some s) x y = value_at s x y

abbrev pub field_value : Catalogue → ℕ → ℕ → MetaKey → ℕ → ℕ → ℕ
field_value c source number k x y = value_in (scene_of c source number k.theme k.grid k.z) x y
