-- Which metatiles a cover covers a tile of, without going through any list.
use Rattle.std.specs.Prelude.{◌≡◌, Bool, false, IsTrue, length}
use Rattle.std.specs.Option.{option_map_or}
use Rattle.catalog.specs.declared.catalogue.Catalogue.{Catalogue}
use Rattle.catalog.specs.LookUp.{IsTile, matrix_of}
use Rattle.matrix_geometry.specs.declared.address.Address.{Address}
use Rattle.metatile_plan.specs.declared.metatile.MetaKey.{MetaKey}
use Rattle.raster_field.specs.Blocks.{block_of}
use Rattle.truncation_list.specs.declared.cover.Cover.{Cover}
use Rattle.truncation_list.specs.Covers.{covers}

-- the cover covers the tile
abbrev pub covers_in : Catalogue → Cover → Address → Bool
covers_in c cover a = option_map_or (λ m. covers cover m a) (matrix_of c a) false

-- The cover covers a tile of the metatile: one of the catalogue, with a value for each place of the cover's filter.
pub record CoversTileOf (c : Catalogue) (cover : Cover) (k : MetaKey) : Type 0 where
  pub tile : Address
  pub in_catalogue : IsTile c tile
  pub values : length tile.theme.dims ≡ length cover.filter.dims
  pub held : block_of c tile ≡ k
  pub covered : IsTrue (covers_in c cover tile)
