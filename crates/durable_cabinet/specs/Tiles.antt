-- A tile's part of what is kept of its metatile, as it is read.
use Rattle.std.specs.Prelude.{ℕ, ◌≡◌, ◌+◌, Bool, IsTrue, List, length}
use Rattle.cabinet.specs.declared.kept.Kept.{Kept}
use Rattle.catalog.specs.declared.catalogue.Catalogue.{Catalogue}
use Rattle.disk_model.specs.Content.{Content, bytes_at}
use Rattle.matrix_geometry.specs.declared.address.Address.{Address}
use Rattle.raster_field.specs.Blocks.{blob_size, block_of, tile_part}
use Rattle.durable_cabinet.specs.Images.{blobs_start}

-- these bytes are the tile's part of a blob of its metatile's length, which is the one that stands in the region where the disk is modelled
pub record IsTilePartOf (told : Bool) (c : Catalogue) (seen : Content) (a : Address) (t : Kept) (bytes : List ℕ) : Type 0 where
  pub blob : List ℕ
  pub long : length blob ≡ blob_size c (block_of c a)
  pub there : IsTrue told → blob ≡ bytes_at seen (blobs_start c + t.place) t.length
  pub part : bytes ≡ tile_part c a blob
