-- The tiles of what a cache keeps, as they stand on its disk.
use Rattle.std.specs.Prelude.{ℕ, ◌+◌, ◌/◌, List, flat_map}
use Rattle.std.specs.Option.{option_map_or}
use Rattle.cabinet.specs.declared.kept.Kept.{Kept}
use Rattle.catalog.specs.declared.catalogue.Catalogue.{Catalogue}
use Rattle.catalog.specs.LookUp.{matrix_in}
use Rattle.metatile_plan.specs.declared.metatile.MetaKey.{MetaKey}
use Rattle.metatile_plan.specs.Texts.{tile_len}
use Rattle.cache_seal.specs.declared.tiles.BlobTiles.{BlobTiles}
use Rattle.cache_seal.specs.declared.tiles.DiskTile.{DiskTile}
use Rattle.cache_seal.specs.Tiles.{tiles_in}

-- the bytes of each encoded tile of a metatile
abbrev pub tile_length : Catalogue → MetaKey → ℕ
tile_length c m = option_map_or tile_len (matrix_in c m.grid m.z) 0

-- the tiles of a kept metatile, on a disk whose blobs begin at a place
abbrev pub blob_tiles : ℕ → Catalogue → Kept → BlobTiles
blob_tiles start c t = record { number = t.number; at = start + t.place; length = tile_length c t.meta; count = t.length / tile_length c t.meta }

-- those of all that is kept
abbrev pub kept_tiles : ℕ → Catalogue → List Kept → List DiskTile
kept_tiles start c kept = flat_map (λ t. tiles_in (blob_tiles start c t)) kept
