-- The tiles of a blob, as they stand on a disk.
use Rattle.std.specs.Prelude.{ℕ, ◌+◌, ◌*◌, List, map}
use Rattle.std.specs.List.{range_with_len}
use Rattle.cache_seal.specs.declared.tiles.BlobTiles.{BlobTiles}
use Rattle.cache_seal.specs.declared.tiles.DiskTile.{DiskTile}

-- the one at a place among them
abbrev pub nth_tile : BlobTiles → ℕ → DiskTile
nth_tile b place = record { number = b.number; from = place * b.length; at = b.at + place * b.length; length = b.length }

-- so many of them, from the first on
abbrev pub first_tiles : BlobTiles → ℕ → List DiskTile
first_tiles b count = map (nth_tile b) (range_with_len 0 count)

-- all of them
abbrev pub tiles_in : BlobTiles → List DiskTile
tiles_in b = first_tiles b b.count
