-- Encoded tiles in a blob: binary PPM images (the Netpbm description of PPM), the tiles of a block row by row.
use Rattle.std.specs.Prelude.{ℕ, ◌+◌, ◌-◌, ◌*◌, List, ◌++◌, length, codes, decimal}
use Rattle.matrix_geometry.specs.declared.boxes.Range.{Range}
use Rattle.matrix_geometry.specs.declared.matrix.Matrix.{Matrix}
use Rattle.metatile_plan.specs.declared.metatile.Factors.{Factors}
use Rattle.metatile_plan.specs.declared.metatile.MetaKey.{MetaKey}
use Rattle.metatile_plan.specs.declared.span.Span.{Span}
use Rattle.metatile_plan.specs.Plan.{tiles_of}

-- what stands before the pixels of a tile
abbrev pub header : Matrix → List ℕ
header m = codes "P6\n" ++ decimal m.tile_w ++ codes " " ++ decimal m.tile_h ++ codes "\n255\n"

-- the bytes of one encoded tile
abbrev pub tile_len : Matrix → ℕ
tile_len m = length (header m) + 3 * m.tile_w * m.tile_h

-- how many tiles a range has in a row, and how many rows
abbrev pub across : Range → ℕ
across r = r.col_max + 1 - r.col_min

abbrev pub down : Range → ℕ
down r = r.row_max + 1 - r.row_min

-- the bytes of a blob
abbrev pub blob_len : Factors → Matrix → MetaKey → ℕ
blob_len f m k = across (tiles_of f m k) * down (tiles_of f m k) * tile_len m

-- how many tiles of a range stand before this one, row by row
abbrev pub place_in : Range → ℕ → ℕ → ℕ
place_in r row col = (row - r.row_min) * across r + (col - r.col_min)

-- where an encoded tile stands in the blob of its metatile
abbrev pub span_of : Factors → Matrix → MetaKey → ℕ → ℕ → Span
span_of f m k row col = record { start = place_in (tiles_of f m k) row col * tile_len m; length = tile_len m }
