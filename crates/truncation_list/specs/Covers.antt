-- Which tiles a cover is for, and which blocks it hits.
use Rattle.std.specs.Prelude.{ℕ, max, min, ◌==◌, ◌&&◌, Bool, true, false, nat_le, IsTrue, Option, Some, None, IfSome}
use Rattle.matrix_geometry.specs.declared.address.Address.{Address}
use Rattle.matrix_geometry.specs.declared.boxes.Box9.{Box9}
use Rattle.matrix_geometry.specs.declared.boxes.Range.{Range}
use Rattle.matrix_geometry.specs.declared.matrix.Matrix.{Matrix}
use Rattle.matrix_geometry.specs.Admits.{admits}
use Rattle.matrix_geometry.specs.Geometry.{range_of}
use Rattle.matrix_geometry.specs.Limits.{IsReachable}
use Rattle.matrix_geometry.specs.Ranges.{is_in_range, is_in_some_range}
use Rattle.truncation_list.specs.declared.block.Block.{Block}
use Rattle.truncation_list.specs.declared.cover.Cover.{Cover}

-- each coordinate of its box is at most 10^8 units in size
abbrev pub IsWithinReach : Cover → Type 0
IsWithinReach cover = IfSome cover.bounds IsReachable

-- TILES

abbrev pub is_in_zoom : Cover → ℕ → Bool
is_in_zoom cover z = nat_le cover.z_start z && nat_le z cover.z_stop

-- there is no box, or the tile lies in the range of the box
abbrev pub is_in_bounds : Option Box9 → Matrix → ℕ → ℕ → Bool
is_in_bounds None m row col = true
is_in_bounds (Some b) m row col = is_in_some_range (range_of m b) row col

-- the cover is for the tile: layer and grid agree, its matrix is in the zoom range, it is in the bounds, and the filter
-- admits its style and values
abbrev pub covers : Cover → Matrix → Address → Bool
covers cover m a =
    (cover.layer == a.theme.layer) && (cover.grid == a.grid) && is_in_zoom cover a.z && is_in_bounds cover.bounds m a.row a.col && admits cover.filter a.theme

-- BLOCKS

abbrev pub tile_of : Block → ℕ → ℕ → Address
tile_of block row col = record { theme = block.theme; grid = block.grid; z = block.z; row = row; col = col }

-- the cover is for some tile of the block
pub record CoversSome (cover : Cover) (m : Matrix) (block : Block) : Type 0 where
  pub row : ℕ
  pub col : ℕ
  pub in_block : IsTrue (is_in_range block.tiles row col)
  pub covered : IsTrue (covers cover m (tile_of block row col))

-- the same without a search, by ranges alone
abbrev pub has_tile : Range → Bool
has_tile tiles = nat_le tiles.row_min tiles.row_max && nat_le tiles.col_min tiles.col_max

-- a tile lies in both
abbrev pub meets : Range → Range → Bool
meets a b =
    has_tile (record { row_min = max a.row_min b.row_min; row_max = min a.row_max b.row_max; col_min = max a.col_min b.col_min; col_max = min a.col_max b.col_max })

abbrev pub meets_some : Option Range → Range → Bool
meets_some None tiles = false
meets_some (Some range) tiles = meets range tiles

abbrev pub meets_bounds : Option Box9 → Matrix → Range → Bool
meets_bounds None m tiles = has_tile tiles
meets_bounds (Some b) m tiles = meets_some (range_of m b) tiles

abbrev pub hits : Cover → Matrix → Block → Bool
hits cover m block =
    (cover.layer == block.theme.layer) && (cover.grid == block.grid) && is_in_zoom cover block.z && meets_bounds cover.bounds m block.tiles && admits cover.filter block.theme
