-- Metatiles in the terms of a catalogue: which one holds a tile, and what its blob is.
use Rattle.std.specs.Prelude.{ℕ, ◌*◌, List, [], take, drop, IsSome, IsSomeAnd, Contains}
use Rattle.std.specs.List.{flat_map, range_with_len}
use Rattle.std.specs.Option.{option_map_or}
use Rattle.catalog.specs.declared.catalogue.Catalogue.{Catalogue}
use Rattle.catalog.specs.declared.layer.Layer.{Layer}
use Rattle.catalog.specs.LookUp.{HasValues, layer_of, style_of, matrix_in}
use Rattle.matrix_geometry.specs.declared.address.Address.{Address}
use Rattle.matrix_geometry.specs.declared.matrix.Matrix.{Matrix}
use Rattle.matrix_geometry.specs.declared.theme.Theme.{Theme}
use Rattle.metatile_plan.specs.declared.metatile.Factors.{Factors}
use Rattle.metatile_plan.specs.declared.metatile.MetaKey.{MetaKey}
use Rattle.metatile_plan.specs.declared.span.Span.{Span}
use Rattle.metatile_plan.specs.Plan.{meta_of, tiles_of, IsMetaIn}
use Rattle.metatile_plan.specs.Texts.{across, down, blob_len, span_of}
use Rattle.raster_field.specs.TileText.{tile_text}

-- WHICH METATILE

-- how the tiles of a layer are gathered
abbrev pub factors_of : Layer → Factors
factors_of l = record { x = l.meta_x; y = l.meta_y; gutter = l.gutter }

-- how those of a theme are; a theme without a layer counts as one of single tiles
abbrev pub factors_at : Catalogue → Theme → Factors
factors_at c t = option_map_or factors_of (layer_of c t) (record { x = 1; y = 1; gutter = 0 })

-- the metatile that holds a tile
abbrev pub block_of : Catalogue → Address → MetaKey
block_of c a = meta_of (factors_at c a.theme) a

-- the metatile is one of the catalogue: some tile of it is
pub record IsMeta (c : Catalogue) (m : MetaKey) : Type 0 where
  pub layer : IsSomeAnd (layer_of c m.theme) (λ l. Contains l.grids m.grid)
  pub style : IsSome (style_of c m.theme)
  pub values : HasValues c m.theme
  pub place : IsSomeAnd (matrix_in c m.grid m.z) (λ x. IsMetaIn (factors_at c m.theme) x m)

-- ITS BLOB

-- the bytes of a blob of the metatile
abbrev pub blob_size : Catalogue → MetaKey → ℕ
blob_size c m = option_map_or (λ x. blob_len (factors_at c m.theme) x m) (matrix_in c m.grid m.z) 0

abbrev pub tile_in : MetaKey → ℕ → ℕ → Address
tile_in m row col = record { theme = m.theme; grid = m.grid; z = m.z; row = row; col = col }

-- the first tile of a metatile: the one at the upper left of its block
abbrev pub first_tile : Catalogue → MetaKey → Address
first_tile c m = tile_in m (m.row * (factors_at c m.theme).y) (m.col * (factors_at c m.theme).x)

-- the encoded tiles in one row of a block, from the left
abbrev pub row_text : Catalogue → ℕ → MetaKey → ℕ → ℕ → ℕ → List ℕ
row_text c k m row first count = flat_map (λ col. tile_text c k (tile_in m row col)) (range_with_len first count)

-- the encoded tiles of a block on this matrix, row by row
abbrev pub text_on : Catalogue → ℕ → MetaKey → Factors → Matrix → List ℕ
text_on c k m f x = flat_map (λ row. row_text c k m row (tiles_of f x m).col_min (across (tiles_of f x m))) (range_with_len (tiles_of f x m).row_min (down (tiles_of f x m)))

-- the blob of a metatile in the picture of the render k
abbrev pub block_text : Catalogue → ℕ → MetaKey → List ℕ
block_text c k m = option_map_or (λ x. text_on c k m (factors_at c m.theme) x) (matrix_in c m.grid m.z) []

-- A PART

abbrev pub part_of : Span → List ℕ → List ℕ
part_of span blob = take span.length (drop span.start blob)

-- an encoded tile in a blob of its metatile
abbrev pub tile_part : Catalogue → Address → List ℕ → List ℕ
tile_part c a blob = option_map_or (λ x. part_of (span_of (factors_at c a.theme) x (block_of c a) a.row a.col) blob) (matrix_in c a.grid a.z) []
