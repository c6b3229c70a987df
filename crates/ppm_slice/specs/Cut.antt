-- The tiles that are cut out of a raster of a metatile's window, with the gutter left over.
use Rattle.std.specs.Prelude.{ℕ, ◌+◌, ◌-◌, ◌*◌, List, ◌++◌}
use Rattle.std.specs.List.{flat_map, range_with_len}
use Rattle.matrix_geometry.specs.declared.boxes.Range.{Range}
use Rattle.matrix_geometry.specs.declared.matrix.Matrix.{Matrix}
use Rattle.metatile_plan.specs.declared.metatile.Factors.{Factors}
use Rattle.metatile_plan.specs.declared.metatile.MetaKey.{MetaKey}
use Rattle.metatile_plan.specs.declared.windows.Window.{Window}
use Rattle.metatile_plan.specs.Plan.{tiles_of, window_of}
use Rattle.metatile_plan.specs.Texts.{across, down, header}
use Rattle.raster_field.specs.Rasters.{Image, part_of_row}

-- the pixels of a part of a raster, by rows
abbrev pub cut_pixels : Image → ℕ → ℕ → ℕ → ℕ → List ℕ
cut_pixels r x y width height = flat_map (λ j. part_of_row r x (y + j) width) (range_with_len 0 height)

-- an encoded tile: its pixels stand in the raster where they stand in the matrix, counted from the window's corner
abbrev pub cut_text : Matrix → Window → Image → ℕ → ℕ → List ℕ
cut_text m w r row col = header m ++ cut_pixels r (col * m.tile_w - w.x) (row * m.tile_h - w.y) m.tile_w m.tile_h

-- some encoded tiles in a row, from the left
abbrev pub cut_row : Matrix → Window → Image → ℕ → ℕ → ℕ → List ℕ
cut_row m w r row first count = flat_map (λ col. cut_text m w r row col) (range_with_len first count)

-- the encoded tiles in the first rows of a range, row by row
abbrev pub cut_rows : Matrix → Window → Range → Image → ℕ → List ℕ
cut_rows m w t r count = flat_map (λ row. cut_row m w r row t.col_min (across t)) (range_with_len t.row_min count)

-- the encoded tiles of a metatile, row by row
abbrev pub cut_block : Factors → Matrix → MetaKey → Image → List ℕ
cut_block f m k r = cut_rows m (window_of f m k) (tiles_of f m k) r (down (tiles_of f m k))
