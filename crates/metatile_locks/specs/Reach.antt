-- Which metatiles a cover hits, told by the rows and columns of metatiles that it reaches at each zoom.
use Rattle.std.specs.Prelude.{ℕ, ◌≡◌, ◌-◌, ◌/◌, ◌==◌, ◌&&◌, Bool, Option, Some, None, slice_get}
use Rattle.std.specs.Option.{option_map, option_map_or}
use Rattle.catalog.specs.declared.grid.Grid.{Grid}
use Rattle.matrix_geometry.specs.declared.boxes.Box9.{Box9}
use Rattle.matrix_geometry.specs.declared.boxes.Range.{Range}
use Rattle.matrix_geometry.specs.declared.matrix.Matrix.{Matrix}
use Rattle.matrix_geometry.specs.Admits.{admits}
use Rattle.matrix_geometry.specs.Geometry.{range_of}
use Rattle.matrix_geometry.specs.Ranges.{is_in_some_range}
use Rattle.metatile_plan.specs.declared.metatile.Factors.{Factors}
use Rattle.metatile_plan.specs.declared.metatile.MetaKey.{MetaKey}
use Rattle.truncation_list.specs.declared.cover.Cover.{Cover}
use Rattle.truncation_list.specs.Covers.{is_in_zoom}
use Rattle.metatile_locks.specs.declared.aim.Aim.{Aim}

-- all tiles of the matrix
abbrev pub whole : Matrix → Range
whole m = record { row_min = 0; row_max = m.rows - 1; col_min = 0; col_max = m.cols - 1 }

-- the tiles of the matrix that lie in the box; all where there is none
abbrev pub tiles_within : Option Box9 → Matrix → Option Range
tiles_within None m = Some (whole m)
tiles_within (Some b) m = range_of m b

-- the metatiles that hold these tiles
abbrev pub gathered : Factors → Range → Range
gathered f r = record { row_min = r.row_min / f.y; row_max = r.row_max / f.y; col_min = r.col_min / f.x; col_max = r.col_max / f.x }

-- the metatiles that the box of a cover reaches on a matrix
abbrev pub reach : Factors → Matrix → Cover → Option Range
reach f m cover = option_map (gathered f) (tiles_within cover.bounds m)

-- the same on the matrix of this number; none where the grid lacks it
abbrev pub reach_at : Factors → Grid → Cover → ℕ → Option Range
reach_at f grid cover z = option_map_or (λ m. reach f m cover) (slice_get grid.matrices z) None

-- a metatile is hit, where this is what the cover reaches at its zoom
abbrev pub is_reached : Cover → Option Range → MetaKey → Bool
is_reached cover reach k =
    (cover.layer == k.theme.layer) && (cover.grid == k.grid) && is_in_zoom cover k.z && is_in_some_range reach k.row k.col && admits cover.filter k.theme

-- the aim tells what the cover reaches at its zoom
abbrev pub IsAimed : Factors → Grid → Cover → Aim → Type 0
IsAimed f grid cover aim = aim.reach ≡ reach_at f grid cover aim.z
