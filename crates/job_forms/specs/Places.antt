-- The places of a job. Those of a seed or a reseed are the metatiles of which its cover covers a tile, in the order of style,
-- values, matrix, row and column; a truncation has one place, its cut.
use Rattle.std.specs.Prelude.{ℕ, ◌+◌, ◌-◌, ◌/◌, List, [], ◌∷◌, map, Option, Some, None, option_and_then, option_map, slice_get}
use Rattle.std.specs.List.{flat_map, range_with_len}
use Rattle.std.specs.Option.{option_map_or}
use Rattle.catalog.specs.declared.catalogue.Catalogue.{Catalogue}
use Rattle.catalog.specs.LookUp.{matrix_in}
use Rattle.matrix_geometry.specs.declared.boxes.Box9.{Box9}
use Rattle.matrix_geometry.specs.declared.boxes.Range.{Range}
use Rattle.matrix_geometry.specs.declared.matrix.Matrix.{Matrix}
use Rattle.matrix_geometry.specs.declared.theme.Theme.{Theme}
use Rattle.matrix_geometry.specs.Geometry.{range_of}
use Rattle.metatile_plan.specs.declared.metatile.Factors.{Factors}
use Rattle.metatile_plan.specs.declared.metatile.MetaKey.{MetaKey}
use Rattle.raster_field.specs.Blocks.{factors_of}
use Rattle.truncation_list.specs.declared.cover.Cover.{Cover}
use Rattle.job_forms.specs.declared.job.Job.{Job}
use Rattle.job_forms.specs.declared.job.JobKind.{JobKind}
use Rattle.job_forms.specs.declared.job.JobKind.TheVariants.{Seed, Reseed, Truncate}
use Rattle.job_forms.specs.Themes.{themes}

-- from the first number to the last, none where the first is above the last
abbrev pub from_to : ℕ → ℕ → List ℕ
from_to first last = range_with_len first (last + 1 - first)

-- ON ONE MATRIX

abbrev pub whole : Matrix → Range
whole m = record { row_min = 0; row_max = m.rows - 1; col_min = 0; col_max = m.cols - 1 }

-- the tiles of a matrix that lie in the bounds, if any do: all where there is no box
abbrev pub tiles_within : Option Box9 → Matrix → Option Range
tiles_within None m = Some (whole m)
tiles_within (Some b) m = range_of m b

-- the rows and columns of the metatiles that hold the tiles of a range
abbrev pub gathered : Factors → Range → Range
gathered f r = record { row_min = r.row_min / f.y; row_max = r.row_max / f.y; col_min = r.col_min / f.x; col_max = r.col_max / f.x }

-- how the tiles of the cover's layer are gathered
abbrev pub factors_for : Catalogue → Cover → Factors
factors_for c cover = option_map_or factors_of (slice_get c.layers cover.layer) (record { x = 1; y = 1; gutter = 0 })

-- the rows and columns of the metatiles on the cover's matrix of this number
unfoldable pub metas_at : Catalogue → Cover → ℕ → Option Range
metas_at c cover z = option_and_then (λ m. option_map (gathered (factors_for c cover)) (tiles_within cover.bounds m)) (matrix_in c cover.grid z)

-- the metatiles of these rows and columns, row by row
abbrev pub metas_in_row : Theme → ℕ → ℕ → Range → ℕ → List MetaKey
metas_in_row theme grid z r row = map (λ col. record { theme = theme; grid = grid; z = z; row = row; col = col }) (from_to r.col_min r.col_max)

unfoldable pub metas_in : Theme → ℕ → ℕ → Range → List MetaKey
metas_in theme grid z r = flat_map (metas_in_row theme grid z r) (from_to r.row_min r.row_max)

-- none where there are no rows and columns
abbrev pub metas_in_some : Theme → ℕ → ℕ → Option Range → List MetaKey
metas_in_some theme grid z None = []
metas_in_some theme grid z (Some r) = metas_in theme grid z r

abbrev pub metas_on : Catalogue → Cover → Theme → ℕ → List MetaKey
metas_on c cover theme z = metas_in_some theme cover.grid z (metas_at c cover z)

-- ON ALL MATRICES

-- those of one theme
abbrev pub metas_of : Catalogue → Cover → Theme → List MetaKey
metas_of c cover theme = flat_map (metas_on c cover theme) (from_to cover.z_start cover.z_stop)

-- the metatiles of which the cover covers a tile
unfoldable pub metatiles : Catalogue → Cover → List MetaKey
metatiles c cover = flat_map (metas_of c cover) (themes c cover)

-- PLACES

-- a metatile that is refreshed, or all that a cover is for, cut at once
pub data Place : Type 0 where
  Metatile : MetaKey → Place
  Cut : Cover → Place

abbrev pub places_of : Catalogue → JobKind → Cover → List Place
places_of c Seed cover = map Metatile (metatiles c cover)
places_of c Reseed cover = map Metatile (metatiles c cover)
places_of c Truncate cover = Cut cover ∷ []

abbrev pub places : Catalogue → Job → List Place
places c job = places_of c job.kind job.cover
