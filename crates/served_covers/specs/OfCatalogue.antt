-- Which covers are of a catalogue.
use Rattle.std.specs.Prelude.{ℕ, ◌≡◌, ◌<◌, length, Option, Some, IfSome, IsSome, IsSomeAnd, Contains, slice_get}
use Rattle.catalog.specs.declared.catalogue.Catalogue.{Catalogue}
use Rattle.catalog.specs.LookUp.{dimension_at, matrix_in}
use Rattle.truncation_list.specs.declared.cover.Cover.{Cover}
use Rattle.truncation_list.specs.Covers.{IsWithinReach}

-- The cover is of the catalogue: its grid is one of its layer's, both ends of its zoom range are matrices of that grid, its
-- style is one of the layer's, each of its values stands at a dimension of the layer and is one of the dimension's, and its
-- box is within reach.
pub record IsCoverOf (c : Catalogue) (cover : Cover) : Type 0 where
  pub grid : IsSomeAnd (slice_get c.layers cover.layer) (λ l. Contains l.grids cover.grid)
  pub z_start : IsSome (matrix_in c cover.grid cover.z_start)
  pub z_stop : IsSome (matrix_in c cover.grid cover.z_stop)
  pub style : IfSome cover.filter.style (λ style. IsSomeAnd (slice_get c.layers cover.layer) (λ l. style < length l.styles))
  pub values : (dim value : ℕ) → slice_get cover.filter.dims dim ≡ Some (Some value) → IsSomeAnd (dimension_at c cover.layer dim) (λ d. value < length d.values)
  pub reach : IsWithinReach cover

-- what a filter wants of the layer's dimension at this place is there: any value, or one of the dimension's
pub record HasWanted (c : Catalogue) (layer place : ℕ) (wanted : Option ℕ) : Type 0 where
  pub there : IfSome wanted (λ value. IsSomeAnd (dimension_at c layer place) (λ d. value < length d.values))
