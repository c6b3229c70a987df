-- How long encoded tiles are at least.
use Rattle.std.specs.List.{AllByRecursion}
use Rattle.std.specs.Prelude.{ℕ, ◌≤◌, List}
use Rattle.catalog.specs.declared.grid.Grid.{Grid}
use Rattle.matrix_geometry.specs.declared.matrix.Matrix.{Matrix}
use Rattle.metatile_plan.specs.Texts.{tile_len}

-- no tile of these matrices has fewer bytes
abbrev pub AreLongOn : ℕ → List Matrix → Type 0
AreLongOn least matrices = AllByRecursion (λ m. least ≤ tile_len m) matrices

-- nor any tile of these grids
abbrev pub AreLongIn : ℕ → List Grid → Type 0
AreLongIn least grids = AllByRecursion (λ g. AreLongOn least g.matrices) grids
