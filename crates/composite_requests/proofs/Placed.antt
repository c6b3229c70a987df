-- A row and a column below the counts of a matrix lie in it.
use Rattle.std.proofs.Common.{ℕ, ◌<◌, Option, Some, None, arith}
use Rattle.std.specs.Prelude.{IsSomeAnd, option_map, unwrap_or}
use Rattle.catalog.specs.declared.catalogue.Catalogue.{Catalogue}
use Rattle.catalog.specs.LookUp.{matrix_in}
use Rattle.matrix_geometry.specs.declared.matrix.Matrix.{Matrix}
use Rattle.layer_recipes.specs.OfCatalogue.{IsPlaceIn}
use Rattle.wmts_kvp.specs.Rows.{cols_of, rows_of}

within : (m : Option Matrix) (row col : ℕ) → row < unwrap_or (option_map (λ m. m.rows) m) 0 → col < unwrap_or (option_map (λ m. m.cols) m) 0 → IsSomeAnd m (λ m. (row < m.rows) × (col < m.cols))
within None row col r c = absurd (omega (arith, r))
within (Some m) row col r c = (r, c)

pub is_place : (c : Catalogue) (grid z row col : ℕ) → row < rows_of c grid z → col < cols_of c grid z → IsPlaceIn c (record { grid = grid; z = z; row = row; col = col })
is_place c grid z row col r s = within (matrix_in c grid z) row col r s
