-- A tile that was named is one of the catalogue's.
use Rattle.std.proofs.Common.{◌≡◌, ℕ, ◌<◌, length, Option, Some, None, sym, subst, arith}
use Rattle.std.specs.List.{slice_get, Contains}
use Rattle.std.specs.Option.{IsSome, IsSomeAnd, option_and_then, option_map, unwrap_or}
use Rattle.catalog.specs.declared.catalogue.Catalogue.{Catalogue}
use Rattle.catalog.specs.declared.layer.Layer.{Layer}
use Rattle.catalog.specs.LookUp.{matrix_in, HasValues, IsTile}
use Rattle.catalog.proofs.Found.{some_within}
use Rattle.matrix_geometry.specs.declared.address.Address.{Address}
use Rattle.matrix_geometry.specs.declared.matrix.Matrix.{Matrix}
use Rattle.wmts_kvp.specs.Rows.{rows_of, cols_of}

style_of_layer : (o : Option Layer) (style : ℕ) → IsSomeAnd o (λ l. style < length l.styles) → IsSome (option_and_then (λ l. slice_get l.styles style) o)
style_of_layer None style there = absurd there
style_of_layer (Some l) style there = some_within l.styles style there

placed : (o : Option Matrix) (row col : ℕ) → row < unwrap_or (option_map (λ m. m.rows) o) 0 → col < unwrap_or (option_map (λ m. m.cols) o) 0 → IsSomeAnd o (λ m. (row < m.rows) × (col < m.cols))
placed None row col above left = absurd (omega arith)
placed (Some m) row col above left = (above, left)

-- the layer, the style, the values, the grid, the row and the column were found
pub is_tile : (c : Catalogue) (a : Address) (layer style rows cols : ℕ) → a.theme.layer ≡ layer → a.theme.style ≡ style → IsSomeAnd (slice_get c.layers layer) (λ l. Contains l.grids a.grid) → IsSomeAnd (slice_get c.layers layer) (λ l. style < length l.styles) → HasValues c a.theme → a.row < rows → rows ≡ rows_of c a.grid a.z → a.col < cols → cols ≡ cols_of c a.grid a.z → IsTile c a
is_tile c a layer style rows cols layer_is style_is served there has above rows_are left cols_are =
    let P : ℕ → Type 0 = λ n. IsSomeAnd (slice_get c.layers n) (λ l. Contains l.grids a.grid) in
    let Q : ℕ → Type 0 = λ n. IsSomeAnd (slice_get c.layers n) (λ l. style < length l.styles) in
    let R : ℕ → Type 0 = λ n. IsSomeAnd (slice_get c.layers a.theme.layer) (λ l. n < length l.styles) in
    let Above : ℕ → Type 0 = λ n. a.row < n in
    let Left : ℕ → Type 0 = λ n. a.col < n in
    record {
      layer = subst P (sym layer_is) served;
      style = style_of_layer (slice_get c.layers a.theme.layer) a.theme.style (subst R (sym style_is) (subst Q (sym layer_is) there));
      values = has;
      place = placed (matrix_in c a.grid a.z) a.row a.col (subst Above rows_are above) (subst Left cols_are left);
    }
