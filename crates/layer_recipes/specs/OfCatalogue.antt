-- What a recipe is on a catalogue, and where its tiles lie.
use Rattle.std.specs.Prelude.{ℕ, ◌<◌, ◌≤◌, length, Contains, IsSome, IsSomeAnd}
use Rattle.std.specs.List.{AllByRecursion}
use Rattle.catalog.specs.declared.catalogue.Catalogue.{Catalogue}
use Rattle.catalog.specs.LookUp.{HasValues, layer_of, matrix_in, style_of}
use Rattle.matrix_geometry.specs.declared.address.Address.{Address}
use Rattle.layer_recipes.specs.declared.place.TilePlace.{TilePlace}
use Rattle.layer_recipes.specs.declared.recipe.Part.{Part}
use Rattle.layer_recipes.specs.declared.recipe.Recipe.{Recipe}

-- the part's layer serves the grid, and its style and its values are the layer's
pub record IsPartOf (c : Catalogue) (grid : ℕ) (p : Part) : Type 0 where
  pub layer : IsSomeAnd (layer_of c p.theme) (λ l. Contains l.grids grid)
  pub style : IsSome (style_of c p.theme)
  pub values : HasValues c p.theme

-- 1 to 8 parts, each of them on the recipe's grid
pub record IsRecipeOf (c : Catalogue) (r : Recipe) : Type 0 where
  pub some : 1 ≤ length r.parts.items
  pub few : length r.parts.items ≤ 8
  pub each : AllByRecursion (IsPartOf c r.grid) r.parts.items

-- the place lies in the matrix
abbrev pub IsPlaceIn : Catalogue → TilePlace → Type 0
IsPlaceIn c place = IsSomeAnd (matrix_in c place.grid place.z) (λ m. (place.row < m.rows) × (place.col < m.cols))

-- the tile of a part at a place
abbrev pub tile_at : TilePlace → Part → Address
tile_at place p = record { theme = p.theme; grid = place.grid; z = place.z; row = place.row; col = place.col }
