-- What a theme, an address or a number names in a catalogue.
use Rattle.std.specs.Prelude.{ℕ, ◌≡◌, ◌<◌, ◌==◌, Bool, if◌then◌else◌, List, [], length, Option, Some, None, option_and_then, option_map, unwrap_or, slice_get, IsSomeAnd, Contains, IsSome}
use Rattle.std.specs.List.{list_any}
use Rattle.catalog.specs.declared.catalogue.Catalogue.{Catalogue}
use Rattle.catalog.specs.declared.layer.Dimension.{Dimension}
use Rattle.catalog.specs.declared.layer.Layer.{Layer}
use Rattle.catalog.specs.declared.layer.Style.{Style}
use Rattle.catalog.specs.Names.{place_named}
use Rattle.matrix_geometry.specs.declared.address.Address.{Address}
use Rattle.matrix_geometry.specs.declared.matrix.Matrix.{Matrix}
use Rattle.matrix_geometry.specs.declared.theme.Theme.{Theme}

-- the layer of a theme
abbrev pub layer_of : Catalogue → Theme → Option Layer
layer_of c t = slice_get c.layers t.layer

-- the style of a theme
abbrev pub style_of : Catalogue → Theme → Option Style
style_of c t = option_and_then (λ l. slice_get l.styles t.style) (layer_of c t)

-- the dimensions of the layer of this number, none where no layer has it
abbrev pub dimensions_of : Catalogue → ℕ → List Dimension
dimensions_of c layer = unwrap_or (option_map (λ l. l.dims) (slice_get c.layers layer)) []

-- a dimension of a layer, by their numbers
abbrev pub dimension_at : Catalogue → ℕ → ℕ → Option Dimension
dimension_at c layer dim = option_and_then (λ l. slice_get l.dims dim) (slice_get c.layers layer)

-- how many values a theme may have at this place of its numbers: those of the layer's dimension there, and 0 alone where the
-- layer has no dimension there
abbrev pub values_at : Catalogue → ℕ → ℕ → ℕ
values_at c layer place = unwrap_or (option_map (λ d. length d.values) (dimension_at c layer place)) 1

-- the theme has one of the values of each of its layer's dimensions, and 0 at the places after them
pub record HasValues (c : Catalogue) (t : Theme) : Type 0 where
  pub each : (place number : ℕ) → slice_get t.dims place ≡ Some number → number < values_at c t.layer place

-- the grid of this number is one of the layer's
abbrev pub serves : Layer → ℕ → Bool
serves l grid = list_any (λ n. n == grid) l.grids

-- the matrix of this number in a grid
abbrev pub matrix_in : Catalogue → ℕ → ℕ → Option Matrix
matrix_in c grid z = option_and_then (λ g. slice_get g.matrices z) (slice_get c.grids grid)

-- the matrix of a tile
abbrev pub matrix_of : Catalogue → Address → Option Matrix
matrix_of c a = matrix_in c a.grid a.z

-- the tile lies in a matrix of one of its layer's grids, and its style and its values are the layer's
pub record IsTile (c : Catalogue) (a : Address) : Type 0 where
  pub layer : IsSomeAnd (layer_of c a.theme) (λ l. Contains l.grids a.grid)
  pub style : IsSome (style_of c a.theme)
  pub values : HasValues c a.theme
  pub place : IsSomeAnd (matrix_of c a) (λ m. (a.row < m.rows) × (a.col < m.cols))

-- Names to numbers: the first place whose entry has the name, and none exactly where no entry has it. In a valid catalogue
-- it is the only one.
abbrev pub layer_named : Catalogue → List ℕ → Option ℕ
layer_named c name = place_named (λ l. l.id) c.layers name

abbrev pub grid_named : Catalogue → List ℕ → Option ℕ
grid_named c name = place_named (λ g. g.id) c.grids name

-- the grid of this name, where the layer of this number serves it
abbrev pub served_grid_named : Catalogue → ℕ → List ℕ → Option ℕ
served_grid_named c layer name =
    option_and_then (λ l. option_and_then (λ grid. if serves l grid then Some grid else None) (grid_named c name)) (slice_get c.layers layer)

-- a matrix of the grid of this number
abbrev pub matrix_named : Catalogue → ℕ → List ℕ → Option ℕ
matrix_named c grid name = option_and_then (λ g. place_named (λ n. n) g.names name) (slice_get c.grids grid)

-- a style of the layer of this number
abbrev pub style_named : Catalogue → ℕ → List ℕ → Option ℕ
style_named c layer name = option_and_then (λ l. place_named (λ s. s.id) l.styles name) (slice_get c.layers layer)

-- a value of this dimension of this layer
abbrev pub value_named : Catalogue → ℕ → ℕ → List ℕ → Option ℕ
value_named c layer dim name = option_and_then (λ d. place_named (λ v. v) d.values name) (dimension_at c layer dim)
