-- What a renderer is asked for a window of a metatile: the request of its layer's template with the window's values.
use Rattle.std.specs.Prelude.{ℕ, ◌≡◌, ◌+◌, List, [], ◌∷◌, map, decimal, Option, Some, None, option_map, slice_get, unwrap_or, IsSomeAnd}
use Rattle.std.specs.Option.{option_map_or}
use Rattle.catalog.specs.declared.catalogue.Catalogue.{Catalogue}
use Rattle.catalog.specs.declared.grid.Grid.{Grid}
use Rattle.catalog.specs.declared.layer.Dimension.{Dimension}
use Rattle.catalog.specs.LookUp.{dimensions_of, layer_of, matrix_in, style_of}
use Rattle.matrix_geometry.specs.declared.matrix.Matrix.{Matrix}
use Rattle.metatile_plan.specs.declared.metatile.MetaKey.{MetaKey}
use Rattle.metatile_plan.specs.declared.windows.Window.{Window}
use Rattle.window_request.specs.Decimals.{IsDecimalOf}
use Rattle.window_request.specs.Requests.{request_of}
use Rattle.window_request.specs.declared.template.Template.{Template}
use Rattle.window_request.specs.declared.values.DimensionValue.{DimensionValue}
use Rattle.window_request.specs.declared.values.Values.{Values}
use Rattle.http_source.specs.Configs.{own_place}
use Rattle.http_source.specs.Edges.{pixel_left, pixel_top}
use Rattle.http_source.specs.declared.asking.WindowTexts.{WindowTexts}
use Rattle.http_source.specs.declared.config.RendererConfig.{RendererConfig}

-- THE TEMPLATE

-- that at a place among those of single layers, or the one for all others
abbrev pub template_at : RendererConfig → Option ℕ → Template
template_at c None = c.template
template_at c (Some place) = option_map_or (λ t. t.template) (slice_get c.layers.items place) c.template

-- that of a layer
abbrev pub template_for : RendererConfig → ℕ → Template
template_for c layer = template_at c (own_place c.layers.items layer)

-- THE VALUES

-- the edges of the window in units of the grid, its size in pixels, and the number of the render
pub record AreTextsOf (m : Matrix) (number : ℕ) (w : Window) (t : WindowTexts) : Type 0 where
  pub min_x : IsDecimalOf (pixel_left m w.x) t.min_x.items
  pub min_y : IsDecimalOf (pixel_top m (w.y + w.height)) t.min_y.items
  pub max_x : IsDecimalOf (pixel_left m (w.x + w.width)) t.max_x.items
  pub max_y : IsDecimalOf (pixel_top m w.y) t.max_y.items
  pub width : t.width.items ≡ decimal w.width
  pub height : t.height.items ≡ decimal w.height
  pub number_is : t.number.items ≡ decimal number

-- the value of this number of a dimension
abbrev pub value_at : Dimension → ℕ → List ℕ
value_at d number = unwrap_or (slice_get d.values number) []

-- each dimension of a layer with the theme's value, by their names
abbrev pub theme_values : List Dimension → List ℕ → List (List ℕ × List ℕ)
theme_values [] numbers = []
theme_values (d ∷ ds) [] = []
theme_values (d ∷ ds) (number ∷ numbers) = (d.id, value_at d number) ∷ theme_values ds numbers

abbrev pub named_value : DimensionValue → List ℕ × List ℕ
named_value v = (v.name.now, v.value.now)

-- the name of the matrix of this number in a grid
abbrev pub matrix_name : Grid → ℕ → List ℕ
matrix_name g z = unwrap_or (slice_get g.names z) []

-- the values at a window of a metatile: the names of its layer, style, grid and matrix, the window's numbers, and its dimensions
pub record IsValuesOf (c : Catalogue) (k : MetaKey) (t : WindowTexts) (dimensions : List DimensionValue) (v : Values) : Type 0 where
  pub layer : option_map (λ l. l.id) (layer_of c k.theme) ≡ Some v.layer.now
  pub style : option_map (λ s. s.id) (style_of c k.theme) ≡ Some v.style.now
  pub grid : option_map (λ g. g.id) (slice_get c.grids k.grid) ≡ Some v.grid.now
  pub matrix : option_map (λ g. matrix_name g k.z) (slice_get c.grids k.grid) ≡ Some v.matrix.now
  pub min_x : v.min_x.now ≡ t.min_x.items
  pub min_y : v.min_y.now ≡ t.min_y.items
  pub max_x : v.max_x.now ≡ t.max_x.items
  pub max_y : v.max_y.now ≡ t.max_y.items
  pub width : v.width.now ≡ t.width.items
  pub height : v.height.now ≡ t.height.items
  pub number : v.number.now ≡ t.number.items
  pub dimensions_are : v.dimensions.now ≡ dimensions

-- THE REQUEST

-- the text asks for the window of the metatile: it is the request of its layer's template with the values there
pub record Asks (config : RendererConfig) (c : Catalogue) (number : ℕ) (k : MetaKey) (w : Window) (version text : List ℕ) : Type 0 where
  pub texts : WindowTexts
  pub are : IsSomeAnd (matrix_in c k.grid k.z) (λ m. AreTextsOf m number w texts)
  pub dimensions : List DimensionValue
  pub dimensions_are : map named_value dimensions ≡ theme_values (dimensions_of c k.theme.layer) k.theme.dims
  pub values : Values
  pub values_are : IsValuesOf c k texts dimensions values
  pub is : text ≡ request_of (template_for config k.theme.layer) values version
