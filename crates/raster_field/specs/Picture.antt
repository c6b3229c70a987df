-- The picture of a render: one colour for each pixel of a whole matrix. It knows no window, no metatile and no gutter.
use Rattle.std.specs.Prelude.{ℕ, ◌+◌, ◌*◌, ◌/◌, ◌%◌, List, [], ◌∷◌, Option, Some, nat_le, if◌then◌else◌, fold, unsigned_abs, option_and_then}
use Rattle.catalog.specs.declared.catalogue.Catalogue.{Catalogue}
use Rattle.catalog.specs.declared.layer.Break.{Break}
use Rattle.catalog.specs.declared.layer.Layer.{Layer}
use Rattle.catalog.specs.declared.layer.Style.{Style}
use Rattle.catalog.specs.LookUp.{layer_of, style_of, matrix_in}
use Rattle.exact_ratio.specs.Values.{Fraction}
use Rattle.matrix_geometry.specs.declared.matrix.Matrix.{Matrix}
use Rattle.matrix_geometry.specs.declared.theme.Theme.{Theme}
use Rattle.raster_field.specs.declared.colour.Colour.{Colour}

-- what a picture shows: the render of this number, by the source of this number, of a theme on a matrix
pub record Scene : Type 0 where
  pub source : ℕ
  pub number : ℕ
  pub theme : Theme
  pub matrix : Matrix
  pub layer : Layer
  pub style : Style

-- the scene that a theme, a grid and the number of a matrix in it name
abbrev pub scene_of : Catalogue → ℕ → ℕ → Theme → ℕ → ℕ → Option Scene
scene_of c source number theme grid z =
    option_and_then (λ m. option_and_then (λ l. option_and_then (λ s.
    Some (record { source = source; number = number; theme = theme; matrix = m; layer = l; style = s })) (style_of c theme)) (layer_of c theme)) (matrix_in c grid z)

-- the ground cell in which the middle of a pixel lies: (x + 1/2) * span / cell, rounded down
abbrev pub cell_at : Fraction → ℕ → ℕ → ℕ
cell_at span cell x = (2 * x + 1) * unsigned_abs span.n / (2 * unsigned_abs span.d * cell)

-- the first number counts n times, the second once more than that, and so on
abbrev pub weighted : ℕ → List ℕ → ℕ
weighted n [] = 0
weighted n (v ∷ vs) = n * v + weighted (n + 1) vs

-- what all pixels of a scene have in common
abbrev pub shade_of : ℕ → ℕ → Theme → ℕ
shade_of source number t = source + 7 * number + 31 * t.layer + 131 * weighted 1 t.dims

-- the value of a pixel
abbrev pub value_at : Scene → ℕ → ℕ → ℕ
value_at s x y = (shade_of s.source s.number s.theme + 17 * cell_at s.matrix.span s.layer.cell x + 13 * cell_at s.matrix.span s.layer.cell y) % 256

-- the colour of a value: grey, or that of the last break from which the value is
abbrev pub colour_of : List Break → ℕ → Colour
colour_of breaks v = fold (λ colour b. if nat_le b.from v then record { r = b.r; g = b.g; b = b.b } else colour) (record { r = v; g = v; b = v }) breaks

-- the colour of pixel (x, y) of the whole matrix
abbrev pub colour_at : Scene → ℕ → ℕ → Colour
colour_at s x y = colour_of s.style.breaks (value_at s x y)
