-- The grids and their matrices (OGC 07-057r7, section 6).
use Rattle.std.specs.Prelude.{ℕ, List, [], length, map, Result, Ok, Err, Option, Some, None, codes, pos}
use Rattle.serde_json.specs.Data.{Data}
use Rattle.serde_json.specs.Find.{get}
use Rattle.exact_ratio.specs.Values.{Fraction, Scaled}
use Rattle.matrix_geometry.specs.Making.{made_of_span, made_of_scale}
use Rattle.matrix_geometry.specs.declared.making.GridFault.{GridFault}
use Rattle.matrix_geometry.specs.declared.making.GridFault.TheVariants.{CoordinateTooLarge, ZeroSpan, NumberTooFine, TileSize, TooManyTiles, ExtentTooLarge}
use Rattle.matrix_geometry.specs.declared.matrix.Corner.{Corner}
use Rattle.matrix_geometry.specs.declared.matrix.Matrix.{Matrix}
use Rattle.matrix_geometry.specs.declared.matrix.Size.{Size}
use Rattle.catalog.specs.declared.grid.Grid.{Grid}
use Rattle.catalog.specs.declared.fault.Field.{Field}
use Rattle.catalog.specs.declared.fault.Field.TheVariants as field
use Rattle.catalog.specs.declared.fault.CatalogueFault.{CatalogueFault}
use Rattle.catalog.specs.declared.fault.CatalogueFault.TheVariants.{Bad, Limit}
use Rattle.config_text.specs.declared.spacing.NamedMatrix.{NamedMatrix}
use Rattle.config_text.specs.declared.spacing.Spacing.{Spacing}
use Rattle.config_text.specs.declared.spacing.Spacing.TheVariants.{BySpan, ByScale}
use Rattle.config_text.specs.Reading.{◌>>=◌, entries}
use Rattle.config_text.specs.Member.{required, or, if_any, objects, name_beside}
use Rattle.config_text.specs.Shape.{decimal, above_zero, corner, size, span}

-- the scale is read where there is no span
abbrev pub spacing_else : Option Fraction → ℕ → Data → Result Spacing CatalogueFault
spacing_else (Some ratio) at d = Ok (BySpan ratio)
spacing_else None at d = required decimal field.Scale at (get (codes "scale") d) >>= λ scale. Ok (ByScale scale)

unfoldable pub spacing_of : ℕ → Data → Result Spacing CatalogueFault
spacing_of at d = do
  ratio ← if_any span field.Span at (get (codes "span") d)
  spacing_else ratio at d

-- which fault of the text a fault of a matrix is, where the member f gave the span
abbrev pub fault_of : Field → ℕ → GridFault → CatalogueFault
fault_of f at CoordinateTooLarge = Limit field.MatrixCorner at
fault_of f at ZeroSpan = Bad f at
fault_of f at NumberTooFine = Limit f at
fault_of f at TileSize = Limit field.Tile at
fault_of f at TooManyTiles = Limit field.Size at
fault_of f at ExtentTooLarge = Limit field.Size at

abbrev pub or_fault : Field → ℕ → Result Matrix GridFault → Result Matrix CatalogueFault
or_fault f at (Ok m) = Ok m
or_fault f at (Err e) = Err (fault_of f at e)

-- a matrix, made after its members were read
abbrev pub made : ℕ → Spacing → Scaled → Corner → Size → Size → Result Matrix CatalogueFault
made at (BySpan ratio) meters corner tile size = or_fault field.Span at (made_of_span ratio corner tile size)
made at (ByScale scale) meters corner tile size = or_fault field.Scale at (made_of_scale scale meters corner tile size)

-- a matrix of a grid with these meters in a unit and this corner, after the matrices before it
unfoldable pub matrix_of : Scaled → Corner → List NamedMatrix → Data → Result NamedMatrix CatalogueFault
matrix_of meters grid_corner before d = do
  id ← required (name_beside (λ m. m.id) before) field.MatrixId (length before) (get (codes "id") d)
  own_corner ← or grid_corner corner field.MatrixCorner (length before) (get (codes "corner") d)
  spacing ← spacing_of (length before) d
  tile ← required size field.Tile (length before) (get (codes "tile") d)
  count ← required size field.Size (length before) (get (codes "size") d)
  matrix ← made (length before) spacing meters own_corner tile count
  Ok (record { id = id; matrix = matrix })

abbrev pub one : Scaled
one = record { units = pos 1; places = 0 }

-- a grid, after those before it
unfoldable pub grid_of : List Grid → Data → Result Grid CatalogueFault
grid_of before d = do
  id ← required (name_beside (λ g. g.id) before) field.GridId (length before) (get (codes "id") d)
  meters ← or one above_zero field.Meters (length before) (get (codes "metersPerUnit") d)
  grid_corner ← required corner field.Corner (length before) (get (codes "corner") d)
  ds ← required (objects 1 30) field.Matrices (length before) (get (codes "matrices") d)
  matrices ← entries (matrix_of meters grid_corner) [] ds
  Ok (record { id = id; names = map (λ m. m.id) matrices; matrices = map (λ m. m.matrix) matrices })

unfoldable pub grids_of : Data → Result (List Grid) CatalogueFault
grids_of d = do
  ds ← required (objects 1 16) field.Grids 0 (get (codes "grids") d)
  entries grid_of [] ds
