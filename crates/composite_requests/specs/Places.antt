-- The place of a composite that three texts name, or else its refusal: a row a line, with the parameter at fault and the code. The first row
-- that fails is the refusal, as of a tile by its RESTful path.
use Rattle.std.specs.Prelude.{ℕ, if◌then◌else◌, List, length, Option, Some, None, option_map, unwrap_or, slice_get, Result, Ok, Err, codes}
use Rattle.std.specs.Str.Parse.{digits_value}
use Rattle.catalog.specs.declared.catalogue.Catalogue.{Catalogue}
use Rattle.exception_report.specs.declared.code.Code.TheVariants.{InvalidParameterValue, TileOutOfRange}
use Rattle.exception_report.specs.declared.code.Locator.TheVariants.{At as Place}
use Rattle.layer_recipes.specs.declared.place.TilePlace.{TilePlace}
use Rattle.wmts_kvp.specs.declared.query.Query.TheVariants.{Refused}
use Rattle.wmts_kvp.specs.Rows.{Row, ◌>>=◌, below, cols_of, is_number, rows_of, some_or}
use Rattle.composite_requests.specs.declared.refusal.Refusal.{Refusal}
use Rattle.composite_requests.specs.declared.refusal.Refusal.TheVariants.{At}

abbrev pub count_of_matrices : Catalogue → ℕ → ℕ
count_of_matrices c grid = unwrap_or (option_map (λ g. length g.matrices) (slice_get c.grids grid)) 0

-- the number that a text is, where it is below the limit
abbrev pub number_below : ℕ → List ℕ → Option ℕ
number_below limit text = if is_number text then below limit (digits_value 10 text) else None

-- one or more digits
abbrev pub digits_row : List ℕ → List ℕ → Row (Unit {0})
digits_row name text = some_or InvalidParameterValue name (if is_number text then Some tt else None)

-- the number of a matrix of the grid, 0 for the first one, and a row and a column of that matrix
unfoldable pub place_in : Catalogue → ℕ → List ℕ → List ℕ → List ℕ → Row TilePlace
place_in c grid z row col = do
  number ← some_or InvalidParameterValue (codes "TileMatrix") (number_below (count_of_matrices c grid) z)
  row_digits ← digits_row (codes "TileRow") row
  col_digits ← digits_row (codes "TileCol") col
  row_number ← some_or TileOutOfRange (codes "TileRow") (below (rows_of c grid number) (digits_value 10 row))
  col_number ← some_or TileOutOfRange (codes "TileCol") (below (cols_of c grid number) (digits_value 10 col))
  Ok (record { grid = grid; z = number; row = row_number; col = col_number })

-- a row of the table as the code gives it
abbrev pub row_of : {A : Type 0} → Result A Refusal → Row A
row_of (Ok x) = Ok x
row_of (Err (At code name)) = Err (Refused code (Place name.now))
