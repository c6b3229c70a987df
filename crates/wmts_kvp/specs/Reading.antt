-- The reading of a GetTile or GetCapabilities query by key-value pairs (OGC 07-057r7, sections 7.1 and 7.2): a row a line,
-- with its parameter, the code where it is missing and the code where it is invalid. The first row that fails is the refusal.
use Rattle.std.specs.Prelude.{ℕ, List, Ok, Err, codes}
use Rattle.catalog.specs.declared.catalogue.Catalogue.{Catalogue}
use Rattle.catalog.specs.LookUp.{layer_named, served_grid_named, matrix_named, dimensions_of, IsTile}
use Rattle.dimension_key.specs.Draft.{draft_of}
use Rattle.exception_report.specs.declared.code.Code.TheVariants.{MissingParameterValue, InvalidParameterValue, TileOutOfRange}
use Rattle.matrix_geometry.specs.declared.address.Address.{Address}
use Rattle.matrix_geometry.specs.declared.theme.Theme.{Theme}
use Rattle.wmts_kvp.specs.declared.query.Query.{Query}
use Rattle.wmts_kvp.specs.declared.query.Query.TheVariants.{Tile, Capabilities, Refused}
use Rattle.wmts_kvp.specs.Pairs.{pairs_of}
use Rattle.wmts_kvp.specs.Rows.{Row, ◌>>=◌, some_or, parameter, equal, requested, style_or_first, number, dimensions, rows_of, cols_of, below}

-- the rows after the dimensions, for a layer and a theme of it
unfoldable pub address_in : Catalogue → List (List ℕ × List ℕ) → ℕ → Theme → Row Address
address_in c pairs layer theme = do
  grid ← parameter pairs (codes "TileMatrixSet") MissingParameterValue InvalidParameterValue (served_grid_named c layer)
  z ← parameter pairs (codes "TileMatrix") MissingParameterValue InvalidParameterValue (matrix_named c grid)
  row_number ← parameter pairs (codes "TileRow") MissingParameterValue InvalidParameterValue number
  col_number ← parameter pairs (codes "TileCol") MissingParameterValue InvalidParameterValue number
  row ← some_or TileOutOfRange (codes "TileRow") (below (rows_of c grid z) row_number)
  col ← some_or TileOutOfRange (codes "TileCol") (below (cols_of c grid z) col_number)
  Ok (record { theme = theme; grid = grid; z = z; row = row; col = col })

-- the rows that say what is asked of the service, read on where it is a tile
unfoldable pub tile_asked : List (List ℕ × List ℕ) → Row (Unit {0})
tile_asked pairs = do
  service ← parameter pairs (codes "service") MissingParameterValue InvalidParameterValue (equal (codes "WMTS"))
  request ← requested pairs (codes "request") MissingParameterValue
  parameter pairs (codes "version") MissingParameterValue InvalidParameterValue (equal (codes "1.0.0"))

-- all rows
unfoldable pub address_of : Catalogue → List (List ℕ × List ℕ) → Row Address
address_of c pairs = do
  tile ← tile_asked pairs
  layer ← parameter pairs (codes "layer") MissingParameterValue InvalidParameterValue (layer_named c)
  style ← parameter pairs (codes "style") MissingParameterValue InvalidParameterValue (style_or_first c layer)
  format ← parameter pairs (codes "format") MissingParameterValue InvalidParameterValue (equal (codes "image/x-portable-pixmap"))
  draft ← dimensions c pairs (dimensions_of c layer) (draft_of layer style)
  address_in c pairs layer draft.theme

abbrev pub ended : Row Address → Query
ended (Ok address) = Tile address
ended (Err end) = end

-- what these pairs ask for in this catalogue
unfoldable pub reading : Catalogue → List (List ℕ × List ℕ) → Query
reading c pairs = ended (address_of c pairs)

-- what a query asks for
unfoldable pub query_reading : Catalogue → List ℕ → Query
query_reading c query = reading c (pairs_of query)

-- a tile that is asked for is one of the catalogue's
abbrev pub IsOfCatalogue : Catalogue → Query → Type 0
IsOfCatalogue c (Tile address) = IsTile c address
IsOfCatalogue c Capabilities = Unit {0}
IsOfCatalogue c (Refused code locator) = Unit {0}
