-- The lines of a drill: each is made by draws, from the catalogue and from whether the drawn actor is busy.
use Rattle.std.specs.Prelude.{ℕ, ◌+◌, ◌*◌, ◌/◌, ◌%◌, ◌^◌, ◌==◌, nat_lt, if◌then◌else◌, Bool, true, false, List, [], ◌++◌, length, decimal, flat_map, Option, Some, None, option_and_then, option_map, unwrap_or, slice_get, codes}
use Rattle.catalog.specs.declared.catalogue.Catalogue.{Catalogue}
use Rattle.catalog.specs.declared.grid.Grid.{Grid}
use Rattle.catalog.specs.declared.layer.Dimension.{Dimension}
use Rattle.catalog.specs.declared.layer.Layer.{Layer}
use Rattle.catalog.specs.declared.layer.Style.{Style}

-- DRAWS

-- the number of the draws after x
unfoldable pub next_x : ℕ → ℕ
next_x x = (x * 6364136223846793005 + 1442695040888963407) % 2 ^ 64

-- what a draw from m numbers gives, where x is the number of the draws before it
unfoldable pub drawn : ℕ → ℕ → ℕ
drawn m x = next_x x / 2 ^ 33 % m

-- WHAT IS ASKED FOR

-- the first layer, its first style, and the first of its grids
pub record Aimed : Type 0 where
  pub layer : Layer
  pub style : Style
  pub grid : Grid

-- none where the catalogue has none; a valid one has one
abbrev pub aimed_at : Catalogue → Option Aimed
aimed_at c =
    option_and_then (λ l.
    option_and_then (λ s.
    option_map (λ g. record { layer = l; style = s; grid = g }) (option_and_then (slice_get c.grids) (slice_get l.grids 0)))
    (slice_get l.styles 0))
    (slice_get c.layers 0)

-- the matrix of this number, by its name, and how many rows and columns it has
abbrev pub name_at : Grid → ℕ → List ℕ
name_at g z = unwrap_or (slice_get g.names z) []

abbrev pub rows_at : Grid → ℕ → ℕ
rows_at g z = unwrap_or (option_map (λ m. m.rows) (slice_get g.matrices z)) 1

abbrev pub cols_at : Grid → ℕ → ℕ
cols_at g z = unwrap_or (option_map (λ m. m.cols) (slice_get g.matrices z)) 1

-- the default of a dimension, or else its first value
abbrev pub value_of : Dimension → List ℕ
value_of d = unwrap_or (slice_get d.values (unwrap_or d.default 0)) []

abbrev pub dimension_text : Dimension → List ℕ
dimension_text d = codes "&" ++ d.id ++ codes "=" ++ value_of d

-- the target of a tile, by key-value pairs
unfoldable pub target_of : Aimed → ℕ → ℕ → ℕ → List ℕ
target_of aim z row col =
    codes "/wmts?service=WMTS&request=GetTile&version=1.0.0&layer=" ++ aim.layer.id ++ codes "&style=" ++ aim.style.id
    ++ codes "&format=image/x-portable-pixmap&TileMatrixSet=" ++ aim.grid.id ++ codes "&TileMatrix=" ++ name_at aim.grid z
    ++ codes "&TileRow=" ++ decimal row ++ codes "&TileCol=" ++ decimal col ++ flat_map dimension_text aim.layer.dims

-- the cover of the layer on this one matrix of the grid
unfoldable pub cover_text : Aimed → ℕ → List ℕ
cover_text aim z = codes "{\"layer\":\"" ++ aim.layer.id ++ codes "\",\"grid\":\"" ++ aim.grid.id ++ codes "\",\"zoomStart\":" ++ decimal z ++ codes ",\"zoomStop\":" ++ decimal z ++ codes "}"

-- LINES

-- what an idle actor does, by the draw t from 16
unfoldable pub said : Aimed → ℕ → ℕ → ℕ → ℕ → List ℕ
said aim t z row col =
    if nat_lt t 10 then codes "ASK " ++ target_of aim z row col
    else if t == 10 then codes "GET " ++ target_of aim z row col
    else if t == 11 then codes "FORCE " ++ target_of aim z row col
    else if nat_lt t 14 then codes "EXPIRE"
    else codes "TRUNCATE " ++ cover_text aim z

-- a line, and the number of the draws after it
pub record Made : Type 0 where
  pub line : List ℕ
  pub x : ℕ

-- the line of this actor
abbrev pub line_of_actor : ℕ → List ℕ → List ℕ
line_of_actor actor text = decimal actor ++ codes " " ++ text

-- An idle actor: a kind, a matrix, a row and a column are drawn in this order, whatever the kind needs of them.
abbrev pub made_idle : Aimed → ℕ → ℕ → Made
made_idle aim actor x =
    let z = drawn (length aim.grid.matrices) (next_x x) in
    let row = drawn (rows_at aim.grid z) (next_x (next_x x)) in
    let col = drawn (cols_at aim.grid z) (next_x (next_x (next_x x))) in
    record { line = line_of_actor actor (said aim (drawn 16 x) z row col); x = next_x (next_x (next_x (next_x x))) }

-- where the catalogue has nothing to ask for, the line is empty
abbrev pub made_of : Option Aimed → ℕ → ℕ → Made
made_of None actor x = record { line = []; x = x }
made_of (Some aim) actor x = made_idle aim actor x

-- a busy actor makes its next event
abbrev pub made_by : Catalogue → ℕ → Bool → ℕ → Made
made_by c actor true x = record { line = line_of_actor actor (codes "STEP"); x = x }
made_by c actor false x = made_of (aimed_at c) actor x

-- the line that is made where x is the number of the draws before it; `busy` is whether the drawn actor is
abbrev pub made_line : Catalogue → Bool → ℕ → Made
made_line c busy x = made_by c (drawn 4 x) busy (next_x x)
