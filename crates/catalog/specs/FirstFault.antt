-- The first fault of a catalogue: its members are tested in the order of the text that it may have been read from, objects of a
-- list whole and one after the other, one line a test. A fault has the place of its object in its list, 0 for the outermost.
use Rattle.std.specs.Prelude.{ℕ, ◌+◌, ◌*◌, ◌^◌, ◌&&◌, ◌==◌, ⊤, List, [], ◌∷◌, ◌++◌, length, Bool, true, false, not, Result, Ok, Err, Option, Some, None, nat_le, nat_lt, int_lt, pos, unsigned_abs, slice_get}
use Rattle.std.specs.List.{list_all, list_any}
use Rattle.matrix_geometry.specs.declared.matrix.Matrix.{Matrix}
use Rattle.catalog.specs.declared.catalogue.Catalogue.{Catalogue}
use Rattle.catalog.specs.declared.fault.CatalogueFault.{CatalogueFault}
use Rattle.catalog.specs.declared.fault.CatalogueFault.TheVariants.{Bad, Duplicate, Limit}
use Rattle.catalog.specs.declared.fault.Field.{Field}
use Rattle.catalog.specs.declared.fault.Field.TheVariants as field
use Rattle.catalog.specs.declared.grid.Grid.{Grid}
use Rattle.catalog.specs.declared.layer.Age.{Age}
use Rattle.catalog.specs.declared.layer.Break.{Break}
use Rattle.catalog.specs.declared.layer.Dimension.{Dimension}
use Rattle.catalog.specs.declared.layer.Layer.{Layer}
use Rattle.catalog.specs.declared.layer.Style.{Style}
use Rattle.catalog.specs.Names.{within, is_name, is_short, is_taken, are_distinct, is_same, is_parameter}

-- Ok where it is met, else the fault
abbrev pub Test : Type 0
Test = Result ⊤ CatalogueFault

abbrev pub unless : Bool → CatalogueFault → Test
unless true fault = Ok tt
unless false fault = Err fault

abbrev pub next : Test → Test → Test
next (Ok u) test = test
next (Err fault) test = Err fault

-- the first of the tests that isn't met
abbrev pub first : List Test → Test
first [] = Ok tt
first (test ∷ tests) = next test (first tests)

-- the entries of a list, each tested after those before it
abbrev pub each : {A : Type 0} → (List A → A → Test) → List A → List A → Test
each test before [] = Ok tt
each test before (x ∷ xs) = next (test before x) (each test (before ++ x ∷ []) xs)

-- an identifier beside the names of the entries before
unfoldable pub name_test : {A : Type 0} → (A → List ℕ) → List A → Field → ℕ → List ℕ → Test
name_test name before f at text =
    first (
    unless (is_name text) (Bad f at) ∷
    unless (is_short text) (Limit f at) ∷
    unless (not (is_taken name before text)) (Duplicate f at) ∷
    [])

-- a quota, where there is one
abbrev pub quota_test : Field → ℕ → Option ℕ → Test
quota_test f at None = Ok tt
quota_test f at (Some n) = unless (nat_le n (2 ^ 50)) (Limit f at)

-- ---- grids

-- the corner is at most 10^8 units away each way
abbrev pub is_near : Matrix → Bool
is_near m = nat_le (unsigned_abs m.left) (10 ^ 17) && nat_le (unsigned_abs m.top) (10 ^ 17)

-- the side of a pixel is a fraction of small numbers
abbrev pub is_fine : Matrix → Bool
is_fine m = nat_le (unsigned_abs m.span.n) (10 ^ 20) && nat_le (unsigned_abs m.span.d) (10 ^ 18)

abbrev pub has_span : Matrix → Bool
has_span m = int_lt (pos 0) m.span.n && int_lt (pos 0) m.span.d

abbrev pub has_tile : Matrix → Bool
has_tile m = within 1 512 m.tile_w && within 1 512 m.tile_h

abbrev pub has_size : Matrix → Bool
has_size m = within 1 (2 ^ 31) m.cols && within 1 (2 ^ 31) m.rows

-- so many tiles of so many pixels are at most 10^9 units long
abbrev pub is_extent : ℕ → ℕ → ℕ → ℕ → Bool
is_extent count tile n d = nat_le (count * tile * n) (10 ^ 9 * d)

abbrev pub has_extent : Matrix → Bool
has_extent m =
    is_extent m.cols m.tile_w (unsigned_abs m.span.n) (unsigned_abs m.span.d) &&
    is_extent m.rows m.tile_h (unsigned_abs m.span.n) (unsigned_abs m.span.d)

-- a matrix by itself, as one that was given by its span
unfoldable pub matrix_test : ℕ → Matrix → Test
matrix_test at m =
    first (
    unless (is_near m) (Limit field.MatrixCorner at) ∷
    unless (has_span m) (Bad field.Span at) ∷
    unless (is_fine m) (Limit field.Span at) ∷
    unless (has_tile m) (Limit field.Tile at) ∷
    unless (has_size m) (Limit field.Size at) ∷
    unless (has_extent m) (Limit field.Size at) ∷
    [])

-- the matrices of a grid, each with the name at its place
abbrev pub matrices_test : List (List ℕ) → List (List ℕ) → List Matrix → Test
matrices_test before [] ms = Ok tt
matrices_test before (n ∷ ns) [] = Ok tt
matrices_test before (n ∷ ns) (m ∷ ms) =
    first (
    name_test (λ t. t) before field.MatrixId (length before) n ∷
    matrix_test (length before) m ∷
    matrices_test (before ++ n ∷ []) ns ms ∷
    [])

unfoldable pub grid_test : List Grid → Grid → Test
grid_test before g =
    let at = length before in
    first (
    name_test (λ x. x.id) before field.GridId at g.id ∷
    unless (length g.names == length g.matrices) (Bad field.Matrices at) ∷
    unless (within 1 30 (length g.matrices)) (Limit field.Matrices at) ∷
    matrices_test [] g.names g.matrices ∷
    [])

-- ---- layers

-- the number of a grid, each number once
unfoldable pub grid_number_test : ℕ → List Grid → List ℕ → ℕ → Test
grid_number_test at grids before n =
    first (
    unless (nat_lt n (length grids)) (Bad field.LayerGrids at) ∷
    unless (not (list_any (λ m. m == n) before)) (Duplicate field.LayerGrids at) ∷
    [])

-- the breaks rise strictly, each above n
abbrev pub rise_above : ℕ → List Break → Bool
rise_above n [] = true
rise_above n (b ∷ bs) = nat_lt n b.from && rise_above b.from bs

-- there are no breaks, or they rise strictly from 0
abbrev pub rise_from_zero : List Break → Bool
rise_from_zero [] = true
rise_from_zero (b ∷ bs) = b.from == 0 && rise_above 0 bs

unfoldable pub style_test : List Style → Style → Test
style_test before s =
    let at = length before in
    first (
    name_test (λ x. x.id) before field.StyleId at s.id ∷
    unless (nat_le (length s.breaks) 256) (Limit field.Breaks at) ∷
    unless (rise_from_zero s.breaks) (Bad field.Breaks at) ∷
    [])

-- a name of a dimension is told from the parameters of a query and from the dimensions before without regard to case
unfoldable pub dimension_name_test : List Dimension → ℕ → List ℕ → Test
dimension_name_test before at text =
    first (
    unless (is_name text) (Bad field.DimensionId at) ∷
    unless (is_short text) (Limit field.DimensionId at) ∷
    unless (not (is_parameter text)) (Duplicate field.DimensionId at) ∷
    unless (not (list_any (λ x. is_same x.id text) before)) (Duplicate field.DimensionId at) ∷
    [])

-- so many names, each at most 64 bytes long
unfoldable pub names_test : ℕ → ℕ → Field → ℕ → List (List ℕ) → Test
names_test low high f at names =
    first (
    unless (list_all is_name names) (Bad f at) ∷
    unless (within low high (length names) && list_all is_short names) (Limit f at) ∷
    [])

-- the number of one of so many values
abbrev pub default_test : ℕ → ℕ → Option ℕ → Test
default_test at count None = Ok tt
default_test at count (Some n) = unless (nat_lt n count) (Bad field.Default at)

unfoldable pub dimension_test : List Dimension → Dimension → Test
dimension_test before d =
    let at = length before in
    first (
    dimension_name_test before at d.id ∷
    names_test 1 1024 field.Values at d.values ∷
    unless (are_distinct d.values) (Duplicate field.Values at) ∷
    default_test at (length d.values) d.default ∷
    [])

-- both factors of a metatile are 1 to 8
abbrev pub are_factors : ℕ → ℕ → Bool
are_factors meta_x meta_y = within 1 8 meta_x && within 1 8 meta_y

-- a metatile of so many tiles of the matrix, with its gutter, has few enough pixels
abbrev pub is_small : ℕ → ℕ → ℕ → Matrix → Bool
is_small meta_x meta_y gutter m = nat_le ((meta_x * m.tile_w + 2 * gutter) * (meta_y * m.tile_h + 2 * gutter)) 4500000

abbrev pub matrices_at : Option Grid → List Matrix
matrices_at None = []
matrices_at (Some g) = g.matrices

-- of each matrix of each of these grids
unfoldable pub are_small : List Grid → List ℕ → ℕ → ℕ → ℕ → Bool
are_small grids numbers meta_x meta_y gutter =
    list_all (λ n. list_all (is_small meta_x meta_y gutter) (matrices_at (slice_get grids n))) numbers

-- the zooms rise strictly, the first at least n and the last at most 29
abbrev pub zooms_rise : ℕ → List Age → Bool
zooms_rise n [] = true
zooms_rise n (age ∷ ages) = within n 29 age.zoom && zooms_rise (age.zoom + 1) ages

unfoldable pub ages_test : ℕ → List Age → Test
ages_test at ages =
    first (
    unless (nat_le (length ages) 30) (Limit field.Ages at) ∷
    unless (zooms_rise 0 ages) (Bad field.Ages at) ∷
    [])

unfoldable pub layer_test : List Grid → List Layer → Layer → Test
layer_test grids before l =
    let at = length before in
    first (
    name_test (λ x. x.id) before field.LayerId at l.id ∷
    unless (within 1 16 (length l.grids)) (Limit field.LayerGrids at) ∷
    each (grid_number_test at grids) [] l.grids ∷
    unless (within 1 32 (length l.styles)) (Limit field.Styles at) ∷
    each style_test [] l.styles ∷
    unless (nat_le (length l.dims) 4) (Limit field.Dimensions at) ∷
    each dimension_test [] l.dims ∷
    unless (are_factors l.meta_x l.meta_y) (Limit field.Meta at) ∷
    unless (nat_le l.gutter 64) (Limit field.Gutter at) ∷
    unless (within 1 1000000000 l.cell) (Limit field.Cell at) ∷
    quota_test field.LayerQuota at l.quota ∷
    ages_test at l.ages ∷
    unless (are_small grids l.grids l.meta_x l.meta_y l.gutter) (Limit field.Meta at) ∷
    [])

-- ---- the catalogue

unfoldable pub first_fault : Catalogue → Test
first_fault c =
    first (
    unless (within 1 1048576 c.kept_limit) (Limit field.KeptLimit 0) ∷
    unless (within 1 65536 c.cut_limit) (Limit field.CutLimit 0) ∷
    unless (within 1 (2 ^ 40) c.blob_bytes) (Limit field.BlobBytes 0) ∷
    quota_test field.Quota 0 c.quota ∷
    unless (within 1 16 (length c.grids)) (Limit field.Grids 0) ∷
    each grid_test [] c.grids ∷
    unless (within 1 64 (length c.layers)) (Limit field.Layers 0) ∷
    each (layer_test c.grids) [] c.layers ∷
    [])
