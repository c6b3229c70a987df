-- The reading of the path of a RESTful request (OGC 07-057r7, section 10): the capabilities at their one path, and a tile at
-- `/rest/wmts/<layer>/{Style}/{each dimension}/{TileMatrixSet}/{TileMatrix}/{TileRow}/{TileCol}.ppm`.
use Rattle.std.specs.Prelude.{ℕ, ◌+◌, ◌-◌, Bool, true, ◌==◌, ◌&&◌, not, nat_lt, if◌then◌else◌, List, [], ◌∷◌, ◌++◌, length, take, drop, map, zip, Option, Some, None, option_map, option_and_then, unwrap_or, codes, bytes_eq}
use Rattle.std.specs.List.{list_all, slice_split}
use Rattle.std.specs.Str.{is_utf8}
use Rattle.std.specs.Str.Lossy.{utf8_lossy}
use Rattle.catalog.specs.declared.catalogue.Catalogue.{Catalogue}
use Rattle.catalog.specs.declared.layer.Dimension.{Dimension}
use Rattle.catalog.specs.LookUp.{dimensions_of, layer_named}
use Rattle.percent_encoding.specs.Percent.{percent_decode}
use Rattle.wmts_kvp.specs.declared.query.Query.{Query}
use Rattle.wmts_kvp.specs.declared.query.Query.TheVariants.{Capabilities}
use Rattle.wmts_kvp.specs.Reading.{reading}

abbrev pub capabilities_path : List ℕ
capabilities_path = codes "/rest/wmts/WMTSCapabilities.xml"

-- what a tile's path begins with
abbrev pub front : List ℕ
front = codes "/rest/wmts/"

-- a text without the front, where it begins so
abbrev pub after : List ℕ → List ℕ → Option (List ℕ)
after front text = if bytes_eq (take (length front) text) front then Some (drop (length front) text) else None

-- a text without the ending, where it ends so
abbrev pub before : List ℕ → List ℕ → Option (List ℕ)
before ending text =
    if bytes_eq (drop (length text - length ending) text) ending then Some (take (length text - length ending) text) else None

-- what stands between `/rest/wmts/` and `.ppm`
unfoldable pub inside : List ℕ → Option (List ℕ)
inside path = option_and_then (before (codes ".ppm")) (after front path)

-- the segments after `/rest/wmts/`, the last one without its `.ppm`
abbrev pub segments_of : List ℕ → Option (List (List ℕ))
segments_of path = option_map (slice_split (λ b. b == 47)) (inside path)

-- 6 to 10 segments, none of them empty, as the last one has its `.ppm`
unfoldable pub are_segments : List (List ℕ) → Bool
are_segments segments =
    nat_lt 5 (length segments) && nat_lt (length segments) 11
    && list_all (λ s. nat_lt 0 (length s)) (take (length segments - 1) segments)

-- a segment as text: escapes decoded, and U+FFFD for each sequence that isn't UTF-8
abbrev pub text_of : List ℕ → List ℕ
text_of segment = utf8_lossy (percent_decode segment)

-- the dimensions of a layer, where there is one
abbrev pub dimensions_at : Catalogue → Option ℕ → List Dimension
dimensions_at c layer = unwrap_or (option_map (dimensions_of c) layer) []

-- where there is a layer, each of its dimensions has a text
abbrev pub is_complete : Catalogue → Option ℕ → ℕ → Bool
is_complete c None count = true
is_complete c (Some layer) count = count == 6 + length (dimensions_of c layer)

-- the parameters that the segments give, in order
abbrev pub names_of : List Dimension → List (List ℕ)
names_of ds =
    (codes "layer" ∷ codes "style" ∷ map (λ d. d.id) ds)
    ++ (codes "TileMatrixSet" ∷ codes "TileMatrix" ∷ codes "TileRow" ∷ codes "TileCol" ∷ [])

-- the parameters that have one value for all tiles
abbrev pub supplied : List (List ℕ × List ℕ)
supplied =
    (codes "service", codes "WMTS") ∷ (codes "request", codes "GetTile") ∷ (codes "version", codes "1.0.0")
    ∷ (codes "format", codes "image/x-portable-pixmap") ∷ []

-- the pairs that texts spell under these names
abbrev pub pairs_under : List (List ℕ) → List (List ℕ) → List (List ℕ × List ℕ)
pairs_under names texts = supplied ++ zip names texts

-- the pairs that the texts of a layer spell
unfoldable pub pairs_of : Catalogue → Option ℕ → List (List ℕ) → List (List ℕ × List ℕ)
pairs_of c layer texts = pairs_under (names_of (dimensions_at c layer)) texts

-- what texts ask for in a layer, where there is one
abbrev pub layer_reading : Catalogue → Option ℕ → List (List ℕ) → Option Query
layer_reading c layer texts =
    if is_complete c layer (length texts) then Some (reading c (pairs_of c layer texts)) else None

-- what texts ask for, of which the first names the layer
abbrev pub texts_reading : Catalogue → List (List ℕ) → Option Query
texts_reading c [] = None
texts_reading c (first ∷ rest) = layer_reading c (layer_named c first) (first ∷ rest)

-- what segments ask for
unfoldable pub segments_reading : Catalogue → List (List ℕ) → Option Query
segments_reading c segments = if are_segments segments then texts_reading c (map text_of segments) else None

-- what a path asks for, where it asks for anything
unfoldable pub path_reading : Catalogue → List ℕ → Option Query
path_reading c path =
    if not (is_utf8 path) then None
    else if bytes_eq path capabilities_path then Some Capabilities
    else option_and_then (segments_reading c) (segments_of path)

-- THE SAME TILES AS PICTURES: each has a second path, `/png/<layer>/{Style}/{each dimension}/{TileMatrixSet}/{TileMatrix}/{TileRow}/{TileCol}.png`

-- what stands between `/png/` and `.png`
unfoldable pub inside_picture : List ℕ → Option (List ℕ)
inside_picture path = option_and_then (before (codes ".png")) (after (codes "/png/") path)

-- the segments after `/png/`, the last one without its `.png`
abbrev pub picture_segments_of : List ℕ → Option (List (List ℕ))
picture_segments_of path = option_map (slice_split (λ b. b == 47)) (inside_picture path)

-- what such a path asks for, where it asks for anything: what its segments ask for between `/rest/wmts/` and `.ppm`
unfoldable pub picture_reading : Catalogue → List ℕ → Option Query
picture_reading c path = if not (is_utf8 path) then None else option_and_then (segments_reading c) (picture_segments_of path)
