-- The text of a request for a window (RFC 9112, sections 2 and 3).
use Rattle.std.specs.Prelude.{ℕ, Bool, ◌==◌, ◌||◌, List, [], ◌∷◌, ◌++◌, codes, bytes_eq, if◌then◌else◌}
use Rattle.std.specs.Char.{is_ascii_alphanumeric}
use Rattle.std.specs.List.{flat_map}
use Rattle.percent_encoding.specs.Percent.{percent_encode_byte}
use Rattle.window_request.specs.declared.field.TemplateField.{TemplateField}
use Rattle.window_request.specs.declared.field.TemplateField.TheVariants as fields
use Rattle.window_request.specs.declared.piece.Piece.{Piece}
use Rattle.window_request.specs.declared.piece.Piece.TheVariants as pieces
use Rattle.window_request.specs.declared.template.Template.{Template}
use Rattle.window_request.specs.declared.values.DimensionValue.{DimensionValue}
use Rattle.window_request.specs.declared.values.Values.{Values}

-- a byte that stands for itself (RFC 3986, section 2.3): a letter, a digit, - (45), . (46), _ (95) or ~ (126)
abbrev pub is_unreserved : ℕ → Bool
is_unreserved b = is_ascii_alphanumeric b || (b == 45) || (b == 46) || (b == 95) || (b == 126)

-- a byte as it is, or % and its two hexadecimal digits (RFC 3986, section 2.1)
abbrev pub encoded_byte : ℕ → List ℕ
encoded_byte b = if is_unreserved b then b ∷ [] else percent_encode_byte b

abbrev pub encoded : List ℕ → List ℕ
encoded value = flat_map encoded_byte value

-- what a name stands for
abbrev pub value_of : Values → TemplateField → List ℕ
value_of v fields.Layer = v.layer.now
value_of v fields.Style = v.style.now
value_of v fields.Grid = v.grid.now
value_of v fields.Matrix = v.matrix.now
value_of v fields.MinX = v.min_x.now
value_of v fields.MinY = v.min_y.now
value_of v fields.MaxX = v.max_x.now
value_of v fields.MaxY = v.max_y.now
value_of v fields.Width = v.width.now
value_of v fields.Height = v.height.now
value_of v fields.Number = v.number.now

-- the value of the first dimension of that name, or nothing
abbrev pub dimension_in : List DimensionValue → List ℕ → List ℕ
dimension_in [] name = []
dimension_in (d ∷ ds) name = if bytes_eq d.name.now name then d.value.now else dimension_in ds name

-- what is sent for a piece: plain text as it is, and each value escaped
abbrev pub filled : Values → Piece → List ℕ
filled v (pieces.Plain text) = text.items
filled v (pieces.Field field) = encoded (value_of v field)
filled v (pieces.Dimension name) = encoded (dimension_in v.dimensions.now name.items)

-- the target with these values
abbrev pub target_of : Template → Values → List ℕ
target_of t v = flat_map (filled v) t.pieces.items

-- the request, with a version of the product
unfoldable pub request_of : Template → Values → List ℕ → List ℕ
request_of t v version =
    codes "GET " ++ target_of t v ++ codes " HTTP/1.1\r\nHost: " ++ t.authority.items
    ++ codes "\r\nAccept: image/x-portable-pixmap\r\nConnection: close\r\nUser-Agent: tile_server/" ++ version ++ codes "\r\n\r\n"
