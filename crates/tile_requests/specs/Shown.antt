-- What values of the code show, in the terms of the definitions.
-- A tie between the code and its definitions: the promise can be read without it.
use Rattle.std.specs.Prelude.{ℕ, false, List, [], Option, Some, None, codes}
use Rattle.http_wire.specs.declared.message.Message.{Message}
use Rattle.tile_requests.specs.declared.message_ref.MessageRef.{MessageRef}
use Rattle.tile_requests.specs.declared.parts.Body.{Body}
use Rattle.tile_requests.specs.declared.parts.Body.TheVariants.{Borrowed, Made}
use Rattle.tile_requests.specs.declared.parts.MediaType.{MediaType}
use Rattle.tile_requests.specs.declared.parts.MediaType.TheVariants.{Ppm, Png, Xml, Json, Plain}
use Rattle.tile_requests.specs.declared.parts.LentResponse.{LentResponse}
use Rattle.tile_requests.specs.declared.parts.BodyHeaders.{BodyHeaders}
use Rattle.tile_requests.specs.declared.parts.BodyHeaders.TheVariants as headers
use Rattle.tile_requests.specs.Response.{ResponseParts, composite_headers, tile_headers}

-- a message whose parts are borrowed; it counts as not the last of its connection
abbrev pub shown_message : MessageRef → Message
shown_message message = record { method = message.method; target = message.target.now; body = message.body.now; last = false }

-- RESPONSES

abbrev pub media_type_name : MediaType → List ℕ
media_type_name Ppm = codes "image/x-portable-pixmap"
media_type_name Png = codes "image/png"
media_type_name Xml = codes "text/xml"
media_type_name Json = codes "application/json"
media_type_name Plain = codes "text/plain"

-- nothing where no type is given
abbrev pub media_type_text : Option MediaType → List ℕ
media_type_text None = []
media_type_text (Some media_type) = media_type_name media_type

-- the headers of a tile or of a composite, where the body is one
abbrev pub headers_text : BodyHeaders → List ℕ
headers_text headers.Plain = []
headers_text (headers.Tile tile) = tile_headers tile.hit tile.number
headers_text (headers.Composite numbers) = composite_headers numbers.now.items

-- a body, wherever it lies
abbrev pub body_text : Body → List ℕ
body_text (Borrowed bytes) = bytes.now
body_text (Made bytes) = bytes.items

-- the parts of a response
abbrev pub shown_parts : LentResponse → ResponseParts
shown_parts p = record { status = p.status; media_type = media_type_text p.media_type; headers = headers_text p.headers; body = body_text p.body }
