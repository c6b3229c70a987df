-- The bytes of answers: responses after HTTP/1.1 (RFC 9112), the exception report of OWS Common 1.1 (OGC 06-121r3), and PNG (W3C, Portable
-- Network Graphics, second edition).
use Rattle.std.specs.Prelude.{ℕ, Bool, if◌then◌else◌, ◌==◌, ◌||◌, List, [], ◌∷◌, ◌++◌, length, Option, Some, None, codes, decimal, flat_map}
use Rattle.exception_report.specs.declared.code.Code.TheVariants.{NoApplicableCode}
use Rattle.exception_report.specs.declared.code.Locator.TheVariants.{Nowhere}
use Rattle.exception_report.specs.Report.{report_of}
use Rattle.exception_report.specs.Status.{status_of}
use Rattle.http_wire.specs.declared.message.Message.{Message}
use Rattle.job_forms.specs.declared.fault.JobFault.{JobFault}
use Rattle.job_forms.specs.declared.fault.JobFault.TheVariants.{NotJson, Missing, Bad, Limit, OutOfMemory}
use Rattle.job_forms.specs.declared.fault.JobField.{JobField}
use Rattle.job_forms.specs.declared.fault.JobField.TheVariants as field
use Rattle.tile_requests.specs.declared.outcome.Outcome.{Outcome}
use Rattle.tile_requests.specs.declared.outcome.Outcome.TheVariants.{Tile, Document, Refused, SourceFailed, Usage, Cut, Unformed, Dropped, Job, Composite, Plain}
use Rattle.tile_requests.specs.declared.outcome.Plain as constant
use Rattle.tile_requests.specs.declared.outcome.Plain.TheVariants.{NotFound, WrongMethod, Spent, CutsFull, CutSpent, Within, BoardFull, DiskFault, NoMemory}
use Rattle.tile_png.specs.Reading.{png_of_tile}
use Rattle.tile_requests.specs.declared.spelling.Spelling.{Spelling}
use Rattle.tile_requests.specs.declared.spelling.Spelling.TheVariants.{Ppm, Png}
use Rattle.tile_requests.specs.Routes.{spelling_of}
use Rattle.tile_requests.specs.Texts.{within_text}

-- THE PARTS OF A RESPONSE

-- its status, the type of its body, the headers beside those of every response, and its body
pub record ResponseParts : Type 0 where
  pub status : ℕ
  pub media_type : List ℕ
  pub headers : List ℕ
  pub body : List ℕ

-- a body of a type
abbrev pub typed : ℕ → List ℕ → List ℕ → ResponseParts
typed status media_type body = record { status = status; media_type = media_type; headers = []; body = body }

-- a status alone
abbrev pub bare : ℕ → ResponseParts
bare status = typed status [] []

-- a JSON text (RFC 8259)
abbrev pub json : ℕ → List ℕ → ResponseParts
json status body = typed status (codes "application/json") body

-- THE HEAD

-- a status and its phrase (RFC 9110, section 15)
abbrev pub status_text : ℕ → List ℕ
status_text status =
    if status == 200 then codes "200 OK" else
    (if status == 400 then codes "400 Bad Request" else
    (if status == 404 then codes "404 Not Found" else
    (if status == 405 then codes "405 Method Not Allowed" else
    (if status == 409 then codes "409 Conflict" else
    (if status == 413 then codes "413 Payload Too Large" else
    (if status == 431 then codes "431 Request Header Fields Too Large" else
    (if status == 501 then codes "501 Not Implemented" else
    (if status == 503 then codes "503 Service Unavailable" else
    codes "500 Internal Server Error"))))))))

-- the header of the body's type, where there is a body
abbrev pub type_header : List ℕ → List ℕ → List ℕ
type_header media_type [] = []
type_header media_type (b ∷ bs) = codes "Content-Type: " ++ media_type ++ codes "\r\n"

abbrev pub cache_result : Bool → List ℕ
cache_result hit = if hit then codes "HIT" else codes "MISS"

-- the headers of a tile
abbrev pub tile_headers : Bool → ℕ → List ℕ
tile_headers hit number = codes "geowebcache-cache-result: " ++ cache_result hit ++ codes "\r\ntile-render: " ++ decimal number ++ codes "\r\n"

-- numbers with commas between them
abbrev pub joined : List ℕ → List ℕ
joined [] = []
joined (n ∷ ns) = decimal n ++ flat_map (λ k. codes "," ++ decimal k) ns

-- the header of a composite: the numbers of the renders of its parts, in their order
abbrev pub composite_headers : List ℕ → List ℕ
composite_headers numbers = codes "composite-renders: " ++ joined numbers ++ codes "\r\n"

-- the header that closes a connection
abbrev pub close_header : Bool → List ℕ
close_header closes = if closes then codes "Connection: close\r\n" else []

-- the status line and the headers in order, up to the empty line
unfoldable pub head_text : Bool → ResponseParts → List ℕ
head_text closes p =
    codes "HTTP/1.1 " ++ status_text p.status ++ codes "\r\n" ++ type_header p.media_type p.body ++ codes "Content-Length: " ++ decimal (length p.body) ++ codes "\r\n" ++ p.headers ++ close_header closes ++ codes "\r\n"

-- THE RESPONSE

-- the head, and then the body
abbrev pub response_text : Bool → ResponseParts → List ℕ
response_text closes p = head_text closes p ++ p.body

-- THE RESPONSE TO A REQUEST

-- the number of a truncation
abbrev pub cut_text : ℕ → List ℕ
cut_text number = codes "{\"cut\":" ++ decimal number ++ codes "}\n"

-- the kind of a fault of a cover's text; out of memory is never one, and is answered otherwise
abbrev pub fault_kind : JobFault → List ℕ
fault_kind NotJson = codes "not json"
fault_kind (Missing field) = codes "missing"
fault_kind (Bad field) = codes "bad"
fault_kind (Limit field) = codes "limit"
fault_kind OutOfMemory = codes "out of memory"

-- how a member is spelt
abbrev pub spelt : JobField → List ℕ
spelt field.Layer = codes "Layer"
spelt field.Grid = codes "Grid"
spelt field.ZoomStart = codes "ZoomStart"
spelt field.ZoomStop = codes "ZoomStop"
spelt field.Bounds = codes "Bounds"
spelt field.Format = codes "Format"
spelt field.Style = codes "Style"
spelt field.Dimensions = codes "Dimensions"
spelt field.Kind = codes "Kind"
spelt field.Threads = codes "Threads"

-- the member of a fault, or nothing where it names none
abbrev pub field_of : JobFault → List ℕ
field_of NotJson = []
field_of (Missing f) = spelt f
field_of (Bad f) = spelt f
field_of (Limit f) = spelt f
field_of OutOfMemory = []

-- what is wrong with the text of a cover
abbrev pub fault_text : List ℕ → List ℕ → List ℕ
fault_text kind field = codes "{\"fault\":\"" ++ kind ++ codes "\",\"field\":\"" ++ field ++ codes "\"}\n"

-- the parts of a response that is the same whatever was asked for
abbrev pub plain_parts : constant.Plain → ResponseParts
plain_parts NotFound = bare 404
plain_parts WrongMethod = bare 405
plain_parts Spent = typed 500 (codes "text/plain") (codes "numbers spent\n")
plain_parts CutsFull = json 409 (codes "{\"fault\":\"cuts full\"}\n")
plain_parts CutSpent = json 500 (codes "{\"fault\":\"numbers spent\"}\n")
plain_parts Within = json 200 within_text
plain_parts BoardFull = json 409 (codes "{\"fault\":\"board full\"}\n")
plain_parts DiskFault = json 500 (codes "{\"fault\":\"disk\"}\n")
plain_parts NoMemory = bare 503

-- a tile, or a picture of it, with these headers
abbrev pub pictured : List ℕ → List ℕ → List ℕ → ResponseParts
pictured media_type headers body = record { status = 200; media_type = media_type; headers = headers; body = body }

-- an encoded tile as it is
abbrev pub as_it_is : List ℕ → List ℕ → ResponseParts
as_it_is headers text = pictured (codes "image/x-portable-pixmap") headers text

-- a tile as PNG. Its text is a pixmap, unless bytes of it were changed where it is kept: then it is answered as it is
abbrev pub png_parts : List ℕ → List ℕ → Option (List ℕ) → ResponseParts
png_parts headers text (Some png) = pictured (codes "image/png") headers png
png_parts headers text None = as_it_is headers text

-- a tile as it is to be spelt
abbrev pub tile_parts : Spelling → List ℕ → List ℕ → ResponseParts
tile_parts Ppm headers text = as_it_is headers text
tile_parts Png headers text = png_parts headers text (png_of_tile text)

-- the parts of the response to a request with this outcome, where this is the capabilities document, and a tile is to be spelt so
abbrev pub parts_of : List ℕ → Spelling → Outcome → ResponseParts
parts_of document spelling (Tile hit number text) = tile_parts spelling (tile_headers hit number) text
parts_of document spelling Document = typed 200 (codes "text/xml") document
parts_of document spelling (Refused code locator) = typed (status_of code) (codes "text/xml") (report_of code locator)
parts_of document spelling SourceFailed = typed 500 (codes "text/xml") (report_of NoApplicableCode Nowhere)
parts_of document spelling (Usage text) = typed 200 (codes "text/plain") text
parts_of document spelling (Cut number) = json 200 (cut_text number)
parts_of document spelling (Unformed fault) = json 400 (fault_text (fault_kind fault) (field_of fault))
parts_of document spelling (Dropped text) = json 200 text
parts_of document spelling (Job text) = json 200 text
parts_of document spelling (Composite numbers text) = tile_parts spelling (composite_headers numbers.items) text
parts_of document spelling (Plain p) = plain_parts p

-- the bytes of that response, which closes its connection or does not
abbrev pub response_with : List ℕ → Spelling → Bool → Outcome → List ℕ
response_with document spelling closes o = response_text closes (parts_of document spelling o)

-- a response closes its connection where its message is the last of it or the 10,000th of its session
abbrev pub closes : Message → ℕ → Bool
closes message i = message.last || i == 10000

-- the response to the i-th message of a session, counted from 1, by the outcome
abbrev pub response : List ℕ → Message → ℕ → Outcome → List ℕ
response document message i o = response_with document (spelling_of message) (closes message i) o

-- ANSWERS OF A SCHEDULE

-- the line that stands before a response: the answered line, its actor, the line of its start, and the response's length
abbrev pub answer_line : ℕ → ℕ → ℕ → ℕ → List ℕ
answer_line line actor start bytes = codes "answer " ++ decimal line ++ codes " " ++ decimal actor ++ codes " " ++ decimal start ++ codes " " ++ decimal bytes ++ codes "\n"

-- a response after its line
abbrev pub framed : ℕ → ℕ → ℕ → List ℕ → List ℕ
framed line actor start text = answer_line line actor start (length text) ++ text

-- an answer of a schedule: each message counts as the first of its session
abbrev pub answered : List ℕ → ℕ → ℕ → ℕ → Message → Outcome → List ℕ
answered document line actor start message o = framed line actor start (response document message 1 o)
