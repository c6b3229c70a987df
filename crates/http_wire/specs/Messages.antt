-- The messages of a stream of bytes, and how it stops where none stands at its front.
-- A message is a request head of HTTP/1.0 or 1.1 (RFC 9112, sections 2 to 5), as `httparse` reads it, of at most 16,384
-- bytes and 64 fields, and as many bytes of body as its Content-Length says. Empty lines before a head count to its bytes.
use Rattle.std.specs.Prelude.{◌≡◌, ℕ, ◌<◌, ◌≤◌, ◌⊎◌, ◌||◌, ◌==◌, List, [], ◌++◌, length, take, Bool, true, false, map, Option, Some, None, IsSome, if◌then◌else◌, codes}
use Rattle.std.specs.List.{list_any}
use Rattle.std.specs.Str.{bytes_eq}
use Rattle.httparse.specs.Grammar.{RequestHead, print_request, ReadsRequest, HasNoRequest, NeverHasRequest, MayBecomeRequest}
use Rattle.httparse.specs.Spans.{RequestExceeds, name_and_value}
use Rattle.http_wire.specs.Fields.{has_named, values, said_length, content_length, transfer_encoding, says_close}
use Rattle.http_wire.specs.declared.message.Method.{Method}
use Rattle.http_wire.specs.declared.message.Method.TheVariants.{Get, Post, Delete, Other}
use Rattle.http_wire.specs.declared.message.Message.{Message}
use Rattle.http_wire.specs.declared.message.Stop.{Stop}
use Rattle.http_wire.specs.declared.message.Stop.TheVariants.{End, Truncated, Bad}

-- the names and values of a head's fields
abbrev pub fields_of : RequestHead → List (List ℕ × List ℕ)
fields_of head = map name_and_value head.fields

-- the method that a token names; methods have a case
abbrev pub method_of : List ℕ → Method
method_of name =
    if bytes_eq name (codes "GET") then Get else if bytes_eq name (codes "POST") then Post else if bytes_eq name (codes "DELETE") then Delete else Other

-- the version is 1.0, or a Connection field says close
abbrev pub is_last : RequestHead → Bool
is_last head = (head.minor == 0) || list_any says_close (fields_of head)

-- how long the body is, where the head says it rightly
abbrev pub body_length : RequestHead → Option ℕ
body_length head = said_length (values content_length (fields_of head))

-- there is a Transfer-Encoding field
abbrev pub is_coded : RequestHead → Bool
is_coded head = has_named transfer_encoding (fields_of head)

-- The bytes begin with a head within the limits, and go on with rest.
pub record BeginsWith (bytes : List ℕ) (head : RequestHead) (rest : List ℕ) : Type 0 where
  pub reads : ReadsRequest bytes head rest
  pub short : length (print_request head) ≤ 16384
  pub few : length head.fields ≤ 64

-- A message stands at the front of the bytes, and rest follows it.
pub record IsNext (bytes : List ℕ) (message : Message) (rest : List ℕ) : Type 0 where
  pub head : RequestHead
  pub begins : BeginsWith bytes head (message.body ++ rest)
  pub said : body_length head ≡ Some (length message.body)
  pub plain : is_coded head ≡ false
  pub bounded : length message.body ≤ 65536
  pub method : message.method ≡ method_of head.method
  pub target : message.target ≡ head.target
  pub ends : message.last ≡ is_last head

-- a whole message stands at the front of the bytes
abbrev pub HoldsMessage : List ℕ → Type 0
HoldsMessage bytes = (message : Message) × (rest : List ℕ) × IsNext bytes message rest

-- the bytes that a head may take
abbrev pub front : List ℕ → List ℕ
front bytes = take 16384 bytes

-- no continuation of them begins with a head
abbrev pub IsHopeless : List ℕ → Type 0
IsHopeless bytes = NeverHasRequest (front bytes)

-- they hold no whole head, and more bytes can make one; a target may still wait for its end
pub record IsUnfinished (bytes : List ℕ) : Type 0 where
  pub none : HasNoRequest (front bytes)
  pub may_become : MayBecomeRequest (front bytes)

-- 400 Bad Request
abbrev pub IsBadRequest : List ℕ → Type 0
IsBadRequest bytes = IsHopeless bytes ⊎ ((head : RequestHead) × (rest : List ℕ) × BeginsWith bytes head rest × (body_length head ≡ None))

-- 431 Request Header Fields Too Large
abbrev pub IsTooLongHead : List ℕ → Type 0
IsTooLongHead bytes = ((16384 ≤ length bytes) × IsUnfinished bytes) ⊎ RequestExceeds 64 (front bytes)

-- 501 Not Implemented, where neither of these stands
abbrev pub IsNotImplemented : List ℕ → Type 0
IsNotImplemented bytes = (head : RequestHead) × (rest : List ℕ) × BeginsWith bytes head rest × IsSome (body_length head) × (is_coded head ≡ true)

-- 413 Payload Too Large, where none of these stands
abbrev pub IsTooLongBody : List ℕ → Type 0
IsTooLongBody bytes = (head : RequestHead) × (rest : List ℕ) × (size : ℕ) × BeginsWith bytes head rest × (body_length head ≡ Some size) × (is_coded head ≡ false) × (65536 < size)

-- the bytes are no message, for the reason that the status gives
abbrev pub IsBad : List ℕ → ℕ → Type 0
IsBad bytes status =
    ((status ≡ 400) × IsBadRequest bytes)
    ⊎ ((status ≡ 431) × IsTooLongHead bytes)
    ⊎ ((status ≡ 501) × IsNotImplemented bytes)
    ⊎ ((status ≡ 413) × IsTooLongBody bytes)

-- the stream ends within a head
pub record EndsInHead (bytes : List ℕ) : Type 0 where
  pub some : 0 < length bytes
  pub short : length bytes < 16384
  pub unfinished : IsUnfinished bytes

-- the stream ends within a body
pub record EndsInBody (bytes : List ℕ) : Type 0 where
  pub head : RequestHead
  pub rest : List ℕ
  pub size : ℕ
  pub begins : BeginsWith bytes head rest
  pub said : body_length head ≡ Some size
  pub plain : is_coded head ≡ false
  pub bounded : size ≤ 65536
  pub short : length rest < size

-- the stream ends within a message
abbrev pub IsTruncated : List ℕ → Type 0
IsTruncated bytes = EndsInHead bytes ⊎ EndsInBody bytes

-- how a stream of these bytes stops, where no message stands at its front
abbrev pub StopsAs : List ℕ → Stop → Type 0
StopsAs bytes End = bytes ≡ []
StopsAs bytes Truncated = IsTruncated bytes
StopsAs bytes (Bad status) = IsBad bytes status
