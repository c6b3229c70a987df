-- The head of an answer (RFC 9112, sections 2 to 5), as `httparse` reads it, of at most 16,384 bytes and 64 fields. Empty lines before
-- it count to its bytes.
use Rattle.std.specs.Prelude.{◌≡◌, ◌≢◌, ℕ, ◌<◌, ◌≤◌, List, length, take, drop, map, Option, Some, None, Result, Ok, Err}
use Rattle.httparse.specs.Grammar.{ResponseHead, print_response, ReadsResponse, HasNoResponse, NeverHasResponse, MayBecomeResponse, status_code}
use Rattle.httparse.specs.Spans.{ResponseExceeds, IsResponseOf, IsResponseWithin, name_and_value}
use Rattle.httparse.specs.declared.spans.HeaderSpan.{HeaderSpan}
use Rattle.http_answer.specs.Fields.{field_framing}
use Rattle.http_answer.specs.declared.fault.Misframed.{Misframed}
use Rattle.http_answer.specs.declared.fault.AnswerFault.{AnswerFault}
use Rattle.http_answer.specs.declared.fault.AnswerFault.TheVariants.{NotHttp, TooManyFields, HeadTooLong, Status, Framing, BrokenChunk, TooLong, CutOff}
use Rattle.http_answer.specs.declared.fields.Framing.{Framing as Framed}
use Rattle.http_answer.specs.declared.head.Head.{Head}
use Rattle.http_answer.specs.declared.head.HeadLook.{HeadLook}
use Rattle.http_answer.specs.declared.head.HeadLook.TheVariants.{Whole, Unfinished, Hopeless, TooMany}

-- the bytes that a head may take
abbrev pub front : List ℕ → List ℕ
front bytes = take 16384 bytes

-- the bytes begin with a head within the limits, and go on with text
pub record BeginsWith (bytes : List ℕ) (head : ResponseHead) (text : List ℕ) : Type 0 where
  pub reads : ReadsResponse bytes head text
  pub short : length (print_response head) ≤ 16384
  pub few : length head.fields ≤ 64

-- how the body ends that follows the head, or how the head says it wrongly
abbrev pub framing : ResponseHead → Result Framed Misframed
framing head = field_framing head.minor (map name_and_value head.fields)

-- the bytes begin with the head of an answer of status 200 whose body ends so, and go on with text
pub record IsGood (bytes : List ℕ) (ends : Framed) (text : List ℕ) : Type 0 where
  pub head : ResponseHead
  pub begins : BeginsWith bytes head text
  pub status : status_code head ≡ 200
  pub framed : framing head ≡ Ok ends

-- no head stands at the front yet, and more bytes can make one
pub record IsUnfinished (bytes : List ℕ) : Type 0 where
  pub none : HasNoResponse (front bytes)
  pub may_become : MayBecomeResponse (front bytes)

-- the head is refused for this reason
abbrev pub IsHeadFault : List ℕ → AnswerFault → Type 0
IsHeadFault bytes NotHttp = NeverHasResponse (front bytes)
IsHeadFault bytes TooManyFields = ResponseExceeds 64 (front bytes)
IsHeadFault bytes HeadTooLong = (16384 ≤ length bytes) × IsUnfinished bytes
IsHeadFault bytes (Status code) = (head : ResponseHead) × (text : List ℕ) × BeginsWith bytes head text × (status_code head ≡ code) × (code ≢ 200)
IsHeadFault bytes (Framing how) = (head : ResponseHead) × (text : List ℕ) × BeginsWith bytes head text × (status_code head ≡ 200) × (framing head ≡ Err how)
IsHeadFault bytes BrokenChunk = ⊥
IsHeadFault bytes TooLong = ⊥
IsHeadFault bytes CutOff = ⊥

-- what is taken of a head
pub record IsHead (bytes : List ℕ) (h : Head) : Type 0 where
  pub good : IsGood bytes h.framing (drop h.start bytes)
  pub fits : h.start ≤ length bytes

-- what a look says of the bytes, with room for so many fields
abbrev pub LooksAs : List ℕ → ℕ → List HeaderSpan → HeadLook → Type 0
LooksAs bytes room headers (Whole spans) = IsResponseOf bytes headers spans × IsResponseWithin bytes headers spans
LooksAs bytes room headers Unfinished = HasNoResponse bytes × MayBecomeResponse bytes
LooksAs bytes room headers Hopeless = NeverHasResponse bytes
LooksAs bytes room headers TooMany = ResponseExceeds room bytes

-- a head that stands there is taken, or refused
abbrev pub Frames : List ℕ → Result Head AnswerFault → Type 0
Frames bytes (Ok head) = IsHead bytes head
Frames bytes (Err fault) = IsHeadFault bytes fault

-- the same, where the head may still come
abbrev pub Heads : List ℕ → Result (Option Head) AnswerFault → Type 0
Heads bytes (Ok None) = (length bytes < 16384) × IsUnfinished bytes
Heads bytes (Ok (Some head)) = IsHead bytes head
Heads bytes (Err fault) = IsHeadFault bytes fault
