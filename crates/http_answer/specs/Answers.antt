-- What an answer is, and why bytes are none (RFC 9112, section 6.3).
use Rattle.std.specs.Prelude.{ℕ, ◌≡◌, ◌<◌, ◌⊎◌, List, ◌++◌, length, Bool, true}
use Rattle.http_answer.specs.Heads.{IsGood, IsUnfinished, IsHeadFault}
use Rattle.http_answer.specs.Chunks.{AreChunks, IsChunked, IsOpen, IsBroken}
use Rattle.http_answer.specs.declared.fault.AnswerFault.{AnswerFault}
use Rattle.http_answer.specs.declared.fault.AnswerFault.TheVariants as faults
use Rattle.http_answer.specs.declared.fields.Framing.{Framing}
use Rattle.http_answer.specs.declared.fields.Framing.TheVariants.{Length, Chunked, ToEnd}

-- the body at the front of what follows the head: so many bytes, the data of the chunks, or all, where the stream ended
abbrev pub IsBody : Bool → Framing → List ℕ → List ℕ → Type 0
IsBody ended (Length size) text body = (rest : List ℕ) × (text ≡ body ++ rest) × (length body ≡ size)
IsBody ended Chunked text body = (rest : List ℕ) × IsChunked text body rest
IsBody ended ToEnd text body = (ended ≡ true) × (text ≡ body)

-- the bytes are an answer of status 200 with this body; `ended` says that the stream ended behind them
pub record IsAnswer (bytes : List ℕ) (ended : Bool) (body : List ℕ) : Type 0 where
  pub framing : Framing
  pub text : List ℕ
  pub head : IsGood bytes framing text
  pub body_is : IsBody ended framing text body

-- the bytes are the front of an answer, and no whole one yet: in the head, in a body of so many bytes, or in one of chunks
abbrev pub IsWaiting : List ℕ → Type 0
IsWaiting bytes =
    ((length bytes < 16384) × IsUnfinished bytes)
    ⊎ ((size : ℕ) × (text : List ℕ) × IsGood bytes (Length size) text × (length text < size))
    ⊎ ((text : List ℕ) × (body : List ℕ) × (rest : List ℕ) × IsGood bytes Chunked text × AreChunks text body rest × IsOpen rest)

-- the bytes are an answer if the stream ends behind them
abbrev pub EndsWithStream : List ℕ → Type 0
EndsWithStream bytes = (text : List ℕ) × IsGood bytes ToEnd text

-- the bytes are refused for this reason
abbrev pub IsFault : ℕ → List ℕ → Bool → AnswerFault → Type 0
IsFault limit bytes ended faults.NotHttp = IsHeadFault bytes faults.NotHttp
IsFault limit bytes ended faults.TooManyFields = IsHeadFault bytes faults.TooManyFields
IsFault limit bytes ended faults.HeadTooLong = IsHeadFault bytes faults.HeadTooLong
IsFault limit bytes ended (faults.Status code) = IsHeadFault bytes (faults.Status code)
IsFault limit bytes ended (faults.Framing how) = IsHeadFault bytes (faults.Framing how)
IsFault limit bytes ended faults.BrokenChunk = (text : List ℕ) × (body : List ℕ) × (rest : List ℕ) × IsGood bytes Chunked text × AreChunks text body rest × IsBroken rest
IsFault limit bytes ended faults.TooLong = limit < length bytes
IsFault limit bytes ended faults.CutOff = (ended ≡ true) × IsWaiting bytes
