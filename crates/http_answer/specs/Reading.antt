-- What a reader of an answer holds of the bytes that came, and what its calls come to.
use Rattle.std.specs.Prelude.{ℕ, ◌≡◌, ◌≤◌, ◌⊎◌, List, length, take, drop, false, true, Result, Ok, Err, ⊤, Vec}
use Rattle.std.specs.declared.alloc.Global.{Global}
use Rattle.http_answer.specs.Heads.{IsGood}
use Rattle.http_answer.specs.Chunks.{AreChunks}
use Rattle.http_answer.specs.Unchunking.{IsWithin}
use Rattle.http_answer.specs.Answers.{IsAnswer, IsWaiting, EndsWithStream, IsFault}
use Rattle.http_answer.specs.declared.answer.HttpAnswer.{HttpAnswer}
use Rattle.http_answer.specs.declared.answer.AnswerSoFar.{AnswerSoFar}
use Rattle.http_answer.specs.declared.answer.AnswerSoFar.TheVariants.{More, Whole}
use Rattle.http_answer.specs.declared.answer.AnswerError.{AnswerError}
use Rattle.http_answer.specs.declared.answer.AnswerError.TheVariants.{Refused, OutOfMemory}
use Rattle.http_answer.specs.declared.fault.AnswerFault.{AnswerFault}
use Rattle.http_answer.specs.declared.fields.Framing.TheVariants as framings
use Rattle.http_answer.specs.declared.stage.ReadStage.{ReadStage}
use Rattle.http_answer.specs.declared.stage.ReadStage.TheVariants.{Head, Counted, ToEnd, Chunks}
use Rattle.http_answer.specs.declared.unchunking.Cursor.{Cursor}

-- the data of the chunks that came stand at the front, and what follows them from a place on
pub record IsUnchunked (bytes : List ℕ) (c : Cursor) (came : List ℕ) : Type 0 where
  pub text : List ℕ
  pub head : IsGood came framings.Chunked text
  pub chunks : AreChunks text (take c.to bytes) (drop c.at bytes)
  pub within : IsWithin (length bytes) c
  pub count : length bytes ≡ length came

-- the bytes are those that came, and so many of them from a place on are the body
abbrev pub IsCounted : List ℕ → ℕ → ℕ → List ℕ → Type 0
IsCounted bytes start size came = (bytes ≡ came) × (start ≤ length bytes) × IsGood came (framings.Length size) (drop start came)

-- the bytes are held that came, read as far as the stage says
abbrev pub IsAt : List ℕ → ReadStage → List ℕ → Type 0
IsAt bytes Head came = bytes ≡ came
IsAt bytes (Counted start size) came = IsCounted bytes start size came
IsAt bytes (ToEnd start) came = (bytes ≡ came) × (start ≤ length bytes) × IsGood came framings.ToEnd (drop start came)
IsAt bytes (Chunks c) came = IsUnchunked bytes c came

-- the bytes that came are no whole answer, unless the stream ends
abbrev pub Waits : ReadStage → List ℕ → Type 0
Waits Head came = IsWaiting came
Waits (Counted start size) came = IsWaiting came
Waits (ToEnd start) came = ⊤
Waits (Chunks c) came = IsWaiting came

-- these bytes came, and are no whole answer unless the stream ends
pub record IsReading (a : HttpAnswer) (came : List ℕ) : Type 0 where
  pub at : IsAt a.bytes.items a.stage came
  pub waits : Waits a.stage came

-- what is told of the bytes that came, where the stream didn't end
abbrev pub Goes : ℕ → List ℕ → Result AnswerSoFar AnswerFault → Type 0
Goes limit came (Ok (More a)) = IsReading a came × (a.limit ≡ limit) × (IsWaiting came ⊎ EndsWithStream came)
Goes limit came (Ok (Whole body)) = IsAnswer came false body.items
Goes limit came (Err fault) = IsFault limit came false fault

-- the same, where memory may run out: no more bytes are taken than the limit
abbrev pub Takes : ℕ → List ℕ → Result AnswerSoFar AnswerError → Type 0
Takes limit came (Ok taken) = (length came ≤ limit) × Goes limit came (Ok taken)
Takes limit came (Err (Refused fault)) = Goes limit came (Err fault)
Takes limit came (Err OutOfMemory) = ⊤

-- what is told of the bytes that came, where the stream ended
abbrev pub Ends : ℕ → List ℕ → Result (Vec ℕ Global) AnswerFault → Type 0
Ends limit came (Ok body) = IsAnswer came true body.items
Ends limit came (Err fault) = IsFault limit came true fault
