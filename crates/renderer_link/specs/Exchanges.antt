-- What an exchange with a renderer comes to.
use Rattle.std.specs.Io.KnownBytes.{Consumes, IsAtEnd}
use Rattle.std.specs.Prelude.{ℕ, ◌≡◌, ◌⊎◌, List, Bool, true, false, Option, Result, Ok, Err, Vec, ⊤}
use Rattle.std.specs.declared.alloc.Global.{Global}
use Rattle.base.specs.Causes.{Rose}
use Rattle.http_answer.specs.Answers.{IsAnswer, IsFault}
use Rattle.http_answer.specs.Reading.{IsReading}
use Rattle.http_answer.specs.declared.answer.AnswerSoFar.{AnswerSoFar}
use Rattle.http_answer.specs.declared.answer.AnswerSoFar.TheVariants.{More, Whole}
use Rattle.renderer_link.specs.declared.exchange.ExchangeFault.{ExchangeFault}
use Rattle.renderer_link.specs.declared.exchange.ExchangeFault.TheVariants.{Link, Answer, OutOfMemory}

-- these bytes were taken from the front of those that were left; `ended` says that none is left behind them
pub record HasCome (before after : Option (List ℕ)) (came : List ℕ) (ended : Bool) : Type 0 where
  pub bytes : Consumes before after came
  pub at_end : ended ≡ true → IsAtEnd after

-- what was taken is an answer of status 200 with this body, or it is refused for this reason
abbrev pub Receives : ℕ → Option (List ℕ) → Option (List ℕ) → Result (Vec ℕ Global) ExchangeFault → Type 0
Receives limit before after (Ok body) = (came : List ℕ) × (ended : Bool) × HasCome before after came ended × IsAnswer came ended body.items
Receives limit before after (Err (Answer fault)) = (came : List ℕ) × (ended : Bool) × HasCome before after came ended × IsFault limit came ended fault
Receives limit before after (Err Link) = ⊤
Receives limit before after (Err OutOfMemory) = ⊤

-- the exchange failed for the link only where a take or a put of it failed
abbrev pub HasLinkCause : ℕ → ℕ → ℕ → ℕ → Result (Vec ℕ Global) ExchangeFault → Type 0
HasLinkCause takes_before takes_after puts_before puts_after result = result ≡ Err Link → Rose takes_before takes_after ⊎ Rose puts_before puts_after

-- what is told of the bytes that came, where the stream ended
abbrev pub EndsSo : ℕ → List ℕ → Result (Vec ℕ Global) ExchangeFault → Type 0
EndsSo limit came (Ok body) = IsAnswer came true body.items
EndsSo limit came (Err (Answer fault)) = IsFault limit came true fault
EndsSo limit came (Err Link) = ⊥
EndsSo limit came (Err OutOfMemory) = ⊥

-- the same, where it didn't
abbrev pub TakesSo : ℕ → List ℕ → Result AnswerSoFar ExchangeFault → Type 0
TakesSo limit came (Ok (More answer)) = IsReading answer came × (answer.limit ≡ limit)
TakesSo limit came (Ok (Whole body)) = IsAnswer came false body.items
TakesSo limit came (Err (Answer fault)) = IsFault limit came false fault
TakesSo limit came (Err Link) = ⊥
TakesSo limit came (Err OutOfMemory) = ⊤
