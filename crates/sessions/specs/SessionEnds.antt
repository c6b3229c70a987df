-- How a session over a link ends, and what it has sent by then.
use Rattle.std.specs.Prelude.{ℕ, ◌≡◌, ◌<◌, ◌⊎◌, true, false, List, [], ◌∷◌, ◌++◌, length, flat_map, Option, IfSome}
use Rattle.std.specs.Io.KnownBytes.{Appends}
use Rattle.std.specs.List.{AllByRecursion}
use Rattle.base.specs.Causes.{Rose}
use Rattle.http_wire.specs.declared.message.Message.{Message}
use Rattle.http_wire.specs.declared.message.Stop.{Stop}
use Rattle.http_wire.specs.declared.message.Stop.TheVariants as stop
use Rattle.http_wire.specs.Answers.{IsPartOfTake}
use Rattle.http_wire.specs.Messages.{HoldsMessage, StopsAs}
use Rattle.sessions.specs.declared.session.SessionEnd.{SessionEnd}
use Rattle.sessions.specs.declared.session.SessionEnd.TheVariants.{Closed, Truncated, Bad, ReadFault, WriteFault, TooMany, OutOfMemory}
use Rattle.sessions.specs.Outside.{InputChange, OutputChange}
use Rattle.tile_requests.specs.Sent.{AppendsPart}
use Rattle.sessions.specs.Responses.{bad_text}

-- THE MESSAGES OF A SESSION

-- none of these messages is the last of its connection
abbrev pub AreOpen : List Message → Type 0
AreOpen messages = AllByRecursion (λ m. m.last ≡ false) messages

-- after these messages the session looks for a further one: none is the last, and they are fewer than 10,000
pub record GoOn (messages : List Message) : Type 0 where
  pub all_open : AreOpen messages
  pub few : length messages < 10000

-- After these messages, of which this is the last, the session ends: it went on after each before it. No further one is looked
-- for: the bytes that were taken after the last came with it, as a part of one take.
pub record GoBefore (messages : List Message) (held : List ℕ) (last : Message) : Type 0 where
  pub before : List Message
  pub whole : messages ≡ before ++ last ∷ []
  pub go_on : GoOn before
  pub looks_no_further : IsPartOfTake held

-- where these bytes are modelled, a stream of them stops so
abbrev pub StopsThere : Option (List ℕ) → Stop → Type 0
StopsThere bytes s = IfSome bytes (λ known. StopsAs known s)

-- THE ENDS

-- the last message was answered, and the connection was to be closed, or the stream ended after the messages
abbrev pub IsClosed : List Message → List ℕ → Option (List ℕ) → Type 0
IsClosed messages held rest = ((m : Message) × GoBefore messages held m × (m.last ≡ true)) ⊎ (GoOn messages × StopsThere rest stop.End)

-- responses, one behind the other
abbrev pub all_of : List (List ℕ) → List ℕ
all_of responses = flat_map (λ r. r) responses

-- What went out whole, and the response of which only a part did: that to the last message after those to all before it, or that
-- to bytes that are no message after those to all messages.
abbrev pub IsCutOff : List Message → List (List ℕ) → List ℕ → Option (List ℕ) → List ℕ → List ℕ → Type 0
IsCutOff messages responses held rest whole part =
    ((m : Message) × GoBefore messages held m × (before : List (List ℕ)) × (responses ≡ before ++ part ∷ []) × (whole ≡ all_of before))
    ⊎ ((status : ℕ) × GoOn messages × StopsThere rest (stop.Bad status) × (whole ≡ all_of responses) × (part ≡ bad_text status))

-- How a session ended after these messages, which have these responses. After them stand the bytes that are held, then those
-- that are left: this rest of the stream. A read that failed kept no message waiting that had come whole.
abbrev pub Ends : InputChange → OutputChange → List Message → List (List ℕ) → List ℕ → Option (List ℕ) → SessionEnd → Type 0
Ends i o messages responses held rest Closed = IsClosed messages held rest × Appends o.from o.to (all_of responses)
Ends i o messages responses held rest Truncated = GoOn messages × StopsThere rest stop.Truncated × Appends o.from o.to (all_of responses)
Ends i o messages responses held rest (Bad status) = GoOn messages × StopsThere rest (stop.Bad status) × Appends o.from o.to (all_of responses ++ bad_text status)
Ends i o messages responses held rest TooMany = (m : Message) × GoBefore messages held m × (m.last ≡ false) × (length messages ≡ 10000) × Appends o.from o.to (all_of responses)
Ends i o messages responses held rest ReadFault = GoOn messages × ¬ (HoldsMessage held) × Rose i.reads.before i.reads.after × Appends o.from o.to (all_of responses)
Ends i o messages responses held rest OutOfMemory = GoOn messages × Appends o.from o.to (all_of responses)
Ends i o messages responses held rest WriteFault = (whole : List ℕ) × (part : List ℕ) × IsCutOff messages responses held rest whole part × Rose o.writes.before o.writes.after × AppendsPart o.from o.to whole part
