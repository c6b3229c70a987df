-- A session over a link, held by a cabinet.
use Rattle.std.specs.Prelude.{ℕ, ◌≡◌, ◌⊎◌, false, List, [], ◌∷◌, ◌++◌, flat_map, length, Option}
use Rattle.std.specs.Io.KnownBytes.{Appends, prepend_known}
use Rattle.cabinet.specs.State.{State}
use Rattle.base.specs.Causes.{Rose}
use Rattle.http_wire.specs.declared.message.Message.{Message}
use Rattle.http_wire.specs.declared.message.Stop.TheVariants as stop
use Rattle.http_wire.specs.Messages.{HoldsMessage}
use Rattle.http_wire.specs.Streams.{StandIn}
use Rattle.sessions.specs.declared.session.SessionEnd.{SessionEnd}
use Rattle.sessions.specs.declared.session.SessionEnd.TheVariants.{Closed, Truncated, Bad, ReadFault, WriteFault, TooMany, OutOfMemory}
use Rattle.sessions.specs.Outside.{InputChange, Outside, OutputChange, output_in}
use Rattle.sessions.specs.Responses.{bad_text}
use Rattle.sessions.specs.SessionEnds.{Ends, GoBefore, GoOn, IsClosed, StopsThere}
use Rattle.tile_requests.specs.Sent.{AppendsPart}
use Rattle.tile_service.specs.Passing.{AfterMessages}
use Rattle.tile_service.specs.Run.{Answer}
use Rattle.tile_service.specs.Session.{IsSessionServed, reply_text, responses}

-- A session was held over a link, by a cabinet that came from s to t. Its messages stand at the front of the bytes that were
-- left, where modelled; after them stand bytes that were taken from the link too early, and those that are left now.
pub record HasSession (i : InputChange) (o : Outside) (document : List ℕ) (s t : State) (end : SessionEnd) : Type 0 where
  pub messages : List Message
  pub answers : List Answer
  pub held : List ℕ
  pub stand : StandIn i.from messages (prepend_known held i.to)
  pub served : IsSessionServed o.told o.renders o.disk document s t messages answers
  pub ends : Ends i (output_in o) messages (responses document answers) held (prepend_known held i.to) end

-- such a session, with P of the cabinet after each of its messages
abbrev pub HasSessionThrough : (State → Type 0) → InputChange → Outside → List ℕ → State → State → SessionEnd → Type 0
HasSessionThrough P i o document s t end = (h : HasSession i o document s t end) × AfterMessages P document s h.messages h.served.chances

-- THE END BY THE ANSWERS. `Ends` speaks of the texts of responses, whoever serves; of a cabinet's session the same is so said of its
-- answers.

-- what a session writes
abbrev pub replies : List ℕ → List Answer → List ℕ
replies document answers = flat_map (reply_text document) answers

-- What went out whole, and the response of which only a part did: that to the last message after those to all before it, or that
-- to bytes that are no message after those to all messages.
abbrev pub IsCutOffIn : List ℕ → List Message → List Answer → List ℕ → Option (List ℕ) → List ℕ → List ℕ → Type 0
IsCutOffIn document messages answers held rest whole part =
    ((m : Message) × GoBefore messages held m × (before : List Answer) × (answer : Answer) × (answers ≡ before ++ answer ∷ []) × (whole ≡ replies document before) × (part ≡ reply_text document answer))
    ⊎ ((status : ℕ) × GoOn messages × StopsThere rest (stop.Bad status) × (whole ≡ replies document answers) × (part ≡ bad_text status))

-- how a session ended after these messages, which have these answers
abbrev pub EndsIn : InputChange → OutputChange → List ℕ → List Message → List Answer → List ℕ → Option (List ℕ) → SessionEnd → Type 0
EndsIn i o document messages answers held rest Closed = IsClosed messages held rest × Appends o.from o.to (replies document answers)
EndsIn i o document messages answers held rest Truncated = GoOn messages × StopsThere rest stop.Truncated × Appends o.from o.to (replies document answers)
EndsIn i o document messages answers held rest (Bad status) = GoOn messages × StopsThere rest (stop.Bad status) × Appends o.from o.to (replies document answers ++ bad_text status)
EndsIn i o document messages answers held rest TooMany = (m : Message) × GoBefore messages held m × (m.last ≡ false) × (length messages ≡ 10000) × Appends o.from o.to (replies document answers)
EndsIn i o document messages answers held rest ReadFault = GoOn messages × ¬ (HoldsMessage held) × Rose i.reads.before i.reads.after × Appends o.from o.to (replies document answers)
EndsIn i o document messages answers held rest OutOfMemory = GoOn messages × Appends o.from o.to (replies document answers)
EndsIn i o document messages answers held rest WriteFault = (whole : List ℕ) × (part : List ℕ) × IsCutOffIn document messages answers held rest whole part × Rose o.writes.before o.writes.after × AppendsPart o.from o.to whole part
