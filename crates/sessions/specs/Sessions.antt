-- A session over a link.
use Rattle.std.specs.Prelude.{ℕ, List}
use Rattle.std.specs.Io.KnownBytes.{prepend_known}
use Rattle.http_wire.specs.declared.message.Message.{Message}
use Rattle.http_wire.specs.Streams.{StandIn}
use Rattle.tile_requests.specs.declared.outcome.Outcome.{Outcome}
use Rattle.sessions.specs.declared.session.SessionEnd.{SessionEnd}
use Rattle.sessions.specs.Exchanges.{AreServed, Exchange, ServerStanding, messages_of, responses_of}
use Rattle.sessions.specs.Outside.{InputChange, OutputChange}
use Rattle.sessions.specs.SessionEnds.{Ends}

-- A session was held over a link, by who serves messages so, from one standing to another. Its messages stand at the front of the bytes
-- that were left, where modelled, and were served one after the other; after them stand bytes that were taken from the link too early,
-- and those that are left now. Their responses, of a service with this document, went out as far as the end says.
pub record IsHeld {Cache Jobs : Type 0} (Serves : Message → Outcome → ServerStanding Cache Jobs → ServerStanding Cache Jobs → Type 0) (i : InputChange) (o : OutputChange) (document : List ℕ) (before after : ServerStanding Cache Jobs) (end : SessionEnd) : Type 0 where
  pub exchanges : List (Exchange Cache Jobs)
  pub held : List ℕ
  pub stand : StandIn i.from (messages_of exchanges) (prepend_known held i.to)
  pub served : AreServed Serves before exchanges after
  pub ends : Ends i o (messages_of exchanges) (responses_of document 1 exchanges) held (prepend_known held i.to) end
