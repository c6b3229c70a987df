-- A session over a hall and a board.
use Rattle.std.specs.Prelude.{ℕ, ◌≡◌, List, Option}
use Rattle.std.specs.Io.KnownBytes.{prepend_known}
use Rattle.std.specs.List.{AllByRecursion}
use Rattle.catalog.specs.declared.catalogue.Catalogue.{Catalogue}
use Rattle.http_wire.specs.Streams.{StandIn}
use Rattle.job_board.specs.Calls.{BoardHolding}
use Rattle.layer_recipes.specs.declared.book.RecipeBook.{RecipeBook}
use Rattle.turnstile.specs.Passes.{seen_by}
use Rattle.cache_hall.specs.Turned.{HallPass}
use Rattle.sessions.specs.declared.session.SessionEnd.{SessionEnd}
use Rattle.sessions.specs.Outside.{FaultCounts, InputChange, OutputChange}
use Rattle.sessions.specs.SessionEnds.{Ends}
use Rattle.source_render.specs.Renders.{RenderChange}
use Rattle.tile_service.specs.Session.{responses}
use Rattle.hall_sessions.specs.Caused.{HasAnswer}
use Rattle.hall_sessions.specs.Exchanges.{AreExchanges, HallExchange, answers_of, messages_of, turns_of}

-- what a session sees of its link's output: the faults of its writes, and the bytes that it has taken
abbrev pub output_of : FaultCounts → Option (List ℕ) → Option (List ℕ) → OutputChange
output_of writes from to = record { writes = writes; from = from; to = to }

-- A session was held over a link, by a pass at a cabinet of this catalogue and a pass of a board, with these recipes. Its messages stand at the front of the
-- bytes that were left, where modelled, and were served one after the other; after them stand bytes that were taken from the link
-- too early, and those that are left now. The passes made the turns of the messages, in order, and no others; each blob that they handed in
-- is cut out of an image that the source had given by then for its ticket. Who asked for a tile got it, and each other answer has its cause.
-- The responses to the messages went out, as far as the end says.
pub record HasHallSession (i : InputChange) (o : OutputChange) (renders : RenderChange) (document : List ℕ) (c : Catalogue) (recipes : RecipeBook) (before after : HallPass) (board_before board_after : BoardHolding) (end : SessionEnd) : Type 0 where
  pub exchanges : List HallExchange
  pub held : List ℕ
  pub stand : StandIn i.from (messages_of exchanges) (prepend_known held i.to)
  pub made : after ≡ seen_by before after.book (turns_of exchanges)
  pub served : AreExchanges c recipes before.told before.book board_before renders.before exchanges after.book board_after renders.after
  pub answered : AllByRecursion (HasAnswer c recipes before.told) exchanges
  pub ends : Ends i o (messages_of exchanges) (responses document (answers_of 1 exchanges)) held (prepend_known held i.to) end
