-- The messages of a session over a hall and a board, each with what it came to.
use Rattle.std.specs.Prelude.{ℕ, ◌≡◌, ◌+◌, Bool, List, [], ◌∷◌, map, flat_map, Option}
use Rattle.cabinet_chest.specs.declared.shown.Note.{Note}
use Rattle.catalog.specs.declared.catalogue.Catalogue.{Catalogue}
use Rattle.base.specs.Causes.{Rose}
use Rattle.http_wire.specs.declared.message.Message.{Message}
use Rattle.job_board.specs.Calls.{BoardHolding}
use Rattle.layer_recipes.specs.declared.book.RecipeBook.{RecipeBook}
use Rattle.source_render.specs.Renders.{GoesOn, Renders}
use Rattle.truncation_list.specs.declared.book.FrontedBook.{FrontedBook}
use Rattle.turnstile.specs.declared.view.Made.{Made}
use Rattle.cache_access.specs.Sourced.{AreFromSource}
use Rattle.cache_access.specs.Turned.{AreTurns}
use Rattle.tile_requests.specs.declared.outcome.Outcome.{Outcome}
use Rattle.tile_requests.specs.declared.outcome.Outcome.TheVariants as outcome
use Rattle.tile_requests.specs.declared.request.Request.{Request}
use Rattle.tile_requests.specs.Requests.{answered_at}
use Rattle.tile_requests.specs.Routes.{spelling_of}
use Rattle.tile_service.specs.Run.{Answer}
use Rattle.tile_service.specs.Serving.{answer_to}
use Rattle.hall_sessions.specs.Served.{IsMessageServed}

-- a message, what it asked for by the table of paths (none where it is for jobs or for a composite, or no memory was left to read it), the turns that were
-- made for it at the cabinet, its outcome, and whether memory was left for the text of its response; before it and after it the
-- book that the pass had seen, the pass of the board, and what the source had done
pub record HallExchange : Type 0 where
  pub message : Message
  pub request : Option Request
  pub gained : List (Made Note)
  pub came_to : Outcome
  pub left : Bool
  pub seen : FrontedBook
  pub sees : FrontedBook
  pub board_before : BoardHolding
  pub board_after : BoardHolding
  pub renders_before : Renders
  pub renders_after : Renders

-- the answer to a message at its place in the session, counted from 1
abbrev pub answer_of : ℕ → HallExchange → Answer
answer_of i e = answer_to i e.message e.request 0 (answered_at (spelling_of e.message) e.left e.came_to)

-- the answers, of which the first is that to the message at this place
abbrev pub answers_of : ℕ → List HallExchange → List Answer
answers_of i [] = []
answers_of i (e ∷ es) = answer_of i e ∷ answers_of (i + 1) es

abbrev pub messages_of : List HallExchange → List Message
messages_of es = map (λ e. e.message) es

-- all turns that were made at the cabinet
abbrev pub turns_of : List HallExchange → List (Made Note)
turns_of es = flat_map (λ e. e.gained) es

-- the message was served by these turns, and its outcome says that the source failed only where its count rose; each blob that the turns
-- handed in is cut out of an image that the source had given by then for its ticket
pub record IsExchange (c : Catalogue) (recipes : RecipeBook) (told : Bool) (e : HallExchange) : Type 0 where
  pub served : IsMessageServed c e.renders_after.gave recipes told e.seen e.message e.request e.gained e.board_before e.board_after e.came_to
  pub turns : AreTurns c told e.seen e.gained e.sees
  pub from_source : AreFromSource c e.renders_after.gave e.gained
  pub goes_on : GoesOn e.renders_before e.renders_after
  pub cause : e.came_to ≡ outcome.SourceFailed → Rose e.renders_before.failures e.renders_after.failures

-- one after the other: the pass had seen one book at first and sees the other one at last, and the board's pass and what the source had
-- done went from one to another
abbrev pub AreExchanges : Catalogue → RecipeBook → Bool → FrontedBook → BoardHolding → Renders → List HallExchange → FrontedBook → BoardHolding → Renders → Type 0
AreExchanges c recipes told seen board renders [] sees board_after after = (sees ≡ seen) × (board_after ≡ board) × (after ≡ renders)
AreExchanges c recipes told seen board renders (e ∷ es) sees board_after after =
    (e.seen ≡ seen) × (e.board_before ≡ board) × (e.renders_before ≡ renders) × IsExchange c recipes told e × AreExchanges c recipes told e.sees e.board_after e.renders_after es sees board_after after
