-- What a message comes to over a hall and a board: the turns that are made for it, and the outcome that they are answered by.
use Rattle.std.specs.Prelude.{◌≡◌, ◌⊎◌, Bool, true, List, [], Option, Some, None, MatchOption}
use Rattle.cabinet_chest.specs.declared.shown.Note.{Note}
use Rattle.catalog.specs.declared.catalogue.Catalogue.{Catalogue}
use Rattle.composite_requests.specs.declared.request.CompositeRequest.{CompositeRequest}
use Rattle.composite_requests.specs.Routes.{request_for as composite_request_for}
use Rattle.http_wire.specs.declared.message.Message.{Message}
use Rattle.job_board.specs.Calls.{BoardHolding}
use Rattle.job_requests.specs.declared.request.JobRequest.{JobRequest}
use Rattle.job_requests.specs.Routes.{request_for as job_request_for}
use Rattle.job_requests.specs.Served.{ServesJob}
use Rattle.layer_recipes.specs.declared.book.RecipeBook.{RecipeBook}
use Rattle.truncation_list.specs.declared.book.FrontedBook.{FrontedBook}
use Rattle.turnstile.specs.declared.view.Made.{Made}
use Rattle.cache_access.specs.Sourced.{AreFromSource}
use Rattle.cache_hall.specs.Turned.{GainsTurns, HallPass}
use Rattle.base.specs.Causes.{Rose}
use Rattle.sessions.specs.Exchanges.{ServerStanding}
use Rattle.source_render.specs.Renders.{GivenImage, GoesOn, Renders}
use Rattle.tile_requests.specs.declared.outcome.Outcome.{Outcome}
use Rattle.tile_requests.specs.declared.outcome.Outcome.TheVariants as outcome
use Rattle.tile_requests.specs.declared.outcome.Plain.TheVariants as plain
use Rattle.tile_requests.specs.declared.request.Request.{Request}
use Rattle.tile_requests.specs.Routes.{request_for}
use Rattle.tile_requests.specs.Served.{IsRequestServed as IsRequestServedIf}
use Rattle.hall_sessions.specs.Composites.{IsCompositeServed}

-- ANY REQUEST, by a pass that had seen this book: the turns that it made, and the outcome; a tile's bytes are the encoded tile's, if the
-- pass is told that the cabinet is sound
abbrev pub IsRequestServed : Catalogue → Bool → FrontedBook → Request → List (Made Note) → Outcome → Type 0
IsRequestServed c told seen r gained o = IsRequestServedIf c (told ≡ true) seen r gained o

-- A MESSAGE

-- no memory was left to read it
abbrev pub IsUnread : List (Made Note) → Outcome → Type 0
IsUnread gained o = (gained ≡ []) × (o ≡ outcome.Plain plain.NoMemory)

-- one for jobs, which asks for this: its turns at the board, unless no memory was left to read it
abbrev pub IsJobMessageServed : Catalogue → JobRequest → List (Made Note) → BoardHolding → BoardHolding → Outcome → Type 0
IsJobMessageServed c r gained board_before board_after o = ((gained ≡ []) × ServesJob c r board_before board_after o) ⊎ (IsUnread gained o × (board_after ≡ board_before))

-- one for a composite, which asks for this: by the turns of a composition, unless no memory was left to read it
abbrev pub IsCompositeMessageServed : Catalogue → List GivenImage → RecipeBook → Bool → FrontedBook → CompositeRequest → List (Made Note) → Outcome → Type 0
IsCompositeMessageServed c gave recipes told seen r gained o = IsCompositeServed c gave recipes told seen r gained o ⊎ IsUnread gained o

-- any other: what it asks for by the table of paths is served, unless no memory was left to read it
abbrev pub IsOtherMessageServed : Catalogue → Bool → FrontedBook → Message → Option Request → List (Made Note) → Outcome → Type 0
IsOtherMessageServed c told seen m None gained o = IsUnread gained o
IsOtherMessageServed c told seen m (Some r) gained o = (r ≡ request_for c m) × IsRequestServed c told seen r gained o

-- one that isn't for jobs: one for a composite, if the server's recipes have it so, or any other
abbrev pub IsCacheMessageServed : Catalogue → List GivenImage → RecipeBook → Bool → FrontedBook → Message → Option Request → List (Made Note) → Outcome → Type 0
IsCacheMessageServed c gave recipes told seen m request gained o =
    MatchOption (composite_request_for c recipes m) (IsOtherMessageServed c told seen m request gained o) (λ r. IsCompositeMessageServed c gave recipes told seen r gained o × (request ≡ None))

-- one for jobs asks nothing of the cabinet, and any other asks nothing of the board
abbrev pub IsMessageServed : Catalogue → List GivenImage → RecipeBook → Bool → FrontedBook → Message → Option Request → List (Made Note) → BoardHolding → BoardHolding → Outcome → Type 0
IsMessageServed c gave recipes told seen m request gained board_before board_after o =
    MatchOption (job_request_for c m) (IsCacheMessageServed c gave recipes told seen m request gained o × (board_after ≡ board_before)) (λ r. IsJobMessageServed c r gained board_before board_after o × (request ≡ None))

-- a message was served over a hall and a board, while its source went from what it had done to this: it failed only where its count rose, and
-- each blob that was handed in is cut out of what it has given
pub record ServesOverHall (c : Catalogue) (recipes : RecipeBook) (renders_before renders_after : Renders) (m : Message) (before after : HallPass) (board_before board_after : BoardHolding) (o : Outcome) : Type 0 where
  pub gained : List (Made Note)
  pub gains : GainsTurns c before after gained
  pub request : Option Request
  pub served : IsMessageServed c renders_after.gave recipes before.told before.book m request gained board_before board_after o
  pub from_source : AreFromSource c renders_after.gave gained
  pub cause : o ≡ outcome.SourceFailed → Rose renders_before.failures renders_after.failures

-- the same from one standing of a hall and a board to another, while the source goes on
abbrev pub ServesLater : Catalogue → RecipeBook → Message → Outcome → ServerStanding HallPass BoardHolding → ServerStanding HallPass BoardHolding → Type 0
ServesLater c recipes m o before after = ServesOverHall c recipes before.renders after.renders m before.cache after.cache before.jobs after.jobs o × GoesOn before.renders after.renders
