-- Why each answer of a session came: who asks for a tile gets it, but for the causes that stand here, and each other answer has its cause
-- too.
use Rattle.std.specs.Prelude.{ℕ, ◌≡◌, ◌⊎◌, Bool, true, false, List, [], ◌∷◌, length, Option, Some, None, Result, Ok, Err, ⊤}
use Rattle.cabinet.specs.declared.replies.CutReply.{CutReply}
use Rattle.cabinet.specs.declared.replies.CutReply.TheVariants as cut
use Rattle.cabinet.specs.declared.replies.Expired.{Expired}
use Rattle.cabinet.specs.declared.replies.Expired.TheVariants as expired
use Rattle.cabinet_chest.specs.declared.command.Command.TheVariants as command
use Rattle.cabinet_chest.specs.declared.command.Reply.TheVariants as reply
use Rattle.cabinet_chest.specs.declared.shown.Note.{Note}
use Rattle.cache_core.specs.declared.outcome.Tile.{Tile}
use Rattle.catalog.specs.declared.catalogue.Catalogue.{Catalogue}
use Rattle.arrayvec.specs.ArrayVec.{ArrayVec}
use Rattle.base.specs.Causes.{Rose}
use Rattle.composite_requests.specs.declared.request.CompositeRequest.{CompositeRequest}
use Rattle.composite_requests.specs.declared.request.CompositeRequest.TheVariants as composite_request
use Rattle.composite_requests.specs.Routes.{request_for as composite_request_for}
use Rattle.http_wire.specs.declared.message.Message.{Message}
use Rattle.job_board.specs.declared.shown.BoardCommand.TheVariants as board_command
use Rattle.job_board.specs.declared.shown.BoardReply.TheVariants as board_reply
use Rattle.job_board.specs.Calls.{BoardHolding, MakesOne}
use Rattle.job_requests.specs.declared.request.JobRequest.{JobRequest}
use Rattle.job_requests.specs.declared.request.JobRequest.TheVariants as job_request
use Rattle.job_requests.specs.Routes.{request_for as job_request_for}
use Rattle.job_requests.specs.Served.{AreAllJobs, AreLooks}
use Rattle.job_requests.specs.Texts.{progress_text, status_text, statuses_text, submitted_text}
use Rattle.job_board.specs.declared.status.JobStatus.{JobStatus}
use Rattle.job_forms.specs.declared.job.Job.{Job}
use Rattle.job_forms.specs.Places.{places}
use Rattle.layer_recipes.specs.declared.book.RecipeBook.{RecipeBook}
use Rattle.layer_recipes.specs.declared.composed.Composed.{Composed}
use Rattle.layer_recipes.specs.declared.composed.ComposeFault.{ComposeFault}
use Rattle.layer_recipes.specs.declared.composed.ComposeFault.TheVariants as compose_fault
use Rattle.layer_recipes.specs.declared.place.TilePlace.{TilePlace}
use Rattle.matrix_geometry.specs.declared.address.Address.{Address}
use Rattle.metatile_plan.specs.declared.metatile.MetaKey.{MetaKey}
use Rattle.truncation_list.specs.declared.cover.Cover.{Cover}
use Rattle.turnstile.specs.declared.view.Made.{Made}
use Rattle.cache_access.specs.Gets.{HasAbandoned, HasMetSpent}
use Rattle.cache_hall.specs.Gets.{HasGot}
use Rattle.cache_access.specs.Turned.{IsOf}
use Rattle.tile_requests.specs.declared.outcome.Outcome.{Outcome}
use Rattle.tile_requests.specs.declared.outcome.Outcome.TheVariants as outcome
use Rattle.tile_requests.specs.declared.outcome.Plain.TheVariants as plain
use Rattle.tile_requests.specs.declared.request.Request.{Request}
use Rattle.tile_requests.specs.declared.request.Request.TheVariants as request
use Rattle.tile_requests.specs.Requests.{answered_at}
use Rattle.tile_requests.specs.Routes.{request_for, spelling_of}
use Rattle.tile_requests.specs.Texts.{dropped_text}
use Rattle.hall_sessions.specs.Composites.{IsComposed}
use Rattle.hall_sessions.specs.Exchanges.{HallExchange}
use Rattle.tile_requests.specs.Counted.{IsCounted}

-- the outcome that a message is answered by: that of its answer and of its response
abbrev pub outcome_told : HallExchange → Outcome
outcome_told e = answered_at (spelling_of e.message) e.left e.came_to

-- WHAT IS ASKED FOR

-- the message asks for this by the table of paths
pub record AsksFor (c : Catalogue) (recipes : RecipeBook) (m : Message) (r : Request) : Type 0 where
  pub no_job : job_request_for c m ≡ None
  pub no_composite : composite_request_for c recipes m ≡ None
  pub is : request_for c m ≡ r

-- the message asks for this tile by the table of paths, whatever the recipes: there is no tile at the path of a composite
pub record AsksForTile (c : Catalogue) (m : Message) (a : Address) : Type 0 where
  pub no_job : job_request_for c m ≡ None
  pub is : request_for c m ≡ request.Tile a

-- the message asks for this at /jobs or below it
abbrev pub AsksOfJobs : Catalogue → Message → JobRequest → Type 0
AsksOfJobs c m r = job_request_for c m ≡ Some r

-- the message asks for this below /composites/
pub record AsksForComposite (c : Catalogue) (recipes : RecipeBook) (m : Message) (r : CompositeRequest) : Type 0 where
  pub no_job : job_request_for c m ≡ None
  pub is : composite_request_for c recipes m ≡ Some r

-- WHO ASKS FOR A TILE

-- the answer is the tile of a get by the message's turns
pub record IsGiven (c : Catalogue) (told : Bool) (a : Address) (e : HallExchange) : Type 0 where
  pub tile : Tile
  pub is : outcome_told e ≡ outcome.Tile tile.hit tile.number tile.bytes
  pub got : HasGot c told a e.seen e.gained tile

-- WHO ASKS FOR A TILE GETS IT, with status 200, or 503 where memory ran out. The answer is that the source failed, only where its count
-- of faults rose while the message was served; and that no number is left, only where the last ask was told so. That a disk failed is no
-- cause.
abbrev pub TilesAreGiven : Catalogue → Bool → HallExchange → Type 0
TilesAreGiven c told e =
    (a : Address) → AsksForTile c e.message a
    → IsGiven c told a e ⊎ ((outcome_told e ≡ outcome.Plain plain.NoMemory) ⊎ (((outcome_told e ≡ outcome.SourceFailed) × Rose e.renders_before.failures e.renders_after.failures) ⊎ ((outcome_told e ≡ outcome.Plain plain.Spent) × HasMetSpent a e.gained)))

-- WHO CHANGES WHAT IS KEPT

-- the message asks for a truncation, and its one turn at the cabinet was this truncation and was answered so
pub record HasCutTurn (c : Catalogue) (recipes : RecipeBook) (e : HallExchange) (r : CutReply) : Type 0 where
  pub cover : Cover
  pub asks : AsksFor c recipes e.message (request.Truncation cover)
  pub turn : Made Note
  pub one : e.gained ≡ turn ∷ []
  pub of : IsOf (command.Cut cover) (reply.Cut r) turn

-- the message asks for an expiry, and its one turn was one and was answered so
pub record HasExpiryTurn (c : Catalogue) (recipes : RecipeBook) (e : HallExchange) (r : Expired) : Type 0 where
  pub asks : AsksFor c recipes e.message request.Expiry
  pub turn : Made Note
  pub one : e.gained ≡ turn ∷ []
  pub of : IsOf command.Expire (reply.Expired r) turn

-- the disk's count of faults rose in the turn
abbrev pub DiskFailedIn : Made Note → Type 0
DiskFailedIn turn = Rose turn.note.before.faults turn.note.after.faults

abbrev pub HasFailedCut : Catalogue → RecipeBook → HallExchange → Type 0
HasFailedCut c recipes e = (b : ℕ) × (a : ℕ) × (h : HasCutTurn c recipes e (cut.DiskFault b a)) × DiskFailedIn h.turn

abbrev pub HasFailedExpiry : Catalogue → RecipeBook → HallExchange → Type 0
HasFailedExpiry c recipes e = (b : ℕ) × (a : ℕ) × (h : HasExpiryTurn c recipes e (expired.DiskFault b a)) × DiskFailedIn h.turn

-- WHO ASKS FOR A JOB

-- the message submits a job, and its one turn at the board did and was answered so
pub record HasSubmitTurn (c : Catalogue) (e : HallExchange) (n : Option ℕ) : Type 0 where
  pub job : Job
  pub asks : AsksOfJobs c e.message (job_request.Submission job)
  pub one : MakesOne e.board_before e.board_after (board_command.Submit job (length (places c job))) (board_reply.Submit n)

-- the message looks at the job of a number, or ends it early and then looks, and was told this of it
pub record HasLookTurn (c : Catalogue) (e : HallExchange) (n : ℕ) (s : JobStatus) : Type 0 where
  pub before : BoardHolding
  pub asks :
      (AsksOfJobs c e.message (job_request.Look n) × (before ≡ e.board_before))
      ⊎ (AsksOfJobs c e.message (job_request.Stop n) × MakesOne e.board_before before (board_command.Stop n) (board_reply.Stop true))
  pub one : MakesOne before e.board_after (board_command.Look n) (board_reply.Look (Some s))

-- the message looks at the job of a number at the board, and its one turn was told this of it
pub record HasStatusTurn (c : Catalogue) (e : HallExchange) (n : ℕ) (s : JobStatus) : Type 0 where
  pub asks : AsksOfJobs c e.message (job_request.Status n)
  pub one : MakesOne e.board_before e.board_after (board_command.Look n) (board_reply.Look (Some s))

-- the message asks for all jobs, and its turns looked at each, from the first on, and were told these
pub record HasStatusTurns (c : Catalogue) (e : HallExchange) (found : List JobStatus) : Type 0 where
  pub asks : AsksOfJobs c e.message job_request.Statuses
  pub between : BoardHolding
  pub looks : AreLooks 1 found e.board_before between
  pub all : AreAllJobs found between e.board_after

-- the message asks for the job of a number, and its one turn found none of this number
pub record HasNoJob (c : Catalogue) (e : HallExchange) : Type 0 where
  pub number : ℕ
  pub found_none :
      (AsksOfJobs c e.message (job_request.Look number) × MakesOne e.board_before e.board_after (board_command.Look number) (board_reply.Look None))
      ⊎ ((AsksOfJobs c e.message (job_request.Stop number) × MakesOne e.board_before e.board_after (board_command.Stop number) (board_reply.Stop false))
      ⊎ (AsksOfJobs c e.message (job_request.Status number) × MakesOne e.board_before e.board_after (board_command.Look number) (board_reply.Look None)))

-- what is told of a job
abbrev pub IsJobText : Catalogue → HallExchange → List ℕ → Type 0
IsJobText c e text =
    ((n : ℕ) × HasSubmitTurn c e (Some n) × (text ≡ submitted_text n))
    ⊎ (((n : ℕ) × (s : JobStatus) × HasLookTurn c e n s × (text ≡ progress_text n s.progress))
    ⊎ (((n : ℕ) × (s : JobStatus) × HasStatusTurn c e n s × (text ≡ status_text n s))
    ⊎ ((found : List JobStatus) × HasStatusTurns c e found × (text ≡ statuses_text 1 found))))

-- WHO ASKS FOR A COMPOSITE

-- the message asks for the composite of a recipe at a place, and its turns are those of the composition, which came to this
pub record HasComposition (c : Catalogue) (recipes : RecipeBook) (told : Bool) (e : HallExchange) (result : Result Composed ComposeFault) : Type 0 where
  pub number : ℕ
  pub place : TilePlace
  pub asks : AsksForComposite c recipes e.message (composite_request.Composite number place)
  pub composed : IsComposed c e.renders_after.gave recipes told e.seen number place e.gained result

-- the composition came to these numbers and this text
pub record IsComposite (c : Catalogue) (recipes : RecipeBook) (told : Bool) (e : HallExchange) (numbers : ArrayVec ℕ) (text : List ℕ) : Type 0 where
  pub came_to : Composed
  pub composition : HasComposition c recipes told e (Ok came_to)
  pub numbered : numbers.items ≡ came_to.numbers.items
  pub is_text : text ≡ came_to.bytes.items

-- WHY THIS ANSWER: each has its cause, in what the message asks for and in the turns that were made for it. Want of memory alone is free.
abbrev pub IsCaused : Catalogue → RecipeBook → Bool → HallExchange → Outcome → Type 0
IsCaused c recipes told e (outcome.Tile hit k bytes) = (a : Address) × AsksFor c recipes e.message (request.Tile a) × HasGot c told a e.seen e.gained (record { hit = hit; number = k; bytes = bytes })
IsCaused c recipes told e outcome.Document = AsksFor c recipes e.message request.Capabilities
IsCaused c recipes told e (outcome.Refused code locator) = AsksFor c recipes e.message (request.Refused code locator) ⊎ AsksForComposite c recipes e.message (composite_request.Refused code locator)
IsCaused c recipes told e (outcome.Plain plain.NotFound) = AsksFor c recipes e.message request.NotFound ⊎ (AsksOfJobs c e.message job_request.NotFound ⊎ (HasNoJob c e ⊎ AsksForComposite c recipes e.message composite_request.NotFound))
IsCaused c recipes told e (outcome.Plain plain.WrongMethod) = AsksFor c recipes e.message request.WrongMethod ⊎ (AsksOfJobs c e.message job_request.WrongMethod ⊎ AsksForComposite c recipes e.message composite_request.WrongMethod)
IsCaused c recipes told e outcome.SourceFailed =
    ((a : Address) × AsksFor c recipes e.message (request.Tile a) × HasAbandoned a e.gained × Rose e.renders_before.failures e.renders_after.failures)
    ⊎ (HasComposition c recipes told e (Err compose_fault.SourceFault) × Rose e.renders_before.failures e.renders_after.failures)
IsCaused c recipes told e (outcome.Plain plain.Spent) = ((a : Address) × AsksFor c recipes e.message (request.Tile a) × HasMetSpent a e.gained) ⊎ HasComposition c recipes told e (Err compose_fault.Spent)
IsCaused c recipes told e (outcome.Usage text) = AsksFor c recipes e.message request.Usage × IsCounted c e.gained text
IsCaused c recipes told e (outcome.Cut k) = HasCutTurn c recipes e (cut.Done k)
IsCaused c recipes told e (outcome.Plain plain.CutsFull) = HasCutTurn c recipes e cut.Full
IsCaused c recipes told e (outcome.Plain plain.CutSpent) = HasCutTurn c recipes e cut.Spent
IsCaused c recipes told e (outcome.Unformed fault) = AsksFor c recipes e.message (request.Unformed fault) ⊎ AsksOfJobs c e.message (job_request.Unformed fault)
IsCaused c recipes told e (outcome.Dropped text) = (m : MetaKey) × HasExpiryTurn c recipes e (expired.Dropped m) × (text ≡ dropped_text c m)
IsCaused c recipes told e (outcome.Plain plain.Within) = HasExpiryTurn c recipes e expired.Within
IsCaused c recipes told e (outcome.Job text) = IsJobText c e text
IsCaused c recipes told e (outcome.Composite numbers text) = IsComposite c recipes told e numbers text
IsCaused c recipes told e (outcome.Plain plain.BoardFull) = HasSubmitTurn c e None
IsCaused c recipes told e (outcome.Plain plain.DiskFault) = HasFailedCut c recipes e ⊎ HasFailedExpiry c recipes e
IsCaused c recipes told e (outcome.Plain plain.NoMemory) = ⊤

-- both of a message
pub record HasAnswer (c : Catalogue) (recipes : RecipeBook) (told : Bool) (e : HallExchange) : Type 0 where
  pub tiles : TilesAreGiven c told e
  pub cause : IsCaused c recipes told e (outcome_told e)
