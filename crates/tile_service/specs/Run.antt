-- The run of a schedule: it goes through the lines with the cabinet and what its actors are busy with, and each line has its
-- answers. What happens by chance in a line is taken as it happened; all else is fixed.
use Rattle.std.specs.Prelude.{ℕ, ◌≡◌, ◌<◌, ◌+◌, ◌⊎◌, Bool, true, false, if◌then◌else◌, List, [], ◌∷◌, ◌++◌, length, replicate, fold, slice_get, slice_set, Option, Some, None, IfSome, IsSome, flat_map, count_by, sum_by}
use Rattle.cabinet.specs.History.{History, last_number}
use Rattle.cabinet.specs.State.{State, now}
use Rattle.cache_core.specs.declared.actor.Actor.{Actor}
use Rattle.cache_core.specs.declared.actor.Actor.TheVariants as actor
use Rattle.cache_core.specs.declared.outcome.TileOutcome as cached
use Rattle.cache_core.specs.Fits.{place_of}
use Rattle.cache_core.specs.Steps.{Stepped, advanced, given_up}
use Rattle.catalog.specs.declared.catalogue.Catalogue.{Catalogue}
use Rattle.http_wire.specs.declared.message.Message.{Message}
use Rattle.matrix_geometry.specs.declared.address.Address.{Address}
use Rattle.tile_requests.specs.declared.outcome.Outcome.{Outcome}
use Rattle.tile_requests.specs.declared.outcome.Outcome.TheVariants.{SourceFailed, Plain}
use Rattle.tile_requests.specs.declared.outcome.Plain.TheVariants.{NoMemory}
use Rattle.tile_requests.specs.declared.request.Mode.{Mode}
use Rattle.tile_requests.specs.declared.request.Request.{Request}
use Rattle.tile_requests.specs.declared.request.Request.TheVariants as request
use Rattle.tile_service.specs.declared.seats.TheConstants.{ACTORS}
use Rattle.tile_service.specs.Lines.{Action, Nothing, Sends, Steps, action_in}
use Rattle.tile_requests.specs.Requests.{owed, Chance, at_once, calm, disk_faults_in, events, outcome_of, answered_at, tile_in, tile_of, IsTrueAnswer, IsFreshAnswer}
use Rattle.tile_requests.specs.Response.{answered}
use Rattle.tile_requests.specs.Routes.{request_for, spelling_of}

-- WORLDS

-- what an actor is busy with: the line of its start and the message there, the tile, how many entries the history had at
-- the last ask or force, and how far it has come
pub record PendingRequest : Type 0 where
  pub start : ℕ
  pub message : Message
  pub address : Address
  pub place : ℕ
  pub actor : Actor

-- what a run goes through: the cabinet, the capabilities document, which stays as it is, and what each actor is busy
-- with
pub record RunState : Type 0 where
  pub cabinet : State
  pub capabilities : List ℕ
  pub seats : List (Option PendingRequest)

-- the world of these
abbrev pub run_state_of : State → List ℕ → List (Option PendingRequest) → RunState
run_state_of s document busy = record { cabinet = s; capabilities = document; seats = busy }

-- no actor is busy
abbrev pub free_seats : List (Option PendingRequest)
free_seats = replicate ACTORS None

-- an actor that is busy gives up
abbrev pub left_by : State → Option PendingRequest → State
left_by s None = s
left_by s (Some b) = given_up s b.actor

-- at the end of a run the actors that are busy give up, in order
abbrev pub closed : RunState → RunState
closed w = record { cabinet = fold left_by w.cabinet w.seats; capabilities = w.capabilities; seats = free_seats }

-- ANSWERS

-- an answer: the answered line, its actor, the line of its start and the message there, what was asked for, where it was
-- read, how many entries the history had at its last ask or force, or before an immediate answer, and the outcome
pub record Answer : Type 0 where
  pub line : ℕ
  pub actor : ℕ
  pub start : ℕ
  pub message : Message
  pub request : Option Request
  pub place : ℕ
  pub outcome : Outcome

-- an immediate answer, by the cabinet that it leaves and its outcome
abbrev pub told_in : RunState → ℕ → Chance → ℕ → Message → Option Request → State × Outcome → RunState × List Answer
told_in w n c i m r done =
    let answer : Answer = record { line = n; actor = i; start = n; message = m; request = r; place = length w.cabinet.history; outcome = answered_at (spelling_of m) c.left done.1 } in
    (record { cabinet = done.0; capabilities = w.capabilities; seats = w.seats }, answer ∷ [])

-- EVENTS

-- the actor stays busy unless its request has an outcome
abbrev pub seat_after : PendingRequest → Actor → Option cached.TileOutcome → Option PendingRequest
seat_after b actor None = Some (record { start = b.start; message = b.message; address = b.address; place = b.place; actor = actor })
seat_after b actor (Some o) = None

-- the outcome is answered, by the actor i in line n
abbrev pub answers_after : ℕ → ℕ → Bool → PendingRequest → Option cached.TileOutcome → List Answer
answers_after n i left b None = []
answers_after n i left b (Some o) = record { line = n; actor = i; start = b.start; message = b.message; request = Some (request.Tile b.address); place = b.place; outcome = answered_at (spelling_of b.message) left (outcome_of o) } ∷ []

-- what events of what the actor i is busy with come to
abbrev pub settled : RunState → ℕ → Chance → ℕ → PendingRequest → Stepped → RunState × List Answer
settled w n c i b r = (record { cabinet = r.cabinet; capabilities = w.capabilities; seats = slice_set w.seats i (seat_after b r.actor r.outcome) }, answers_after n i c.left b r.outcome)

-- what an actor that starts in line n is busy with
abbrev pub started : RunState → ℕ → Message → Address → PendingRequest
started w n m a = record { start = n; message = m; address = a; place = length w.cabinet.history; actor = actor.Idle }

-- what it is busy with at its next event: an actor that waits asks or forces anew
abbrev pub resumed : RunState → PendingRequest → PendingRequest
resumed w b = record { start = b.start; message = b.message; address = b.address; place = place_of b.actor (length w.cabinet.history) b.place; actor = b.actor }

-- LINES

-- a tile is asked for; anything else is answered immediately
abbrev pub asked : RunState → ℕ → Chance → Mode → ℕ → Message → Request → RunState × List Answer
asked w n c mode i m (request.Tile a) = settled w n c i (started w n m a) (events mode w.cabinet a c)
asked w n c mode i m other = told_in w n c i m (Some other) (at_once w.cabinet c other)

-- a message is answered; memory may run out before it is read
abbrev pub sent : RunState → ℕ → Chance → Mode → ℕ → Message → RunState × List Answer
sent w n c mode i m = if c.read then asked w n c mode i m (request_for w.cabinet.catalogue m) else told_in w n c i m None (w.cabinet, Plain NoMemory)

-- there is the actor, and it is not busy
abbrev pub if_free : Option (Option PendingRequest) → RunState × List Answer → Option (RunState × List Answer)
if_free None d = None
if_free (Some None) d = Some d
if_free (Some (Some b)) d = None

-- there is the actor, and it is busy
abbrev pub stepped : RunState → ℕ → Chance → ℕ → Option (Option PendingRequest) → Option (RunState × List Answer)
stepped w n c i None = None
stepped w n c i (Some None) = None
stepped w n c i (Some (Some b)) = Some (settled w n c i (resumed w b) (advanced w.cabinet b.actor c.work c.moment c.unread c.bytes c.unwritten))

-- what one line does: the world after it and its answers, unless it is refused
abbrev pub line_done : RunState → ℕ → Chance → Option Action → Option (RunState × List Answer)
line_done w n c None = None
line_done w n c (Some Nothing) = Some (w, [])
line_done w n c (Some (Sends mode i m)) = if_free (slice_get w.seats i) (sent w n c mode i m)
line_done w n c (Some (Steps i)) = stepped w n c i (slice_get w.seats i)

-- what a run has come to: its answers, the world, and the number of the line that was refused
pub record Run : Type 0 where
  pub answers : List Answer
  pub world : RunState
  pub refused : Option ℕ

abbrev pub behind : List Answer → Run → Run
behind answers r = record { answers = answers ++ r.answers; world = r.world; refused = r.refused }

abbrev pub goes_on : RunState → ℕ → Option (RunState × List Answer) → (RunState → Run) → Run
goes_on w n None on = record { answers = []; world = w; refused = Some n }
goes_on w n (Some done) on = behind done.1 (on done.0)

abbrev pub first_of : List Chance → Chance
first_of [] = calm
first_of (c ∷ cs) = c

abbrev pub rest_of : List Chance → List Chance
rest_of [] = []
rest_of (c ∷ cs) = cs

-- the run of these lines, of which the first has the number n, with a chance for each
abbrev pub run : RunState → ℕ → List (List ℕ) → List Chance → Run
run w n [] cs = record { answers = []; world = w; refused = None }
run w n (line ∷ lines) cs = goes_on w n (line_done w n (first_of cs) (action_in line)) (λ t. run t (n + 1) lines (rest_of cs))

-- WHAT IS SAID OF A RUN

-- the bytes of an answer, where this is the capabilities document
abbrev pub answer_text : List ℕ → Answer → List ℕ
answer_text document a = answered document a.line a.actor a.start a.message a.outcome

-- what a run writes
abbrev pub output_of : List ℕ → Run → List ℕ
output_of document r = flat_map (answer_text document) r.answers

abbrev pub is_failed : Outcome → Bool
is_failed SourceFailed = true
is_failed other = false

-- how many answers say that the source failed
abbrev pub failures : List Answer → ℕ
failures answers = count_by (λ a. is_failed a.outcome) answers

-- how many faults of the disk these chances name
abbrev pub disk_faults : List Chance → ℕ
disk_faults chances = sum_by disk_faults_in chances

-- it names none
abbrev pub IsFaultless : Chance → Type 0
IsFaultless c = (c.unread ≡ false) × (c.unwritten ≡ false)

-- how many failures of the source are yet to be answered
abbrev pub owed_at : Option PendingRequest → ℕ
owed_at None = 0
owed_at (Some b) = owed b.actor

abbrev pub unanswered : List (Option PendingRequest) → ℕ
unanswered seats = sum_by owed_at seats

-- a tile that is answered is the picture of its number
abbrev pub IsTrueFor : Catalogue → Option Request → Outcome → Type 0
IsTrueFor c r o = IfSome r (λ asked. IsTrueAnswer c asked o)

abbrev pub IsTrue : Catalogue → Answer → Type 0
IsTrue c a = IsTrueFor c a.request a.outcome

-- a tile that is answered is fresh at its ask
abbrev pub IsFreshFor : Catalogue → History → ℕ → Option Request → Outcome → Type 0
IsFreshFor c h p r o = IfSome r (λ asked. IsFreshAnswer c h p asked o)

abbrev pub IsFresh : Catalogue → History → Answer → Type 0
IsFresh c h a = IsFreshFor c h a.place a.request a.outcome

-- the opening of a cabinet has numbers left
abbrev pub HasNumbers : State → Type 0
HasNumbers s = (now s).front < last_number s.opening

-- a request for a tile is answered with the tile, unless memory ran out or the source failed
abbrev pub IsAnsweredTile : Answer → Type 0
IsAnsweredTile a = IfSome a.request (λ r. IfSome (tile_of r) (λ b. IsSome (tile_in a.outcome) ⊎ (a.outcome ≡ Plain NoMemory) ⊎ (a.outcome ≡ SourceFailed)))
