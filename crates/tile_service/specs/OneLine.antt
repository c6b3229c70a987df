-- What one line of a schedule came to.
-- A tie between the code and its definitions: the promise can be read without it.
use Rattle.std.specs.Prelude.{ℕ, ◌≡◌, ◌≤◌, ◌+◌, Bool, false, List, [], ◌∷◌, map, length, Option, Some, None, ⊤}
use Rattle.std.specs.List.{AllByRecursion}
use Rattle.cabinet.specs.History.{History}
use Rattle.cabinet.specs.State.{State, IsSound}
use Rattle.cache_core.specs.Fits.{IsFit, IsFreshActor, IsTrueActor, ExtendsHistory}
use Rattle.cache_core.specs.Shown.{IsIdle}
use Rattle.catalog.specs.declared.catalogue.Catalogue.{Catalogue}
use Rattle.base.specs.Causes.{RoseBy}
use Rattle.http_wire.specs.declared.message.Message.{Message}
use Rattle.tile_service.specs.declared.action_end.ActionEnd.{ActionEnd}
use Rattle.tile_service.specs.declared.action_end.ActionEnd.TheVariants as action_end
use Rattle.tile_service.specs.declared.action_end.LineAnswer as code
use Rattle.tile_requests.specs.declared.request.Request.{Request}
use Rattle.tile_service.specs.declared.seats.ActorPlace.{ActorPlace}
use Rattle.tile_service.specs.declared.seats.ActorPlace.TheVariants as seat
use Rattle.tile_requests.specs.Events.{StayCovered}
use Rattle.tile_service.specs.Lines.{Action, action_in}
use Rattle.tile_requests.specs.Requests.{Chance, answered_at, calm, disk_faults_in}
use Rattle.tile_requests.specs.Routes.{spelling_of}
use Rattle.sessions.specs.Outside.{FaultCounts}
use Rattle.tile_service.specs.Run.{PendingRequest, RunState, Answer, line_done, failures, unanswered, IsTrue, IsFresh, run_state_of}

-- WHAT HOLDS OF WORLDS

-- a pending request: its actor's state fits the tile, goes on, came with a message that is not the last of its connection, and
-- holds what is fresh at the place of its last ask or force
pub record IsPending (c : Catalogue) (h : History) (b : PendingRequest) : Type 0 where
  pub fits : IsFit c b.address b.actor
  pub busy : IsIdle b.actor → ⊥
  pub open_after : b.message.last ≡ false
  pub within : b.place ≤ length h
  pub fresh : IsFreshActor c h b.place b.address b.actor

abbrev pub IsSeat : Catalogue → History → Option PendingRequest → Type 0
IsSeat c h None = ⊤
IsSeat c h (Some b) = IsPending c h b

abbrev pub IsRunState : RunState → Type 0
IsRunState w = AllByRecursion (IsSeat w.cabinet.catalogue w.cabinet.history) w.seats

-- a blob that an actor holds is that of the picture of its number
abbrev pub IsTrueSeat : Catalogue → Option PendingRequest → Type 0
IsTrueSeat c None = ⊤
IsTrueSeat c (Some b) = IsTrueActor c b.actor

-- what is kept is true, and what the actors hold
abbrev pub IsTrueWorld : RunState → Type 0
IsTrueWorld w = IsSound w.cabinet × AllByRecursion (IsTrueSeat w.cabinet.catalogue) w.seats

-- ONE LINE

-- From w to t, with these answers, while the source went from one count of faults to another: no more failures are answered
-- or yet to be answered than the count rose by; the world stays one; where the source is modelled as the catalogue's, what
-- is kept and held stays true and each tile is the picture of its number; each tile is fresh at its place; the history goes on,
-- and the capabilities document stays.
pub record Keeps (told : Option ℕ) (before after : ℕ) (w t : RunState) (answers : List Answer) : Type 0 where
  pub later : before ≤ after
  pub failed : StayCovered before after (unanswered w.seats) (failures answers + unanswered t.seats)
  pub world : IsRunState w → IsRunState t
  pub sound : told ≡ Some w.cabinet.catalogue.source → IsRunState w → IsTrueWorld w → IsTrueWorld t
  pub truth : told ≡ Some w.cabinet.catalogue.source → IsRunState w → IsTrueWorld w → AllByRecursion (IsTrue w.cabinet.catalogue) answers
  pub fresh : IsRunState w → AllByRecursion (λ a. (a.place ≤ length t.cabinet.history) × IsFresh w.cabinet.catalogue t.cabinet.history a) answers
  pub grows : ExtendsHistory w.cabinet.history t.cabinet.history
  pub catalogue : t.cabinet.catalogue ≡ w.cabinet.catalogue
  pub capabilities : t.capabilities ≡ w.capabilities

-- from w line n came to t with these answers, under a chance that names no more faults of the disk than its count rose by
pub record IsLine (told : Option ℕ) (before after : ℕ) (disk : FaultCounts) (w : RunState) (n : ℕ) (line : List ℕ) (t : RunState) (answers : List Answer) : Type 0 where
  pub chance : Chance
  pub made : line_done w n chance (action_in line) ≡ Some (t, answers)
  pub faults : RoseBy (disk_faults_in chance) disk.before disk.after
  pub keeps : Keeps told before after w t answers

-- BEFORE THE ANSWER IS WRITTEN

-- an answer to a message that is not the last of its connection
abbrev pub answer_with : code.LineAnswer → ℕ → Message → Option Request → ℕ → Bool → Answer
answer_with r n m request place left = record { line = n; actor = r.actor; start = r.start; message = m; request = request; place = place; outcome = answered_at (spelling_of m) left r.outcome }

-- the line's one answer is that of the code, or says that memory ran out for its text
pub record AnswersWith (told : Option ℕ) (before after : ℕ) (disk : FaultCounts) (w : RunState) (n : ℕ) (action : Option Action) (t : RunState) (r : code.LineAnswer) : Type 0 where
  pub message : Message
  pub request : Option Request
  pub place : ℕ
  pub open_after : message.last ≡ false
  pub spelling : spelling_of message ≡ r.spelling
  pub chance : Bool → Chance
  pub made : (left : Bool) → line_done w n (chance left) action ≡ Some (t, answer_with r n message request place left ∷ [])
  pub faults : (left : Bool) → RoseBy (disk_faults_in (chance left)) disk.before disk.after
  pub keeps : (left : Bool) → Keeps told before after w t (answer_with r n message request place left ∷ [])

-- how an action ends, before its answer is written
abbrev pub ActionEnds : Option ℕ → ℕ → ℕ → FaultCounts → RunState → ℕ → Option Action → RunState → ActionEnd → Type 0
ActionEnds told before after disk w n action t action_end.Refused = (line_done w n calm action ≡ None) × (t ≡ w) × (before ≤ after) × (disk.before ≤ disk.after)
ActionEnds told before after disk w n action t action_end.Silent = (c : Chance) × (line_done w n c action ≡ Some (t, [])) × RoseBy (disk_faults_in c) disk.before disk.after × Keeps told before after w t []
ActionEnds told before after disk w n action t (action_end.Answers r) = AnswersWith told before after disk w n action t r

-- SEATS

-- a seat of the code: it knows neither the place nor more of the message than how a tile is spelt in its response
abbrev pub seat_of : Option PendingRequest → ActorPlace
seat_of None = seat.Free
seat_of (Some b) = seat.Busy (record { start = b.start; spelling = spelling_of b.message; address = b.address; actor = b.actor })

-- the seats of the code are those of this world
pub record IsSeated (s : State) (document : List ℕ) (seats : List ActorPlace) (busy : List (Option PendingRequest)) : Type 0 where
  pub same : map seat_of busy ≡ seats
  pub world : IsRunState (run_state_of s document busy)

-- whatever the actors were busy with before, they are busy with these now, and the action ended so
abbrev pub Performs : Option ℕ → ℕ → ℕ → FaultCounts → State → List ℕ → List ActorPlace → ℕ → Option Action → State → List ActorPlace → ActionEnd → Type 0
Performs told before after disk s document seats n action t seats' end =
    (busy : List (Option PendingRequest)) → IsSeated s document seats busy → (later : List (Option PendingRequest)) × (map seat_of later ≡ seats') × ActionEnds told before after disk (run_state_of s document busy) n action (run_state_of t document later) end
