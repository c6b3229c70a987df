-- The run of a session: the messages of one connection, in order, each answered before the next is looked at. No render runs
-- between them, so that a tile is asked for, rendered and finished before the next.
use Rattle.std.specs.Prelude.{ℕ, ◌≡◌, ◌+◌, List, [], ◌∷◌, ◌++◌, map, Option, Some, None}
use Rattle.std.specs.List.{AllByRecursion}
use Rattle.cabinet.specs.State.{State, IsSound}
use Rattle.cache_access.specs.Alone as alone
use Rattle.base.specs.Causes.{RoseBy}
use Rattle.http_wire.specs.declared.message.Message.{Message}
use Rattle.tile_requests.specs.declared.request.Mode.TheVariants.{Gets}
use Rattle.sessions.specs.Outside.{FaultCounts}
use Rattle.tile_requests.specs.Requests.{Chance}
use Rattle.tile_requests.specs.Response.{response}
use Rattle.tile_service.specs.Run.{RunState, Answer, disk_faults, sent, first_of, rest_of, failures, HasNumbers, IsAnsweredTile, IsTrue, IsFresh}

-- no render runs
abbrev pub IsAtRest : State → Type 0
IsAtRest s = alone.IsAtRest s

-- a session has one actor, who is not busy between its messages
abbrev pub lone : State → List ℕ → RunState
lone s document = record { cabinet = s; capabilities = document; seats = None ∷ [] }

abbrev pub and_then : RunState × List Answer → (RunState → RunState × List Answer) → RunState × List Answer
and_then done on = let later = on done.0 in (later.0, done.1 ++ later.1)

-- the run of these messages, of which the first is the i-th of its session, with a chance for each
abbrev pub session : RunState → ℕ → List Message → List Chance → RunState × List Answer
session w i [] cs = (w, [])
session w i (m ∷ ms) cs = and_then (sent w i (first_of cs) Gets 0 m) (λ t. session t (i + 1) ms (rest_of cs))

-- an answer's response: the answered line is the place of its message in the session
abbrev pub reply_text : List ℕ → Answer → List ℕ
reply_text document a = response document a.message a.line a.outcome

-- the responses to the messages of these answers
abbrev pub responses : List ℕ → List Answer → List (List ℕ)
responses document answers = map (reply_text document) answers

-- WHAT IS PROMISED OF IT

-- From s these messages of a session came to t with these answers, under some chances: each message has one. No more answers
-- say that the source failed than its count rose by, and the chances name no more faults of the disk than its count rose by. Where the
-- source is modelled as the catalogue's, each tile is the picture of its number, and so is all that is kept at the end where all that was kept
-- at the start was; and each tile is fresh at its ask. While numbers are
-- left, each request for a tile is answered with the tile, but where memory ran out or the source failed: no fault of a disk comes
-- between.
pub record IsSessionServed (told : Option ℕ) (renders disk : FaultCounts) (document : List ℕ) (s t : State) (messages : List Message) (answers : List Answer) : Type 0 where
  pub chances : List Chance
  pub made : session (lone s document) 1 messages chances ≡ (lone t document, answers)
  pub each : map (λ a. a.message) answers ≡ messages
  pub failed : RoseBy (failures answers) renders.before renders.after
  pub faults : RoseBy (disk_faults chances) disk.before disk.after
  pub truth : told ≡ Some s.catalogue.source → IsSound s → AllByRecursion (IsTrue s.catalogue) answers
  pub sound : told ≡ Some s.catalogue.source → IsSound s → IsSound t
  pub fresh : AllByRecursion (IsFresh s.catalogue t.history) answers
  pub tiles : HasNumbers t → AllByRecursion IsAnsweredTile answers
