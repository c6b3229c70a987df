-- What one message of a session came to.
-- A tie between the code and its definitions: the promise can be read without it.
use Rattle.std.specs.Prelude.{ℕ, ◌≡◌, Bool, List, [], ◌∷◌, length, Option}
use Rattle.cabinet.specs.State.{State}
use Rattle.cache_core.specs.Lasting.{Lasting}
use Rattle.base.specs.Causes.{RoseBy}
use Rattle.http_wire.specs.declared.message.Message.{Message}
use Rattle.tile_requests.specs.declared.outcome.Outcome.{Outcome}
use Rattle.tile_requests.specs.declared.request.Mode.TheVariants.{Gets}
use Rattle.tile_requests.specs.declared.request.Request.{Request}
use Rattle.tile_service.specs.OneLine.{Keeps}
use Rattle.tile_requests.specs.Requests.{Chance, answered_at, disk_faults_in}
use Rattle.tile_requests.specs.Routes.{spelling_of}
use Rattle.sessions.specs.Exchanges.{ServerStanding}
use Rattle.sessions.specs.Outside.{FaultCounts, counts}
use Rattle.tile_service.specs.Run.{Answer, sent}
use Rattle.tile_service.specs.Session.{IsAtRest, lone}

-- the answer to the i-th message of a session
abbrev pub answer_to : ℕ → Message → Option Request → ℕ → Outcome → Answer
answer_to i m request place o = record { line = i; actor = 0; start = i; message = m; request = request; place = place; outcome = o }

-- From s a message came to t, and this is its outcome, unless no memory is left to answer it. Its chance names no more faults of the
-- disk than its count rose by. No render runs after it.
pub record Serves (told : Option ℕ) (before after : ℕ) (disk : FaultCounts) (document : List ℕ) (s : State) (m : Message) (o : Outcome) (t : State) : Type 0 where
  pub request : Option Request
  pub chance : Bool → Chance
  pub made : (i : ℕ) (left : Bool) → sent (lone s document) i (chance left) Gets 0 m ≡ (lone t document, answer_to i m request (length s.history) (answered_at (spelling_of m) left o) ∷ [])
  pub faults : (left : Bool) → RoseBy (disk_faults_in (chance left)) disk.before disk.after
  pub keeps : (i : ℕ) (left : Bool) → Keeps told before after (lone s document) (lone t document) (answer_to i m request (length s.history) (answered_at (spelling_of m) left o) ∷ [])
  pub rests : IsAtRest t

-- A counter, of which these tell its keeper and its document, served a message so, from one standing to another. Its document stays, and
-- a crash leaves from its cabinet before to that after it what keeps to the truncations that were in force.
pub record ServesAndLasts {K Counter Jobs : Type 0} (Outlasts : K → K → Type 0) (state : K → State) (faults : K → ℕ) (keeper : Counter → K) (document : Counter → List ℕ) (told : Option ℕ) (m : Message) (o : Outcome) (before after : ServerStanding Counter Jobs) : Type 0 where
  pub serves : Serves told before.renders.failures after.renders.failures (counts (faults (keeper before.cache)) (faults (keeper after.cache))) (document before.cache) (state (keeper before.cache)) m o (state (keeper after.cache))
  pub same : document after.cache ≡ document before.cache
  pub lasts : Lasting (Outlasts (keeper before.cache) (keeper after.cache)) (state (keeper before.cache)) (state (keeper after.cache))
