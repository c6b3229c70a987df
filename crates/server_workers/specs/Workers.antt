-- A worker as contracts see it, and the place at which it serves.
-- A tie between the code and its definitions: the promise can be read without it.
use Rattle.std.specs.Prelude.{All, ℕ, List, Option}
use Rattle.atomic_table.specs.Seated.{TableId}
use Rattle.cache_hall.specs.Turned.{HallPass}
use Rattle.catalog.specs.declared.catalogue.Catalogue.{Catalogue}
use Rattle.crossbeam_queue.specs.Passes.{Pass}
use Rattle.hall_sessions.specs.declared.world.World.{World}
use Rattle.job_board.specs.Calls.{BoardHolding}
use Rattle.link_queue.specs.declared.hand.QueueHand.{QueueHand}
use Rattle.server_workers.specs.declared.crew.Worker as code
use Rattle.server_workers.specs.Crew.{HasHeldSessions, IsNew, IsWorkerReady}
use Rattle.server_workers.specs.Stints.{Service, serving}
use Rattle.source_render.specs.Renders.{GivenImage}

-- where links are served: a queue of them, a hall, a board of jobs, and the catalogue
pub record ServingPlace : Type 0 where
  pub queue : TableId
  pub hall : TableId
  pub board : TableId
  pub catalogue : Catalogue

-- a worker: its pass of the hall, its place at the board, its hand at the queue, its source, and by which number that tells
pub record SessionWorker (L S : Type 0) : Type 0 where
  pub pass : HallPass
  pub board : BoardHolding
  pub hand : Pass L (QueueHand L)
  pub source : S
  pub tells : Option ℕ

module _ {K : Type 0} where
  -- at this queue, and with what the threads share
  abbrev pub place_of : World K → TableId → ServingPlace
  place_of w queue = record { queue = queue; hall = w.hall.turnstile.table; board = w.board.turnstile.table; catalogue = w.hall.catalogue }

  -- what is served with what the threads share, to links and by sources that are read so, under this first pass
  abbrev pub service_of : {L S : Type 0} → (left taken : L → Option (List ℕ)) → (reads writes : L → ℕ) → (faults : S → ℕ) → (gave : S → List GivenImage) → World K → HallPass → Service L S
  service_of left taken reads writes faults gave w first = serving left taken reads writes faults gave w.capabilities w.hall.catalogue w.recipes w.board.turnstile.table first

module _ {K S L : Type 0} (tells : S → Option ℕ) where
  abbrev pub worker_of : code.Worker K S L → SessionWorker L S
  worker_of w = record { pass = w.pass; board = w.board; hand = w.hand; source = w.source; tells = tells w.source }

module _ {L S : Type 0} where
  -- the worker may serve at this place
  abbrev pub MayServe : ServingPlace → SessionWorker L S → Type 0
  MayServe p w = IsWorkerReady p.queue p.hall p.board p.catalogue w.tells w.pass w.board w.hand

  -- it has held a session over each link that it took since its hand was so
  abbrev pub HasServedSince : Service L S → QueueHand L → SessionWorker L S → Type 0
  HasServedSince s before w = HasHeldSessions s before w.pass w.board w.source w.hand

  -- it has made nothing yet
  abbrev pub IsNewWorker : TableId → Service L S → SessionWorker L S → Type 0
  IsNewWorker queue s w = IsNew queue s w.tells w.pass w.board w.hand

module _ {K S L : Type 0} (tells : S → Option ℕ) where
  -- all of them may
  abbrev pub MayAllServe : ServingPlace → List (code.Worker K S L) → Type 0
  MayAllServe p ws = All (λ w. MayServe p (worker_of tells w)) ws

  -- all of them have
  abbrev pub HaveServedSince : Service L S → QueueHand L → List (code.Worker K S L) → Type 0
  HaveServedSince s before ws = All (λ w. HasServedSince s before (worker_of tells w)) ws

  abbrev pub AreNewWorkers : TableId → Service L S → List (code.Worker K S L) → Type 0
  AreNewWorkers queue s ws = All (λ w. IsNewWorker queue s (worker_of tells w)) ws
