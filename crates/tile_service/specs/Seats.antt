-- The seats of the actors in the code.
-- A tie between the code and its definitions: the promise can be read without it.
use Rattle.std.specs.Prelude.{ℕ, Bool, true, false, List, fold, Option, Some, None}
use Rattle.cabinet.specs.State.{State}
use Rattle.cache_core.specs.declared.actor.Actor.{Actor}
use Rattle.cache_core.specs.declared.outcome.TileOutcome as core
use Rattle.cache_core.specs.Steps.{given_up}
use Rattle.matrix_geometry.specs.declared.address.Address.{Address}
use Rattle.tile_service.specs.declared.action_end.ActionEnd.{ActionEnd}
use Rattle.tile_service.specs.declared.action_end.ActionEnd.TheVariants.{Silent, Answers}
use Rattle.tile_service.specs.declared.seats.Pending.{Pending}
use Rattle.tile_service.specs.declared.seats.ActorPlace.{ActorPlace}
use Rattle.tile_service.specs.declared.seats.ActorPlace.TheVariants.{Free, Busy}
use Rattle.tile_requests.specs.declared.spelling.Spelling.{Spelling}
use Rattle.tile_requests.specs.Requests.{outcome_of}

-- there is the seat, and no actor sits there
abbrev pub is_free : Option ActorPlace → Bool
is_free None = false
is_free (Some Free) = true
is_free (Some (Busy pending)) = false

-- the pending request at a seat, where there is one
abbrev pub pending_at : Option ActorPlace → Option Pending
pending_at None = None
pending_at (Some Free) = None
pending_at (Some (Busy pending)) = Some pending

-- the seat after events of a request, and how the action ends
abbrev pub next_seat : ℕ → Spelling → Address → Actor → Option core.TileOutcome → ActorPlace
next_seat start spelling a actor None = Busy (record { start = start; spelling = spelling; address = a; actor = actor })
next_seat start spelling a actor (Some o) = Free

abbrev pub action_end_of : ℕ → ℕ → Spelling → Option core.TileOutcome → ActionEnd
action_end_of i start spelling None = Silent
action_end_of i start spelling (Some o) = Answers (record { actor = i; start = start; spelling = spelling; outcome = outcome_of o })

-- the actor of a seat gives up
abbrev pub left_at : State → ActorPlace → State
left_at s Free = s
left_at s (Busy pending) = given_up s pending.actor

-- the actors of all seats give up, in order
abbrev pub all_left : State → List ActorPlace → State
all_left s seats = fold left_at s seats
