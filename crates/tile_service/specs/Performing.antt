-- What a request comes to in the code: a tile goes through events, and all else has its outcome in one step.
-- A tie between the code and its definitions: the promise can be read without it.
use Rattle.std.specs.Prelude.{ℕ, ◌≡◌, ◌≤◌, ◌⊎◌, List, slice_set, MatchOption, Option, Some}
use Rattle.cabinet.specs.State.{State}
use Rattle.cache_core.specs.declared.actor.Step.{Step}
use Rattle.cache_core.specs.declared.outcome.TileOutcome as cached
use Rattle.matrix_geometry.specs.declared.address.Address.{Address}
use Rattle.tile_service.specs.declared.action_end.ActionEnd.{ActionEnd}
use Rattle.tile_service.specs.declared.action_end.ActionEnd.TheVariants.{Answers}
use Rattle.tile_requests.specs.declared.outcome.Outcome.{Outcome}
use Rattle.tile_requests.specs.declared.request.Mode.{Mode}
use Rattle.tile_requests.specs.declared.request.Mode.TheVariants.{Gets}
use Rattle.tile_requests.specs.declared.request.Request.{Request}
use Rattle.tile_requests.specs.declared.request.Request.TheVariants as request
use Rattle.tile_requests.specs.declared.spelling.Spelling.{Spelling}
use Rattle.tile_service.specs.declared.seats.ActorPlace.{ActorPlace}
use Rattle.tile_requests.specs.Events.{BeginsByLine}
use Rattle.tile_requests.specs.Immediate.{IsImmediate}
use Rattle.tile_requests.specs.Requests.{outcome_of, tile_of}
use Rattle.sessions.specs.Outside.{FaultCounts}
use Rattle.tile_service.specs.Seats.{action_end_of, next_seat}

-- WHERE ONE MESSAGE IS SERVED AT A TIME

-- the tile was asked for, rendered and finished one after the other, and this is its outcome
abbrev pub IsGot : Option ℕ → ℕ → ℕ → FaultCounts → State → Address → Outcome → State → Type 0
IsGot told before after disk s a o t = (step : Step) × (ended : cached.TileOutcome) × BeginsByLine told before after disk.before disk.after s a Gets step t × (step.outcome ≡ Some ended) × (o ≡ outcome_of ended)

-- any request: a tile was got, and what is answered without a render was answered so, and no source asked
abbrev pub IsAnswered : Option ℕ → ℕ → ℕ → FaultCounts → State → Request → Outcome → State → Type 0
IsAnswered told before after disk s r o t = MatchOption (tile_of r) (IsImmediate disk.before disk.after s r o t × (after ≡ before) × (disk.before ≤ disk.after)) (λ a. IsGot told before after disk s a o t)

-- WHERE THE CODE'S SEATS ARE

-- a request that an actor starts: a tile comes to its events and the seat after them, all else to its outcome, and nothing
-- else happens
abbrev pub IsAsked : Option ℕ → ℕ → ℕ → FaultCounts → State → List ActorPlace → ℕ → Mode → ℕ → Spelling → Request → State → List ActorPlace → ActionEnd → Type 0
IsAsked told before after disk s seats n mode i spelling r t seats' end =
    ((a : Address) × (step : Step) × (r ≡ request.Tile a) × BeginsByLine told before after disk.before disk.after s a mode step t × (end ≡ action_end_of i n spelling step.outcome) × (seats' ≡ slice_set seats i (next_seat n spelling a step.actor step.outcome)))
    ⊎ ((o : Outcome) × IsImmediate disk.before disk.after s r o t × (end ≡ Answers (record { actor = i; start = n; spelling = spelling; outcome = o })) × (seats' ≡ seats) × (after ≡ before) × (disk.before ≤ disk.after))
