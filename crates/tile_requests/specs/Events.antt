-- What events of one request came to.
-- A tie between the code and its definitions: the promise can be read without it.
use Rattle.std.specs.Prelude.{ℕ, ◌≡◌, ◌≤◌, ◌+◌, Bool, true, false, length, Result, Ok, Err, Option, Some, None, ◌⊎◌}
use Rattle.cabinet.specs.State.{State, IsSound}
use Rattle.cache_access.specs.declared.fault.GetFault.{GetFault}
use Rattle.cache_access.specs.declared.fault.GetFault.TheVariants as fault
use Rattle.cache_access.specs.declared.refreshed.Refreshed.{Refreshed}
use Rattle.cache_access.specs.Refreshes.{number_of}
use Rattle.cache_core.specs.declared.actor.Actor.{Actor}
use Rattle.cache_core.specs.declared.actor.Actor.TheVariants as actor
use Rattle.cache_core.specs.declared.actor.Step.{Step}
use Rattle.cache_core.specs.declared.outcome.Tile.{Tile}
use Rattle.cache_core.specs.declared.outcome.TileOutcome.{TileOutcome}
use Rattle.cache_core.specs.declared.outcome.TileOutcome.TheVariants as outcome
use Rattle.cache_core.specs.Advanced.{Advances}
use Rattle.cache_core.specs.Begun.{Begins}
use Rattle.cache_core.specs.Fits.{IsFit, IsTrueActor, IsTrueOutcome, IsFreshActor, IsFreshOutcome, ExtendsHistory}
use Rattle.cache_core.specs.Shown.{shown, IsIdle}
use Rattle.base.specs.Causes.{RoseBy}
use Rattle.matrix_geometry.specs.declared.address.Address.{Address}
use Rattle.tile_requests.specs.declared.request.Mode.{Mode}
use Rattle.tile_requests.specs.Requests.{Chance, disk_faults_in, is_at_work, events, owed}

-- where so many failures, and others beside them, were no more than a count rose by, so many now are no more than it rose by
abbrev pub StayCovered : ℕ → ℕ → ℕ → ℕ → Type 0
StayCovered before after old new = (from : ℕ) (others : ℕ) → RoseBy (others + old) from before → RoseBy (others + new) from after

-- 1 where the request ends in a failure of the source
abbrev pub failing : Option TileOutcome → ℕ
failing None = 0
failing (Some (outcome.Tile tile)) = 0
failing (Some outcome.SourceFailed) = 1
failing (Some outcome.Spent) = 0
failing (Some outcome.NoMemory) = 0

-- a request goes on until it has an outcome
abbrev pub GoesOn : Actor → Option TileOutcome → Type 0
GoesOn a None = IsIdle a → ⊥
GoesOn a (Some o) = a ≡ actor.Idle

-- From s to t, while the source went from one count of faults to another, an actor that held what `first` holds came to this
-- step of a request for the tile, whose last ask or force was made when the history had p entries.
pub record MovesRequest (told : Option ℕ) (before after : ℕ) (s : State) (first : Actor) (a : Address) (p : ℕ) (step : Step) (t : State) : Type 0 where
  pub fits : IsFit s.catalogue a step.actor
  pub goes_on : GoesOn step.actor step.outcome
  pub later : before ≤ after
  pub failed : StayCovered before after (owed first) (failing step.outcome + owed step.actor)
  pub sound : told ≡ Some s.catalogue.source → IsSound s → IsTrueActor s.catalogue first → IsSound t
  pub held : told ≡ Some s.catalogue.source → IsSound s → IsTrueActor s.catalogue first → IsTrueActor s.catalogue step.actor
  pub truth : told ≡ Some s.catalogue.source → IsSound s → IsTrueActor s.catalogue first → IsTrueOutcome s.catalogue a step.outcome
  pub within : p ≤ length t.history
  pub held_fresh : IsFreshActor s.catalogue t.history p a step.actor
  pub fresh : IsFreshOutcome s.catalogue t.history p a step.outcome
  pub grows : ExtendsHistory s.history t.history
  pub catalogue : t.catalogue ≡ s.catalogue

-- one more event of an actor that has work
abbrev pub GoesFurther : Option ℕ → ℕ → ℕ → ℕ → ℕ → State → Step → Step → State → Type 0
GoesFurther told before after disk_before disk_after s old step t =
    ((is_at_work old.actor ≡ false) × (step ≡ old) × (t ≡ s) × (before ≤ after) × (disk_before ≤ disk_after)) ⊎ ((is_at_work old.actor ≡ true) × Advances told before after disk_before disk_after s old.actor step t)

-- the events of the line that asks for the tile, under some chance, which names no more faults of the disk than its count rose by
pub record BeginsByLine (told : Option ℕ) (before after disk_before disk_after : ℕ) (s : State) (a : Address) (mode : Mode) (step : Step) (t : State) : Type 0 where
  pub chance : Chance
  pub made : shown step t ≡ events mode s a chance
  pub disk_later : disk_before ≤ disk_after
  pub disk_cause : RoseBy (disk_faults_in chance) disk_before disk_after
  pub moves : MovesRequest told before after s actor.Idle a (length s.history) step t

-- ONE AFTER ANOTHER, of a thread that has the cabinet for itself

-- the step at which a request has its outcome
abbrev pub ended_so : TileOutcome → Step
ended_so o = record { actor = actor.Idle; outcome = Some o }

-- From s to t a request for the tile, with force or without, had this outcome, by an ask or a force and two events more, if there was work
-- for them, while the source and the disk went from one count of faults to another. What the events say of a modelled source is left out.
pub record RunsTo (before after disk_before disk_after : ℕ) (s : State) (a : Address) (force : Bool) (o : TileOutcome) (t : State) : Type 0 where
  pub asked : Step
  pub at_ask : State
  pub disk_asked : ℕ
  pub begins : Begins disk_before disk_asked s a force asked at_ask
  pub rendered : Step
  pub at_render : State
  pub mid : ℕ
  pub disk_mid : ℕ
  pub renders : GoesFurther None before mid disk_asked disk_mid at_ask asked rendered at_render
  pub ends : GoesFurther None mid after disk_mid disk_after at_render rendered (ended_so o) t

-- the outcome of a request whose get came to this
abbrev pub ended_by : Result Tile GetFault → TileOutcome
ended_by (Ok tile) = outcome.Tile tile
ended_by (Err fault.SourceFault) = outcome.SourceFailed
ended_by (Err fault.Spent) = outcome.Spent
ended_by (Err fault.OutOfMemory) = outcome.NoMemory

-- a request whose refresh came to this has such an outcome: of a tile, the number is said
abbrev pub RefreshEndsAs : Result Refreshed GetFault → TileOutcome → Type 0
RefreshEndsAs (Ok x) o = (tile : Tile) × (o ≡ outcome.Tile tile) × (tile.number ≡ number_of x)
RefreshEndsAs (Err fault.SourceFault) o = o ≡ outcome.SourceFailed
RefreshEndsAs (Err fault.Spent) o = o ≡ outcome.Spent
RefreshEndsAs (Err fault.OutOfMemory) o = o ≡ outcome.NoMemory
