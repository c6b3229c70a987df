-- What a further event of a request came to.
use Rattle.std.specs.Prelude.{ℕ, ◌≡◌, ◌≤◌, Bool, length, Option, Some}
use Rattle.cabinet.specs.State.{State, IsSound}
use Rattle.base.specs.Causes.{Rose, RoseBy}
use Rattle.matrix_geometry.specs.declared.address.Address.{Address}
use Rattle.cache_core.specs.declared.actor.Actor.{Actor}
use Rattle.cache_core.specs.declared.actor.Step.{Step}
use Rattle.cache_core.specs.Fits.{IsFit, IsTrueActor, IsTrueOutcome, IsFreshActor, IsFreshOutcome, ExtendsHistory, place_of}
use Rattle.cache_core.specs.Shown.{shown, IsFailed}
use Rattle.cache_core.specs.Steps.{advanced, disk_faults}

-- From s an actor came to t by its next event, while the source, modelled with this number or not, went from one count
-- of faults to another, and the disk did: memory was left for it or not, the clock gave a moment, what is kept went unread or not, a
-- rendering gave some bytes or failed, a kept blob that is not modelled had some bytes, a blob that was handed in went unwritten or not,
-- and all else is fixed. An actor that fits a request fits it afterwards. The source has failed at a render only where its count rose,
-- and what went unread or unwritten is no more than the disk's rose by. Where the source is modelled as the catalogue's, what is kept,
-- held and answered stays true. What is held and answered is fresh at the request's place.
pub record Advances (told : Option ℕ) (before after disk_before disk_after : ℕ) (s : State) (actor : Actor) (step : Step) (t : State) : Type 0 where
  pub left : Bool
  pub moment : ℕ
  pub unread : Bool
  pub bytes : Option (ℕ → ℕ)
  pub unwritten : Bool
  pub advanced : shown step t ≡ advanced s actor left moment unread bytes unwritten
  pub fits : (a : Address) → IsFit s.catalogue a actor → IsFit s.catalogue a step.actor
  pub later : before ≤ after
  pub cause : IsFailed step.actor → Rose before after
  pub disk_later : disk_before ≤ disk_after
  pub disk_cause : RoseBy (disk_faults unread unwritten) disk_before disk_after
  pub sound : told ≡ Some s.catalogue.source → IsSound s → IsTrueActor s.catalogue actor → IsSound t
  pub held : told ≡ Some s.catalogue.source → IsSound s → IsTrueActor s.catalogue actor → IsTrueActor s.catalogue step.actor
  pub truth : (a : Address) → IsFit s.catalogue a actor → told ≡ Some s.catalogue.source → IsSound s → IsTrueActor s.catalogue actor → IsTrueOutcome s.catalogue a step.outcome
  pub held_fresh : (a : Address) (p : ℕ) → IsFit s.catalogue a actor → p ≤ length s.history → IsFreshActor s.catalogue s.history p a actor → IsFreshActor s.catalogue t.history (place_of actor (length s.history) p) a step.actor
  pub fresh : (a : Address) (p : ℕ) → IsFit s.catalogue a actor → p ≤ length s.history → IsFreshActor s.catalogue s.history p a actor → IsFreshOutcome s.catalogue t.history (place_of actor (length s.history) p) a step.outcome
  pub grows : ExtendsHistory s.history t.history
  pub catalogue : t.catalogue ≡ s.catalogue
