-- What the first event of a request came to.
use Rattle.std.specs.Prelude.{ℕ, ◌≡◌, ◌≤◌, Bool, false, length, Option}
use Rattle.cabinet.specs.State.{State, IsSound}
use Rattle.base.specs.Causes.{RoseBy}
use Rattle.matrix_geometry.specs.declared.address.Address.{Address}
use Rattle.cache_core.specs.declared.actor.Step.{Step}
use Rattle.cache_core.specs.Fits.{IsFit, IsTrueActor, IsTrueOutcome, IsFreshActor, IsFreshOutcome, ExtendsHistory}
use Rattle.cache_core.specs.Shown.{shown, IsFailed}
use Rattle.cache_core.specs.Steps.{began, disk_faults}

-- From s a request for a tile, with force or without, came to t by its first event, while the disk went from one count of faults to
-- another: memory was left for it or not, the clock gave a moment, what is kept went unread or not, a kept blob that is not modelled had
-- some bytes, and all else is fixed. It goes unread only where the disk's count rose. The actor fits the request, the cabinet stays
-- sound, what is answered from a sound one is true, and what is held or answered is fresh at this ask.
pub record Begins (before after : ℕ) (s : State) (a : Address) (force : Bool) (step : Step) (t : State) : Type 0 where
  pub left : Bool
  pub moment : ℕ
  pub unread : Bool
  pub bytes : Option (ℕ → ℕ)
  pub began : shown step t ≡ began s a force left moment unread bytes
  pub later : before ≤ after
  pub cause : RoseBy (disk_faults unread false) before after
  pub fits : IsFit s.catalogue a step.actor
  pub actor : IsTrueActor s.catalogue step.actor
  pub not_failed : IsFailed step.actor → ⊥
  pub sound : IsSound s → IsSound t
  pub truth : IsSound s → IsTrueOutcome s.catalogue a step.outcome
  pub held_fresh : IsFreshActor s.catalogue t.history (length s.history) a step.actor
  pub fresh : IsFreshOutcome s.catalogue t.history (length s.history) a step.outcome
  pub grows : ExtendsHistory s.history t.history
  pub catalogue : t.catalogue ≡ s.catalogue
