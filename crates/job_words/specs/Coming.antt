-- What one visit came to.
-- A tie between the code and its definitions: the promise can be read without it.
use Rattle.std.specs.Prelude.{ℕ, ◌≡◌, ◌≤◌, Bool, Option, Some}
use Rattle.cabinet.specs.State.{State, IsSound}
use Rattle.base.specs.Causes.{RoseBy}
use Rattle.job_forms.specs.Places.{Place}
use Rattle.job_places.specs.declared.place.PlaceEnd.{PlaceEnd}
use Rattle.job_words.specs.Run.{disk_faults_at, failed_by, is_source}
use Rattle.job_words.specs.Visit.{Chances, IsVisitedAt}
use Rattle.sessions.specs.Outside.{FaultCounts}
use Rattle.tile_service.specs.Session.{IsAtRest}

-- From s a visit to a place came to t and ended so, while the source and the disk went from one count of faults to another. No render runs
-- after it.
pub record ComesTo (told : Option ℕ) (renders disk : FaultCounts) (force : Bool) (s : State) (place : Place) (end : PlaceEnd) (t : State) : Type 0 where
  pub chances : Chances
  pub made : IsVisitedAt force s place chances end t
  pub later : renders.before ≤ renders.after
  pub disk_later : disk.before ≤ disk.after
  pub failed : RoseBy (failed_by is_source end) renders.before renders.after
  pub faults : RoseBy (disk_faults_at (record { place = place; chances = chances; end = end })) disk.before disk.after
  pub sound : told ≡ Some s.catalogue.source → IsSound s → IsSound t
  pub catalogue : t.catalogue ≡ s.catalogue
  pub rests : IsAtRest t
