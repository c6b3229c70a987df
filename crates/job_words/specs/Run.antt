-- The run of a job: its places, in order, each visited once.
use Rattle.std.specs.Prelude.{ℕ, ◌≡◌, ◌+◌, Bool, true, false, List, [], ◌∷◌, map, Option, Some, sum_by}
use Rattle.cabinet.specs.State.{State, IsSound}
use Rattle.cache_core.specs.Steps.{one_where}
use Rattle.base.specs.Causes.{RoseBy}
use Rattle.job_places.specs.declared.place.PlaceEnd.{PlaceEnd}
use Rattle.job_places.specs.declared.place.PlaceEnd.TheVariants.{Done, Failed, Unkept}
use Rattle.job_places.specs.declared.place.PlaceFault.{PlaceFault}
use Rattle.job_places.specs.declared.place.PlaceFault.TheVariants as fault
use Rattle.job_places.specs.Visits.{forces}
use Rattle.job_forms.specs.declared.job.Job.{Job}
use Rattle.job_forms.specs.Places.{places}
use Rattle.job_words.specs.Visit.{LoneVisit, IsVisited}
use Rattle.tile_requests.specs.Requests.{disk_faults_in}
use Rattle.sessions.specs.Outside.{FaultCounts}

-- these visits, one after the other, led from s to u
abbrev pub GoesThroughPlaces : Bool → State → List LoneVisit → State → Type 0
GoesThroughPlaces force s [] u = u ≡ s
GoesThroughPlaces force s (v ∷ vs) u = (t : State) × IsVisited force s v t × GoesThroughPlaces force t vs u

-- FAULTS

-- why a place failed: by the source, or by the disk at its cut
abbrev pub is_source : PlaceFault → Bool
is_source fault.Source = true
is_source fault.Spent = false
is_source fault.CutsFull = false
is_source fault.Disk = false
is_source fault.Memory = false

abbrev pub is_disk : PlaceFault → Bool
is_disk fault.Source = false
is_disk fault.Spent = false
is_disk fault.CutsFull = false
is_disk fault.Disk = true
is_disk fault.Memory = false

abbrev pub failed_by : (PlaceFault → Bool) → PlaceEnd → ℕ
failed_by which Done = 0
failed_by which Unkept = 0
failed_by which (Failed cause) = one_where (which cause)

-- how many places failed by the source
abbrev pub source_faults : List LoneVisit → ℕ
source_faults visits = sum_by (λ v. failed_by is_source v.end) visits

-- how many faults of the disk a visit names: those of its chances, and that of a cut that was not made
abbrev pub disk_faults_at : LoneVisit → ℕ
disk_faults_at v =
    disk_faults_in v.chances.asking + disk_faults_in v.chances.rendering + disk_faults_in v.chances.ending + failed_by is_disk v.end

abbrev pub disk_faults : List LoneVisit → ℕ
disk_faults visits = sum_by disk_faults_at visits

-- WHAT IS PROMISED OF IT

-- From s to u these visits were the run of a job, while the source, modelled with this number or not, and the disk went from one count of
-- faults to another. Each place of the job was visited once, in order. No more places failed by the source than its count rose by, and the
-- visits name no more faults of the disk than its count rose by. Where the source is modelled as the catalogue's, a sound cabinet stays
-- sound: what is kept is the picture of its number.
pub record IsJobRun (told : Option ℕ) (renders disk : FaultCounts) (job : Job) (visits : List LoneVisit) (s u : State) : Type 0 where
  pub each : map (λ v. v.place) visits ≡ places s.catalogue job
  pub goes : GoesThroughPlaces (forces job.kind) s visits u
  pub failed : RoseBy (source_faults visits) renders.before renders.after
  pub faults : RoseBy (disk_faults visits) disk.before disk.after
  pub sound : told ≡ Some s.catalogue.source → IsSound s → IsSound u
