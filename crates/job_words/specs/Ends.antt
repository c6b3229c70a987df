-- What each end of the word `job` says.
use Rattle.std.specs.Prelude.{ℕ, ◌≡◌, ◌⊎◌, List, ◌++◌, map, Option, Some, codes, decimal}
use Rattle.cabinet.specs.State.{IsSound, State}
use Rattle.catalog.specs.declared.catalogue.Catalogue.{Catalogue}
use Rattle.base.specs.Causes.{Rose}
use Rattle.base.specs.Readings.{Readings}
use Rattle.job_places.specs.declared.tally.Tally.{Tally}
use Rattle.job_places.specs.Tallies.{tally_of}
use Rattle.job_forms.specs.declared.job.Job.{Job}
use Rattle.job_forms.specs.declared.job.JobKind.{JobKind}
use Rattle.job_forms.specs.declared.job.JobKind.TheVariants.{Seed, Reseed, Truncate}
use Rattle.job_words.specs.Input.{IsFormedSo, IsJobIn, IsTooLong}
use Rattle.job_words.specs.Run.{IsJobRun}
use Rattle.job_words.specs.Visit.{LoneVisit}
use Rattle.command_status.specs.declared.status.Status.{Status}
use Rattle.command_status.specs.declared.status.Status.TheVariants as status
use Rattle.opened_cache.specs.Change.{DiskChange, HasFailed, HasWritten, IsCutShort}
use Rattle.sessions.specs.Outside.{FaultCounts, InputChange, OutputChange, Outside}
use Rattle.opened_cache.specs.Crash.{OpeningLeaves}
use Rattle.opened_cache.specs.Opened.{HasOpened, IsRefused, RefusalLeaves}
use Rattle.opened_cache.specs.Saving.{SavesAll}

-- THE TEXT of a tally

abbrev pub kind_text : JobKind → List ℕ
kind_text Seed = codes "seed"
kind_text Reseed = codes "reseed"
kind_text Truncate = codes "truncate"

abbrev pub job_text : JobKind → Tally → List ℕ
job_text kind tally =
    codes "job " ++ kind_text kind ++ codes " places " ++ decimal tally.places ++ codes " done " ++ decimal tally.done ++ codes " failed " ++ decimal tally.failed ++ codes "\n"

-- THE WORK

-- From s these visits were the run of the job, and then the uses of what is kept were saved, to u. The faults of the disk are counted over
-- the whole word, from before the opening until after the saving. Where the source is modelled as the catalogue's, what is then kept is the pictures of the
-- numbers, if what was opened was.
pub record RunsAndSaves (told : Option ℕ) (renders disk : FaultCounts) (job : Job) (visits : List LoneVisit) (s u : State) : Type 0 where
  pub ran : State
  pub run : IsJobRun told renders disk job visits s ran
  pub saves : SavesAll disk ran u
  pub sound : told ≡ Some s.catalogue.source → IsSound s → IsSound u

-- the output alone of what a word saw
abbrev pub output_of : Outside → OutputChange
output_of o = record { writes = o.writes; from = o.from; to = o.to }

-- the cache was opened, the job was run, the uses were saved and the cache was closed; so many places were rendered and could not be kept, and
-- this holds of the text of the tally
abbrev pub HasRun : Catalogue → Readings → Job → Outside → DiskChange → ℕ → (List ℕ → Type 0) → Type 0
HasRun c clock job o d unkept Written =
    (s : State) × (u : State) × HasOpened c clock d s u × (visits : List LoneVisit) × RunsAndSaves o.told o.renders o.disk job visits s u
    × (unkept ≡ (tally_of (map (λ v. v.end) visits)).unkept) × Written (job_text job.kind (tally_of (map (λ v. v.end) visits)))

-- THE ENDS

-- What each end says of a job that was read, and of the count of its places that could not be kept, which is 0 where it wasn't run. `Stays` is that
-- the output and the source stay as they are. No fault of the disk ends the run of a job.
abbrev pub IsDoneSo : Catalogue → Readings → Job → Outside → DiskChange → Type 0 → ℕ → Status → Type 0
IsDoneSo c clock job o d Stays unkept status.Done = HasRun c clock job o d unkept (HasWritten (output_of o))
IsDoneSo c clock job o d Stays unkept status.WriteFault = HasRun c clock job o d unkept (IsCutShort (output_of o))
IsDoneSo c clock job o d Stays unkept (status.Cache cause) = IsRefused c d cause × Stays × RefusalLeaves c d cause × (unkept ≡ 0)
IsDoneSo c clock job o d Stays unkept status.DiskFault = HasFailed d × Stays × OpeningLeaves c d × (unkept ≡ 0)
IsDoneSo c clock job o d Stays unkept status.OutOfMemory = Stays × OpeningLeaves c d × (unkept ≡ 0)
IsDoneSo c clock job o d Stays unkept status.ReadFault = ⊥
IsDoneSo c clock job o d Stays unkept status.TooLong = ⊥
IsDoneSo c clock job o d Stays unkept (status.Form cause) = ⊥
IsDoneSo c clock job o d Stays unkept status.CutsFull = ⊥
IsDoneSo c clock job o d Stays unkept (status.Line n) = ⊥
IsDoneSo c clock job o d Stays unkept (status.Stream session) = ⊥
IsDoneSo c clock job o d Stays unkept status.Usage = ⊥
IsDoneSo c clock job o d Stays unkept (status.Catalogue fault) = ⊥
IsDoneSo c clock job o d Stays unkept status.ListenFault = ⊥
IsDoneSo c clock job o d Stays unkept status.ThreadFault = ⊥

-- the input had a job, and its run ended so
abbrev pub RunsRead : Catalogue → Readings → InputChange → Outside → DiskChange → Type 0 → ℕ → Status → Type 0
RunsRead c clock i o d Stays unkept e = (job : Job) × IsJobIn c i job × IsDoneSo c clock job o d Stays unkept e

-- before the job is read to its end the disk stays as it is, and no place is counted
abbrev pub RunsJob : Catalogue → Readings → InputChange → Outside → DiskChange → Type 0 → Type 0 → ℕ → Status → Type 0
RunsJob c clock i o d DiskStays Stays unkept status.ReadFault = Rose i.reads.before i.reads.after × DiskStays × Stays × (unkept ≡ 0)
RunsJob c clock i o d DiskStays Stays unkept status.TooLong = IsTooLong i × DiskStays × Stays × (unkept ≡ 0)
RunsJob c clock i o d DiskStays Stays unkept (status.Form cause) = IsFormedSo c i cause × DiskStays × Stays × (unkept ≡ 0)
RunsJob c clock i o d DiskStays Stays unkept status.OutOfMemory = (DiskStays × Stays × (unkept ≡ 0)) ⊎ RunsRead c clock i o d Stays unkept status.OutOfMemory
RunsJob c clock i o d DiskStays Stays unkept status.Done = RunsRead c clock i o d Stays unkept status.Done
RunsJob c clock i o d DiskStays Stays unkept status.WriteFault = RunsRead c clock i o d Stays unkept status.WriteFault
RunsJob c clock i o d DiskStays Stays unkept (status.Cache cause) = RunsRead c clock i o d Stays unkept (status.Cache cause)
RunsJob c clock i o d DiskStays Stays unkept status.DiskFault = RunsRead c clock i o d Stays unkept status.DiskFault
RunsJob c clock i o d DiskStays Stays unkept status.CutsFull = ⊥
RunsJob c clock i o d DiskStays Stays unkept (status.Line n) = ⊥
RunsJob c clock i o d DiskStays Stays unkept (status.Stream session) = ⊥
RunsJob c clock i o d DiskStays Stays unkept status.Usage = ⊥
RunsJob c clock i o d DiskStays Stays unkept (status.Catalogue fault) = ⊥
RunsJob c clock i o d DiskStays Stays unkept status.ListenFault = ⊥
RunsJob c clock i o d DiskStays Stays unkept status.ThreadFault = ⊥
