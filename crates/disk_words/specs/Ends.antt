-- What each end of a word says.
use Rattle.std.specs.Prelude.{ℕ, ◌≡◌, ◌⊎◌, zero, suc, IsTrue, length, Option, Some, None, Result, Ok, Err}
use Rattle.std.specs.declared.alloc.AllocError.{AllocError}
use Rattle.cabinet.specs.Commands.{Cuts, Expires}
use Rattle.cabinet.specs.declared.replies.CutReply.{CutReply}
use Rattle.cabinet.specs.declared.replies.CutReply.TheVariants as cut
use Rattle.cabinet.specs.declared.replies.Expired.TheVariants as expired
use Rattle.cabinet.specs.State.{State}
use Rattle.catalog.specs.declared.catalogue.Catalogue.{Catalogue}
use Rattle.base.specs.Causes.{Rose}
use Rattle.cabinet_records.specs.Replay.{unplayed}
use Rattle.base.specs.Readings.{Readings}
use Rattle.disk_model.specs.Images.{Every}
use Rattle.durable_cabinet.specs.Images.{IsOurs, OpensTo, blobs_start}
use Rattle.gate_journal.specs.declared.fault.OpenFault.TheVariants as fault
use Rattle.command_status.specs.declared.status.Status.{Status}
use Rattle.command_status.specs.declared.status.Status.TheVariants as status
use Rattle.opened_cache.specs.Change.{DiskChange, HasFailed, HasWritten, IsCutShort}
use Rattle.sessions.specs.Outside.{InputChange, OutputChange}
use Rattle.opened_cache.specs.Crash.{OpeningLeaves}
use Rattle.opened_cache.specs.Opened.{HasOpened, IsRefused, RefusalLeaves}
use Rattle.opened_cache.specs.Texts.{Sends}
use Rattle.disk_words.specs.Covers.{IsCoverIn, IsFormedSo, IsTooLong}
use Rattle.disk_words.specs.Texts.{cut_text, dropped_text, made_text}
use Rattle.metatile_plan.specs.declared.metatile.MetaKey.{MetaKey}
use Rattle.tile_requests.specs.Texts.{usage_text}
use Rattle.truncation_list.specs.declared.cover.Cover.{Cover}

-- USAGE: `Stays` is that the output stays as it is
abbrev pub TellsUsage : Catalogue → Readings → DiskChange → OutputChange → Type 0 → Status → Type 0
TellsUsage c clock d o Stays status.Done = (s : State) × HasOpened c clock d s s × HasWritten o (usage_text s)
TellsUsage c clock d o Stays status.WriteFault = (s : State) × HasOpened c clock d s s × IsCutShort o (usage_text s)
TellsUsage c clock d o Stays (status.Cache cause) = IsRefused c d cause × Stays × RefusalLeaves c d cause
TellsUsage c clock d o Stays status.DiskFault = HasFailed d × Stays × OpeningLeaves c d
TellsUsage c clock d o Stays status.OutOfMemory = Stays × (OpeningLeaves c d ⊎ ((s : State) × HasOpened c clock d s s))
TellsUsage c clock d o Stays status.ReadFault = ⊥
TellsUsage c clock d o Stays status.TooLong = ⊥
TellsUsage c clock d o Stays (status.Form cause) = ⊥
TellsUsage c clock d o Stays status.CutsFull = ⊥
TellsUsage c clock d o Stays (status.Line n) = ⊥
TellsUsage c clock d o Stays (status.Stream session) = ⊥
TellsUsage c clock d o Stays status.Usage = ⊥
TellsUsage c clock d o Stays (status.Catalogue fault) = ⊥
TellsUsage c clock d o Stays status.ListenFault = ⊥
TellsUsage c clock d o Stays status.ThreadFault = ⊥

-- TRUNCATE

-- the cache was opened, and the disk failed at the cut
abbrev pub HasFailedAtCut : Catalogue → Readings → Cover → DiskChange → Type 0
HasFailedAtCut c clock cover d = (s : State) × (u : State) × (b : ℕ) × (a : ℕ) × HasOpened c clock d s u × Cuts s cover (cut.DiskFault b a) u

abbrev pub CutsOnce : Catalogue → Readings → Cover → DiskChange → OutputChange → Type 0 → Status → Type 0
CutsOnce c clock cover d o Stays status.Done = (s : State) × (u : State) × (t : ℕ) × HasOpened c clock d s u × Cuts s cover (cut.Done t) u × HasWritten o (cut_text t)
CutsOnce c clock cover d o Stays status.WriteFault = (s : State) × (u : State) × (t : ℕ) × HasOpened c clock d s u × Cuts s cover (cut.Done t) u × IsCutShort o (cut_text t)
CutsOnce c clock cover d o Stays status.CutsFull = (s : State) × (u : State) × HasOpened c clock d s u × Cuts s cover cut.Full u × Stays
CutsOnce c clock cover d o Stays (status.Cache cause) = ((IsRefused c d cause × RefusalLeaves c d cause) ⊎ ((cause ≡ fault.Spent) × ((s : State) × (u : State) × HasOpened c clock d s u × Cuts s cover cut.Spent u))) × Stays
CutsOnce c clock cover d o Stays status.DiskFault = HasFailed d × Stays × (OpeningLeaves c d ⊎ HasFailedAtCut c clock cover d)
CutsOnce c clock cover d o Stays status.OutOfMemory = Stays × (OpeningLeaves c d ⊎ ((s : State) × HasOpened c clock d s s))
CutsOnce c clock cover d o Stays status.ReadFault = ⊥
CutsOnce c clock cover d o Stays status.TooLong = ⊥
CutsOnce c clock cover d o Stays (status.Form cause) = ⊥
CutsOnce c clock cover d o Stays (status.Line n) = ⊥
CutsOnce c clock cover d o Stays (status.Stream session) = ⊥
CutsOnce c clock cover d o Stays status.Usage = ⊥
CutsOnce c clock cover d o Stays (status.Catalogue fault) = ⊥
CutsOnce c clock cover d o Stays status.ListenFault = ⊥
CutsOnce c clock cover d o Stays status.ThreadFault = ⊥

-- the input had a cover, and the cut of it ended so
abbrev pub CutsRead : Catalogue → Readings → InputChange → DiskChange → OutputChange → Type 0 → Status → Type 0
CutsRead c clock i d o Stays e = (cover : Cover) × IsCoverIn c i cover × CutsOnce c clock cover d o Stays e

-- before the cover is read to its end the disk stays as it is
abbrev pub Truncates : Catalogue → Readings → InputChange → DiskChange → OutputChange → Type 0 → Type 0 → Status → Type 0
Truncates c clock i d o DiskStays Stays status.ReadFault = Rose i.reads.before i.reads.after × DiskStays × Stays
Truncates c clock i d o DiskStays Stays status.TooLong = IsTooLong i × DiskStays × Stays
Truncates c clock i d o DiskStays Stays (status.Form cause) = IsFormedSo c i cause × DiskStays × Stays
Truncates c clock i d o DiskStays Stays status.OutOfMemory = (DiskStays × Stays) ⊎ CutsRead c clock i d o Stays status.OutOfMemory
Truncates c clock i d o DiskStays Stays status.Done = CutsRead c clock i d o Stays status.Done
Truncates c clock i d o DiskStays Stays status.WriteFault = CutsRead c clock i d o Stays status.WriteFault
Truncates c clock i d o DiskStays Stays status.CutsFull = CutsRead c clock i d o Stays status.CutsFull
Truncates c clock i d o DiskStays Stays (status.Cache cause) = CutsRead c clock i d o Stays (status.Cache cause)
Truncates c clock i d o DiskStays Stays status.DiskFault = CutsRead c clock i d o Stays status.DiskFault
Truncates c clock i d o DiskStays Stays (status.Line n) = ⊥
Truncates c clock i d o DiskStays Stays (status.Stream session) = ⊥
Truncates c clock i d o DiskStays Stays status.Usage = ⊥
Truncates c clock i d o DiskStays Stays (status.Catalogue fault) = ⊥
Truncates c clock i d o DiskStays Stays status.ListenFault = ⊥
Truncates c clock i d o DiskStays Stays status.ThreadFault = ⊥

-- how the reply of the one cut is told
abbrev pub TellsCut : OutputChange → Type 0 → Result CutReply AllocError → Status → Type 0
TellsCut o Stays (Ok (cut.Done t)) e = Sends o (cut_text t) e
TellsCut o Stays (Ok cut.Full) e = (e ≡ status.CutsFull) × Stays
TellsCut o Stays (Ok (cut.DiskFault b a)) e = (e ≡ status.DiskFault) × Stays
TellsCut o Stays (Ok cut.Spent) e = (e ≡ status.Cache fault.Spent) × Stays
TellsCut o Stays (Err failed) e = (e ≡ status.OutOfMemory) × Stays

-- EXPIRE

-- from s so many metatiles were dropped, one after the other
abbrev pub Drops : ℕ → State → State → Type 0
Drops zero s u = u ≡ s
Drops (suc n) s u = (t : State) × Drops n s t × ((m : MetaKey) × Expires t (expired.Dropped m) u)

-- metatiles are dropped until no quota is exceeded
abbrev pub HasDropped : Catalogue → Readings → DiskChange → ℕ → Type 0
HasDropped c clock d n = (s : State) × (u : State) × HasOpened c clock d s u × Drops n s u × Expires u expired.Within u

-- some were dropped, and then the disk failed
abbrev pub HasDroppedSome : Catalogue → Readings → DiskChange → Type 0
HasDroppedSome c clock d = (n : ℕ) × (s : State) × (u : State) × HasOpened c clock d s u × Drops n s u

abbrev pub DropsAll : Catalogue → Readings → DiskChange → OutputChange → Type 0 → Status → Type 0
DropsAll c clock d o Stays status.Done = (n : ℕ) × HasDropped c clock d n × HasWritten o (dropped_text n)
DropsAll c clock d o Stays status.WriteFault = (n : ℕ) × HasDropped c clock d n × IsCutShort o (dropped_text n)
DropsAll c clock d o Stays (status.Cache cause) = IsRefused c d cause × Stays × RefusalLeaves c d cause
DropsAll c clock d o Stays status.DiskFault = HasFailed d × Stays × (OpeningLeaves c d ⊎ HasDroppedSome c clock d)
DropsAll c clock d o Stays status.OutOfMemory = Stays × OpeningLeaves c d
DropsAll c clock d o Stays status.ReadFault = ⊥
DropsAll c clock d o Stays status.TooLong = ⊥
DropsAll c clock d o Stays (status.Form cause) = ⊥
DropsAll c clock d o Stays status.CutsFull = ⊥
DropsAll c clock d o Stays (status.Line n) = ⊥
DropsAll c clock d o Stays (status.Stream session) = ⊥
DropsAll c clock d o Stays status.Usage = ⊥
DropsAll c clock d o Stays (status.Catalogue fault) = ⊥
DropsAll c clock d o Stays status.ListenFault = ⊥
DropsAll c clock d o Stays status.ThreadFault = ⊥

-- how the count of the dropped metatiles is told, or that the disk failed
abbrev pub TellsDropped : OutputChange → Type 0 → Option ℕ → Status → Type 0
TellsDropped o Stays (Some n) e = Sends o (dropped_text n) e
TellsDropped o Stays None e = (e ≡ status.DiskFault) × Stays

-- MAKE
-- each image opens to nothing kept, no cut and no opening, and is the file of a cabinet; the disk has a journal, and no blobs
pub record IsMade (c : Catalogue) (d : DiskChange) : Type 0 where
  pub images : IsTrue d.told → Every d.to.may_leave (λ image. OpensTo c image unplayed × IsOurs c image)
  pub bare : IsTrue d.told → length d.to.seen ≡ blobs_start c

-- it takes no memory
abbrev pub Makes : Catalogue → DiskChange → OutputChange → Type 0 → Status → Type 0
Makes c d o Stays status.Done = IsMade c d × HasWritten o made_text
Makes c d o Stays status.WriteFault = IsMade c d × IsCutShort o made_text
Makes c d o Stays status.DiskFault = HasFailed d × Stays
Makes c d o Stays status.ReadFault = ⊥
Makes c d o Stays status.TooLong = ⊥
Makes c d o Stays (status.Form cause) = ⊥
Makes c d o Stays (status.Cache cause) = ⊥
Makes c d o Stays status.CutsFull = ⊥
Makes c d o Stays (status.Line n) = ⊥
Makes c d o Stays (status.Stream session) = ⊥
Makes c d o Stays status.OutOfMemory = ⊥
Makes c d o Stays status.Usage = ⊥
Makes c d o Stays (status.Catalogue fault) = ⊥
Makes c d o Stays status.ListenFault = ⊥
Makes c d o Stays status.ThreadFault = ⊥
