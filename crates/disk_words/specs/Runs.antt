-- What the run of a schedule and the serving of a connection come to on the cache of a disk.
use Rattle.std.specs.Prelude.{ℕ, ◌≡◌, ◌⊎◌, List, Some}
use Rattle.cabinet.specs.State.{IsSound, State}
use Rattle.catalog.specs.declared.catalogue.Catalogue.{Catalogue}
use Rattle.base.specs.Readings.{Readings}
use Rattle.command_status.specs.declared.status.Status.{Status}
use Rattle.command_status.specs.declared.status.Status.TheVariants as status
use Rattle.opened_cache.specs.Change.{DiskChange, HasFailed}
use Rattle.opened_cache.specs.Crash.{OpeningLeaves}
use Rattle.opened_cache.specs.Opened.{HasOpened, IsRefused, RefusalLeaves}
use Rattle.opened_cache.specs.Saving.{SavesAll}
use Rattle.tile_service.specs.declared.schedule.ScheduleEnd.{ScheduleEnd}
use Rattle.tile_service.specs.declared.schedule.ScheduleEnd.TheVariants as schedule
use Rattle.sessions.specs.declared.session.SessionEnd.{SessionEnd}
use Rattle.sessions.specs.declared.session.SessionEnd.TheVariants as session
use Rattle.sessions.specs.Outside.{InputChange, Outside}
use Rattle.tile_service.specs.Run.{RunState, free_seats, run_state_of}
use Rattle.tile_service.specs.Schedules.{SchedulesThrough}
use Rattle.tile_service.specs.Replays.{HasSessionThrough}

-- In what follows the faults of the disk are counted over the whole word, from before the opening until after the saving. `P` is said of the cabinet after
-- each line of a schedule and after each message of a session.

-- SCHEDULE

-- From s a schedule came to a world, and then its uses were saved, to u; `Stays` is that the output and the source stay as they are. Where
-- nothing was run the cabinet is as it was before the saving. Where the source is modelled as the catalogue's, what the cabinet then keeps is the pictures
-- of the numbers, if what was opened was.
pub record RunsAndSaves (P : State → Type 0) (document : List ℕ) (i : InputChange) (o : Outside) (Stays : Type 0) (s u : State) (e : ScheduleEnd) : Type 0 where
  pub world : RunState
  pub schedules : SchedulesThrough P i o (Stays × (world.cabinet ≡ s)) (run_state_of s document free_seats) world e
  pub saves : SavesAll o.disk world.cabinet u
  pub sound : o.told ≡ Some s.catalogue.source → IsSound s → IsSound u

-- the cache was opened, a schedule ended so, and the cache was closed
abbrev pub HasScheduled : (State → Type 0) → Catalogue → Readings → List ℕ → InputChange → Outside → DiskChange → Type 0 → ScheduleEnd → Type 0
HasScheduled P c clock document i o d Stays e = (s : State) × (u : State) × HasOpened c clock d s u × RunsAndSaves P document i o Stays s u e

-- what each end says; no fault of the disk ends what is run
abbrev pub RunsSchedule : (State → Type 0) → Catalogue → Readings → List ℕ → InputChange → Outside → DiskChange → Type 0 → Type 0 → Status → Type 0
RunsSchedule P c clock document i o d InputStays Stays status.Done = HasScheduled P c clock document i o d Stays schedule.Done
RunsSchedule P c clock document i o d InputStays Stays (status.Line n) = HasScheduled P c clock document i o d Stays (schedule.Line n)
RunsSchedule P c clock document i o d InputStays Stays status.ReadFault = HasScheduled P c clock document i o d Stays schedule.ReadFault
RunsSchedule P c clock document i o d InputStays Stays status.WriteFault = HasScheduled P c clock document i o d Stays schedule.WriteFault
RunsSchedule P c clock document i o d InputStays Stays status.TooLong = HasScheduled P c clock document i o d Stays schedule.TooLong
RunsSchedule P c clock document i o d InputStays Stays status.OutOfMemory = (InputStays × Stays × OpeningLeaves c d) ⊎ HasScheduled P c clock document i o d Stays schedule.OutOfMemory
RunsSchedule P c clock document i o d InputStays Stays (status.Cache cause) = IsRefused c d cause × InputStays × Stays × RefusalLeaves c d cause
RunsSchedule P c clock document i o d InputStays Stays status.DiskFault = HasFailed d × InputStays × Stays × OpeningLeaves c d
RunsSchedule P c clock document i o d InputStays Stays (status.Form cause) = ⊥
RunsSchedule P c clock document i o d InputStays Stays status.CutsFull = ⊥
RunsSchedule P c clock document i o d InputStays Stays (status.Stream how) = ⊥
RunsSchedule P c clock document i o d InputStays Stays status.Usage = ⊥
RunsSchedule P c clock document i o d InputStays Stays (status.Catalogue fault) = ⊥
RunsSchedule P c clock document i o d InputStays Stays status.ListenFault = ⊥
RunsSchedule P c clock document i o d InputStays Stays status.ThreadFault = ⊥

-- REPLAY

-- From s a session came to a cabinet, and then its uses were saved, to u. Where the source is modelled as the catalogue's, what the cabinet then keeps is
-- the pictures of the numbers, if what was opened was.
pub record ServesAndSaves (P : State → Type 0) (document : List ℕ) (i : InputChange) (o : Outside) (s u : State) (e : SessionEnd) : Type 0 where
  pub served : State
  pub session : HasSessionThrough P i o document s served e
  pub saves : SavesAll o.disk served u
  pub sound : o.told ≡ Some s.catalogue.source → IsSound s → IsSound u

-- the cache was opened, the session of the input's bytes ended so, and the cache was closed
abbrev pub HasReplayed : (State → Type 0) → Catalogue → Readings → List ℕ → InputChange → Outside → DiskChange → SessionEnd → Type 0
HasReplayed P c clock document i o d e = (s : State) × (u : State) × HasOpened c clock d s u × ServesAndSaves P document i o s u e

-- the session ended within the stream: in a message, at bytes that are no message, or after as many as it answers
abbrev pub HasBrokenOff : (State → Type 0) → Catalogue → Readings → List ℕ → InputChange → Outside → DiskChange → SessionEnd → Type 0
HasBrokenOff P c clock document i o d session.Truncated = HasReplayed P c clock document i o d session.Truncated
HasBrokenOff P c clock document i o d (session.Bad code) = HasReplayed P c clock document i o d (session.Bad code)
HasBrokenOff P c clock document i o d session.TooMany = HasReplayed P c clock document i o d session.TooMany
HasBrokenOff P c clock document i o d session.Closed = ⊥
HasBrokenOff P c clock document i o d session.ReadFault = ⊥
HasBrokenOff P c clock document i o d session.WriteFault = ⊥
HasBrokenOff P c clock document i o d session.OutOfMemory = ⊥

abbrev pub RunsSession : (State → Type 0) → Catalogue → Readings → List ℕ → InputChange → Outside → DiskChange → Type 0 → Type 0 → Status → Type 0
RunsSession P c clock document i o d InputStays Stays status.Done = HasReplayed P c clock document i o d session.Closed
RunsSession P c clock document i o d InputStays Stays (status.Stream how) = HasBrokenOff P c clock document i o d how
RunsSession P c clock document i o d InputStays Stays status.ReadFault = HasReplayed P c clock document i o d session.ReadFault
RunsSession P c clock document i o d InputStays Stays status.WriteFault = HasReplayed P c clock document i o d session.WriteFault
RunsSession P c clock document i o d InputStays Stays status.OutOfMemory = (InputStays × Stays × OpeningLeaves c d) ⊎ HasReplayed P c clock document i o d session.OutOfMemory
RunsSession P c clock document i o d InputStays Stays (status.Cache cause) = IsRefused c d cause × InputStays × Stays × RefusalLeaves c d cause
RunsSession P c clock document i o d InputStays Stays status.DiskFault = HasFailed d × InputStays × Stays × OpeningLeaves c d
RunsSession P c clock document i o d InputStays Stays (status.Line n) = ⊥
RunsSession P c clock document i o d InputStays Stays status.TooLong = ⊥
RunsSession P c clock document i o d InputStays Stays (status.Form cause) = ⊥
RunsSession P c clock document i o d InputStays Stays status.CutsFull = ⊥
RunsSession P c clock document i o d InputStays Stays status.Usage = ⊥
RunsSession P c clock document i o d InputStays Stays (status.Catalogue fault) = ⊥
RunsSession P c clock document i o d InputStays Stays status.ListenFault = ⊥
RunsSession P c clock document i o d InputStays Stays status.ThreadFault = ⊥
