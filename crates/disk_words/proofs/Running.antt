-- What a word tells of a schedule or of a session.
use Rattle.std.proofs.Common.{ℕ, List, inl, inr}
use Rattle.cabinet.specs.State.{State}
use Rattle.catalog.specs.declared.catalogue.Catalogue.{Catalogue}
use Rattle.base.specs.Readings.{Readings}
use Rattle.command_status.specs.Statuses.{status_of_opening, status_of_schedule, status_of_session}
use Rattle.durable_cabinet.specs.Filed.{IsRefusedAs}
use Rattle.gate_journal.specs.declared.fault.OpenFault.{OpenFault}
use Rattle.gate_journal.specs.declared.fault.OpenFault.TheVariants as fault
use Rattle.opened_cache.specs.Change.{DiskChange}
use Rattle.opened_cache.specs.Opened.{RefusalLeaves}
use Rattle.disk_words.specs.Runs.{HasReplayed, HasScheduled, RunsSchedule, RunsSession}
use Rattle.tile_service.specs.declared.schedule.ScheduleEnd.{ScheduleEnd}
use Rattle.tile_service.specs.declared.schedule.ScheduleEnd.TheVariants as schedule
use Rattle.sessions.specs.declared.session.SessionEnd.{SessionEnd}
use Rattle.sessions.specs.declared.session.SessionEnd.TheVariants as session
use Rattle.sessions.specs.Outside.{InputChange, Outside}

module _ (P : State → Type 0) (c : Catalogue) (clock : Readings) (document : List ℕ) (i : InputChange) (o : Outside) (d : DiskChange) (InputStays Stays : Type 0) where
  pub schedule_tells : (e : ScheduleEnd) → HasScheduled P c clock document i o d Stays e → RunsSchedule P c clock document i o d InputStays Stays (status_of_schedule e)
  schedule_tells schedule.Done h = h
  schedule_tells (schedule.Line n) h = h
  schedule_tells schedule.ReadFault h = h
  schedule_tells schedule.WriteFault h = h
  schedule_tells schedule.TooLong h = h
  schedule_tells schedule.OutOfMemory h = inr h

  pub session_tells : (e : SessionEnd) → HasReplayed P c clock document i o d e → RunsSession P c clock document i o d InputStays Stays (status_of_session e)
  session_tells session.Closed h = h
  session_tells session.Truncated h = h
  session_tells (session.Bad status) h = h
  session_tells session.TooMany h = h
  session_tells session.ReadFault h = h
  session_tells session.WriteFault h = h
  session_tells session.OutOfMemory h = inr h

  -- the cache wasn't opened
  pub schedule_refused : (f : OpenFault) → IsRefusedAs d.told c d.from.seen d.faults.before d.faults.after f → RefusalLeaves c d f → InputStays → Stays → RunsSchedule P c clock document i o d InputStays Stays (status_of_opening f)
  schedule_refused fault.NotACache refused leaves input stays = (refused, input, stays, leaves)
  schedule_refused (fault.CatalogueDiffers found asked) refused leaves input stays = (refused, input, stays, leaves)
  schedule_refused (fault.BadRecord slot) refused leaves input stays = (refused, input, stays, leaves)
  schedule_refused fault.Spent refused leaves input stays = (refused, input, stays, leaves)
  schedule_refused fault.DiskFault refused leaves input stays = (refused, input, stays, leaves)
  schedule_refused fault.OutOfMemory refused leaves input stays = inl (input, stays, leaves)

  pub session_refused : (f : OpenFault) → IsRefusedAs d.told c d.from.seen d.faults.before d.faults.after f → RefusalLeaves c d f → InputStays → Stays → RunsSession P c clock document i o d InputStays Stays (status_of_opening f)
  session_refused fault.NotACache refused leaves input stays = (refused, input, stays, leaves)
  session_refused (fault.CatalogueDiffers found asked) refused leaves input stays = (refused, input, stays, leaves)
  session_refused (fault.BadRecord slot) refused leaves input stays = (refused, input, stays, leaves)
  session_refused fault.Spent refused leaves input stays = (refused, input, stays, leaves)
  session_refused fault.DiskFault refused leaves input stays = (refused, input, stays, leaves)
  session_refused fault.OutOfMemory refused leaves input stays = inl (input, stays, leaves)
