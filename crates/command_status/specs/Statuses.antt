-- What each status tells, once for all words: an end of the work, or a refusal before it.
use Rattle.command_status.specs.declared.status.Status.TheVariants as status
use Rattle.command_status.specs.declared.status.Status.{Status}
use Rattle.gate_journal.specs.declared.fault.OpenFault.{OpenFault}
use Rattle.gate_journal.specs.declared.fault.OpenFault.TheVariants as open_fault
use Rattle.http_wire.specs.declared.inputs.InputEnd.{InputEnd}
use Rattle.http_wire.specs.declared.inputs.InputEnd.TheVariants as input_end
use Rattle.job_forms.specs.declared.fault.JobFault.{JobFault}
use Rattle.job_forms.specs.declared.fault.JobFault.TheVariants as form
use Rattle.tile_service.specs.declared.schedule.ScheduleEnd.{ScheduleEnd}
use Rattle.tile_service.specs.declared.schedule.ScheduleEnd.TheVariants as schedule_end
use Rattle.sessions.specs.declared.session.SessionEnd.{SessionEnd}
use Rattle.sessions.specs.declared.session.SessionEnd.TheVariants as session_end

-- REFUSALS

-- of a file that isn't opened; a fault of its disk and want of memory have statuses of their own
abbrev pub status_of_opening : OpenFault → Status
status_of_opening open_fault.NotACache = status.Cache open_fault.NotACache
status_of_opening (open_fault.CatalogueDiffers found asked) = status.Cache (open_fault.CatalogueDiffers found asked)
status_of_opening (open_fault.BadRecord slot) = status.Cache (open_fault.BadRecord slot)
status_of_opening open_fault.Spent = status.Cache open_fault.Spent
status_of_opening open_fault.DiskFault = status.DiskFault
status_of_opening open_fault.OutOfMemory = status.OutOfMemory

-- of an input that isn't read to its end
abbrev pub status_of_input : InputEnd → Status
status_of_input input_end.ReadFault = status.ReadFault
status_of_input input_end.TooLong = status.TooLong
status_of_input input_end.OutOfMemory = status.OutOfMemory

-- of a cover or a job; want of memory has a status of its own
abbrev pub status_of_form : JobFault → Status
status_of_form form.NotJson = status.Form form.NotJson
status_of_form (form.Missing field) = status.Form (form.Missing field)
status_of_form (form.Bad field) = status.Form (form.Bad field)
status_of_form (form.Limit field) = status.Form (form.Limit field)
status_of_form form.OutOfMemory = status.OutOfMemory

-- ENDS

-- of a schedule
abbrev pub status_of_schedule : ScheduleEnd → Status
status_of_schedule schedule_end.Done = status.Done
status_of_schedule (schedule_end.Line n) = status.Line n
status_of_schedule schedule_end.ReadFault = status.ReadFault
status_of_schedule schedule_end.WriteFault = status.WriteFault
status_of_schedule schedule_end.TooLong = status.TooLong
status_of_schedule schedule_end.OutOfMemory = status.OutOfMemory

-- of a session
abbrev pub status_of_session : SessionEnd → Status
status_of_session session_end.Closed = status.Done
status_of_session session_end.Truncated = status.Stream session_end.Truncated
status_of_session (session_end.Bad code) = status.Stream (session_end.Bad code)
status_of_session session_end.TooMany = status.Stream session_end.TooMany
status_of_session session_end.ReadFault = status.ReadFault
status_of_session session_end.WriteFault = status.WriteFault
status_of_session session_end.OutOfMemory = status.OutOfMemory
