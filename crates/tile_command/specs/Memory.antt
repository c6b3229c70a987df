-- What a run on a cabinet in memory came to.
use Rattle.std.specs.Prelude.{ℕ, ◌≡◌, ◌⊎◌, List}
use Rattle.cabinet.specs.State.{State, IsKnown, fresh_state}
use Rattle.base.specs.Readings.{Readings}
use Rattle.command_status.specs.declared.status.Status.TheVariants as status
use Rattle.command_status.specs.declared.status.Status.{Status}
use Rattle.command_words.specs.declared.words.MemoryWord.{MemoryWord}
use Rattle.command_words.specs.declared.words.MemoryWord.TheVariants as memory
use Rattle.tile_command.specs.Change.{CommandChange, IsUnready, Stays, WithBoth}
use Rattle.command_status.specs.Statuses.{status_of_schedule, status_of_session}
use Rattle.tile_drill.specs.declared.drill.DrillEnd.{DrillEnd}
use Rattle.tile_drill.specs.declared.drill.DrillEnd.TheVariants as drill_end
use Rattle.tile_drill.specs.Drill.{Drills}
use Rattle.tile_service.specs.declared.schedule.ScheduleEnd.{ScheduleEnd}
use Rattle.sessions.specs.declared.session.SessionEnd.{SessionEnd}
use Rattle.sessions.specs.Outside.{InputChange, Outside}
use Rattle.tile_service.specs.Run.{RunState, free_seats, run_state_of}
use Rattle.tile_service.specs.Schedules.{Schedules}
use Rattle.tile_service.specs.Replays.{HasSession}

-- the status of a drill's end
abbrev pub status_of_drill : DrillEnd → Status
status_of_drill drill_end.Done = status.Done
status_of_drill drill_end.WriteFault = status.WriteFault
status_of_drill drill_end.OutOfMemory = status.OutOfMemory

-- What a word asks for was done with a cabinet and a capabilities document, and this is the status of its end. The cabinet after it
-- is one that commands can make. A drill reads no input.
abbrev pub HasWorked : InputChange → Outside → Stays → State → List ℕ → MemoryWord → Status → Type 0
HasWorked i o stays cabinet document memory.Schedule s =
    (e : ScheduleEnd) × (s ≡ status_of_schedule e) × (t : RunState) × IsKnown t.cabinet × Schedules i o (stays.output × stays.source) (run_state_of cabinet document free_seats) t e
HasWorked i o stays cabinet document memory.Replay s =
    (e : SessionEnd) × (s ≡ status_of_session e) × (t : State) × IsKnown t × HasSession i o document cabinet t e
HasWorked i o stays cabinet document (memory.Drill number) s =
    (e : DrillEnd) × (s ≡ status_of_drill e) × (t : RunState) × IsKnown t.cabinet × stays.input × Drills o stays.output number (run_state_of cabinet document free_seats) t e

-- What each status says of a run on a cabinet in memory: it was refused before it began, or done with a cabinet of the catalogue and
-- the clock in which nothing has happened.
abbrev pub MemoryTells : CommandChange → Stays → Readings → MemoryWord → Status → Type 0
MemoryTells h stays clock w s = IsUnready h stays s ⊎ WithBoth h (λ c document. HasWorked h.input h.outside stays (fresh_state c clock) document w s)
