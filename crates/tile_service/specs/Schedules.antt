-- What the run of a schedule came to, and what it wrote.
use Rattle.std.specs.Prelude.{ℕ, ◌≡◌, ◌≤◌, ◌+◌, List, [], ◌∷◌, ◌++◌, length, Option, Some, None, ⊤}
use Rattle.std.specs.Io.KnownBytes.{Appends, Consumes, IsAtEnd}
use Rattle.std.specs.List.{AllByRecursion}
use Rattle.cabinet.specs.State.{IsSound, State}
use Rattle.base.specs.Causes.{Rose, RoseBy}
use Rattle.tile_service.specs.declared.run_lines.RunEnd.{RunEnd}
use Rattle.tile_service.specs.declared.run_lines.RunEnd.TheVariants as run_end
use Rattle.tile_service.specs.declared.schedule.ScheduleEnd.{ScheduleEnd}
use Rattle.tile_service.specs.declared.schedule.ScheduleEnd.TheVariants.{Done, Line, ReadFault, WriteFault, TooLong, OutOfMemory}
use Rattle.tile_service.specs.declared.schedule.TheConstants.{SCHEDULE_LIMIT}
use Rattle.tile_service.specs.Lines.{lines_of}
use Rattle.sessions.specs.Outside.{FaultCounts, Outside, InputChange}
use Rattle.tile_service.specs.Passing.{AfterLines}
use Rattle.tile_requests.specs.Requests.{Chance}
use Rattle.tile_service.specs.Run.{RunState, Answer, Run, run, answer_text, disk_faults, output_of, failures, unanswered, closed, HasNumbers, IsAnsweredTile, IsTrue, IsFresh}
use Rattle.tile_requests.specs.Sent.{AppendsPart}

-- THE LINES OF A TEXT WERE RUN

-- which lines a run goes through: all of them, or those up to that at whose answer a write failed
abbrev pub GoesThrough : List (List ℕ) → RunEnd → List (List ℕ) → Type 0
GoesThrough all run_end.Done lines = lines ≡ all
GoesThrough all (run_end.Line n) lines = lines ≡ all
GoesThrough all run_end.WriteFault lines = (rest : List (List ℕ)) × (all ≡ lines ++ rest)

-- a run came to t, with this line refused or none, and all that it writes went out
abbrev pub IsWhole : Outside → List ℕ → Run → RunState → Option ℕ → Type 0
IsWhole o document r t refused = (r.refused ≡ refused) × (t ≡ r.world) × Appends o.from o.to (output_of document r)

-- The last of these lines has an answer of which only a front went out, and not all of it; all that the lines before it write
-- went out.
pub record IsCutInLast (o : Outside) (w : RunState) (lines : List (List ℕ)) (chances : List Chance) : Type 0 where
  pub before : List (List ℕ)
  pub line : List ℕ
  pub whole : lines ≡ before ++ line ∷ []
  pub answer : Answer
  pub answers : (run w 1 lines chances).answers ≡ (run w 1 before chances).answers ++ answer ∷ []
  pub sent : AppendsPart o.from o.to (output_of w.capabilities (run w 1 before chances)) (answer_text w.capabilities answer)

-- how the run of these lines ends, and what went out of what they write; after a write that failed nothing is done
abbrev pub Ends : Outside → RunState → List (List ℕ) → List Chance → RunState → RunEnd → Type 0
Ends o w lines chances t run_end.Done = IsWhole o w.capabilities (run w 1 lines chances) t None
Ends o w lines chances t (run_end.Line n) = IsWhole o w.capabilities (run w 1 lines chances) t (Some n)
Ends o w lines chances t run_end.WriteFault = (t ≡ (run w 1 lines chances).world) × Rose o.writes.before o.writes.after × IsCutInLast o w lines chances

-- What is promised of the answers of a run from w. No more of them say that the source failed, and no more failures are yet
-- to be answered, than its count rose by. Where the source is modelled as the catalogue's, each tile is the picture of its
-- number, and so is all that is kept at the end where all that was kept at the start was; and each tile is fresh at its last ask or force. While numbers are left, each request for a tile is answered with the tile, but
-- where memory ran out or the source failed: no fault of a disk comes between.
pub record IsUpheld (told : Option ℕ) (renders : FaultCounts) (w : RunState) (r : Run) : Type 0 where
  pub failed : RoseBy (failures r.answers + unanswered r.world.seats) renders.before renders.after
  pub truth : told ≡ Some w.cabinet.catalogue.source → IsSound w.cabinet → AllByRecursion (IsTrue w.cabinet.catalogue) r.answers
  pub sound : told ≡ Some w.cabinet.catalogue.source → IsSound w.cabinet → IsSound r.world.cabinet
  pub fresh : AllByRecursion (IsFresh w.cabinet.catalogue r.world.cabinet.history) r.answers
  pub tiles : HasNumbers r.world.cabinet → AllByRecursion IsAnsweredTile r.answers

-- From w the lines of a text came to t: this is the end of their run, under some chances. These name no more faults of the disk than
-- its count rose by.
pub record HasRunSchedule (o : Outside) (w : RunState) (text : List ℕ) (t : RunState) (end : RunEnd) : Type 0 where
  pub lines : List (List ℕ)
  pub chances : List Chance
  pub through : GoesThrough (lines_of text) end lines
  pub ends : Ends o w lines chances t end
  pub faults : RoseBy (disk_faults chances) o.disk.before o.disk.after
  pub upheld : IsUpheld o.told o.renders w (run w 1 lines chances)

-- such a run, with P of the cabinet after each of its lines
abbrev pub HasRunThrough : (State → Type 0) → Outside → RunState → List ℕ → RunState → RunEnd → Type 0
HasRunThrough P o w text t end = (h : HasRunSchedule o w text t end) × AfterLines P w h.lines h.chances

-- A SCHEDULE WAS READ AND RUN

-- the input was read to its end, the lines of its text were run, and then the actors that were busy gave up
pub record HasRunAll (i : InputChange) (o : Outside) (w t : RunState) (end : RunEnd) : Type 0 where
  pub text : List ℕ
  pub read : Consumes i.from i.to text
  pub at_end : IsAtEnd i.to
  pub short : length text ≤ SCHEDULE_LIMIT
  pub last : RunState
  pub ran : HasRunSchedule o w text last end
  pub closes : t ≡ closed last

-- one byte more than a schedule may have was taken
abbrev pub IsTooLong : InputChange → Type 0
IsTooLong i = (text : List ℕ) × Consumes i.from i.to text × (length text ≡ SCHEDULE_LIMIT + 1)

-- the end of a schedule that was read, by that of its lines
abbrev pub end_of : RunEnd → ScheduleEnd
end_of run_end.Done = Done
end_of (run_end.Line n) = Line n
end_of run_end.WriteFault = WriteFault

-- what each end says; before the lines are run, all but the input is as it was
abbrev pub Schedules : InputChange → Outside → Type 0 → RunState → RunState → ScheduleEnd → Type 0
Schedules i o Untouched w t Done = HasRunAll i o w t run_end.Done
Schedules i o Untouched w t (Line n) = HasRunAll i o w t (run_end.Line n)
Schedules i o Untouched w t WriteFault = HasRunAll i o w t run_end.WriteFault
Schedules i o Untouched w t ReadFault = Rose i.reads.before i.reads.after × Untouched
Schedules i o Untouched w t TooLong = IsTooLong i × Untouched
Schedules i o Untouched w t OutOfMemory = Untouched

-- the cabinet after each line that was run has P; where none was run nothing is said
abbrev pub Passes : (P : State → Type 0) (i : InputChange) (o : Outside) (Untouched : Type 0) (w t : RunState) (end : ScheduleEnd) → Schedules i o Untouched w t end → Type 0
Passes P i o Untouched w t Done h = AfterLines P w h.ran.lines h.ran.chances
Passes P i o Untouched w t (Line n) h = AfterLines P w h.ran.lines h.ran.chances
Passes P i o Untouched w t WriteFault h = AfterLines P w h.ran.lines h.ran.chances
Passes P i o Untouched w t ReadFault h = ⊤
Passes P i o Untouched w t TooLong h = ⊤
Passes P i o Untouched w t OutOfMemory h = ⊤

-- a schedule ended so, with P of the cabinet after each line that was run
abbrev pub SchedulesThrough : (State → Type 0) → InputChange → Outside → Type 0 → RunState → RunState → ScheduleEnd → Type 0
SchedulesThrough P i o Untouched w t end = (h : Schedules i o Untouched w t end) × Passes P i o Untouched w t end h
