-- What one line of a schedule came to, with what it wrote.
-- A tie between the code and its definitions: the promise can be read without it.
use Rattle.std.specs.Prelude.{ℕ, ◌≡◌, ◌≤◌, List, [], ◌∷◌, map, Option, None, flat_map}
use Rattle.std.specs.Io.KnownBytes.{Appends}
use Rattle.cabinet.specs.State.{State}
use Rattle.base.specs.Causes.{Rose}
use Rattle.tile_service.specs.declared.one_line.ScheduleLineEnd.{ScheduleLineEnd}
use Rattle.tile_service.specs.declared.one_line.ScheduleLineEnd.TheVariants as line_end
use Rattle.tile_service.specs.declared.seats.ActorPlace.{ActorPlace}
use Rattle.tile_service.specs.Lines.{action_in}
use Rattle.tile_service.specs.OneLine.{IsLine, IsSeated, seat_of}
use Rattle.sessions.specs.Outside.{Outside}
use Rattle.tile_requests.specs.Requests.{calm}
use Rattle.tile_service.specs.Run.{PendingRequest, RunState, Answer, line_done, answer_text, run_state_of}
use Rattle.tile_requests.specs.Sent.{AppendsFront}
use Rattle.tile_service.specs.CacheTally.{one_of, tally_of}

-- how a line ends in a world, what went out of its answers, and what they tell of the cache
abbrev pub LineEnds : Outside → RunState → ℕ → List ℕ → RunState → ScheduleLineEnd → Type 0
LineEnds o w n line t line_end.Refused = (line_done w n calm (action_in line) ≡ None) × (t ≡ w) × (o.renders.before ≤ o.renders.after) × (o.disk.before ≤ o.disk.after) × (o.to ≡ o.from)
LineEnds o w n line t (line_end.Done told) =
    (answers : List Answer) × IsLine o.told o.renders.before o.renders.after o.disk w n line t answers × Appends o.from o.to (flat_map (answer_text w.capabilities) answers) × (tally_of answers ≡ one_of told)
LineEnds o w n line t line_end.WriteFault =
    (answer : Answer) × IsLine o.told o.renders.before o.renders.after o.disk w n line t (answer ∷ []) × AppendsFront o.from o.to (answer_text w.capabilities answer) × Rose o.writes.before o.writes.after

-- whatever the actors were busy with before, they are busy with these now, and the line ended so
abbrev pub Writes : Outside → State → List ℕ → List ActorPlace → ℕ → List ℕ → State → List ActorPlace → ScheduleLineEnd → Type 0
Writes o s document seats n line t seats' end =
    (busy : List (Option PendingRequest)) → IsSeated s document seats busy → (later : List (Option PendingRequest)) × (map seat_of later ≡ seats') × LineEnds o (run_state_of s document busy) n line (run_state_of t document later) end
