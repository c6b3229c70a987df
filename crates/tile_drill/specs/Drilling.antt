-- What one line of a drill came to, and all of them.
-- A tie between the code and its definitions: the promise can be read without it.
use Rattle.std.specs.Prelude.{ℕ, ◌≡◌, ◌≤◌, List, length, map, Option}
use Rattle.cabinet.specs.State.{State}
use Rattle.sha2.specs.Sha256.{sha256}
use Rattle.tile_drill.specs.declared.drill_lines.DrillAim.{DrillAim}
use Rattle.tile_drill.specs.declared.drill_run.MadeEnd.{MadeEnd}
use Rattle.tile_drill.specs.declared.drill_run.MadeEnd.TheVariants.{Done, OutOfMemory}
use Rattle.tile_service.specs.declared.one_line.ScheduleLineEnd.{ScheduleLineEnd}
use Rattle.tile_service.specs.declared.seats.ActorPlace.{ActorPlace}
use Rattle.tile_service.specs.declared.cache_tally.CacheTally.{CacheTally}
use Rattle.tile_drill.specs.Drill.{IsDrilled, drill_lines, drill_run, line_count, made}
use Rattle.tile_drill.specs.Made.{Aimed}
use Rattle.tile_service.specs.OneLine.{IsSeated, seat_of}
use Rattle.sessions.specs.Outside.{FaultCounts, Outside}
use Rattle.tile_requests.specs.Requests.{Chance}
use Rattle.tile_service.specs.Run.{PendingRequest, RunState, output_of, run_state_of}
use Rattle.tile_service.specs.CacheTally.{tally_of, total}
use Rattle.tile_service.specs.Written.{LineEnds}

-- what an aim of the code shows
abbrev pub shown_aim : DrillAim → Aimed
shown_aim a = record { layer = a.layer.now; style = a.style.now; grid = a.grid.now }

-- Whatever the actors were busy with before, they are busy with these now; the line that is made in that world, where x is
-- the number of the draws before it and x' the one after it, ended so.
abbrev pub Makes : Outside → State → List ℕ → List ActorPlace → ℕ → ℕ → State → List ActorPlace → ℕ → ScheduleLineEnd → Type 0
Makes o s document seats n x t seats' x' end =
    (busy : List (Option PendingRequest)) → IsSeated s document seats busy
    → (later : List (Option PendingRequest)) × (map seat_of later ≡ seats') × LineEnds o (run_state_of s document busy) n (made (run_state_of s document busy) x).line (run_state_of t document later) end × (x' ≡ (made (run_state_of s document busy) x).x)

-- so many lines were run, and this is what the code keeps of the answers
abbrev pub HasMadeAll : ℕ → Option ℕ → FaultCounts → RunState → ℕ → RunState → CacheTally → List ℕ → Type 0
HasMadeAll count told renders w number t tally digest =
    (chances : List Chance) × IsDrilled told renders w number count chances t × (length (drill_lines count w number chances) ≡ count)
    × (tally ≡ tally_of (drill_run count w number chances).answers) × (digest ≡ sha256 (output_of w.capabilities (drill_run count w number chances))) × (total tally ≤ count)

-- how the lines end
abbrev pub HasMade : Option ℕ → FaultCounts → RunState → ℕ → RunState → MadeEnd → Type 0
HasMade told renders w number t (Done tally digest) = HasMadeAll line_count told renders w number t tally digest
HasMade told renders w number t OutOfMemory = (count : ℕ) × (count ≤ line_count) × (chances : List Chance) × IsDrilled told renders w number count chances t
