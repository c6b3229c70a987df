-- The drill: lines that are made one after another, the run of them, and its summary.
use Rattle.std.specs.Prelude.{ℕ, zero, suc, ◌≡◌, ◌≤◌, ◌+◌, Bool, true, false, List, [], ◌∷◌, ◌++◌, length, decimal, Option, Some, None, slice_get, codes}
use Rattle.std.specs.Io.KnownBytes.{Appends}
use Rattle.std.specs.List.{AllByRecursion}
use Rattle.base.specs.Causes.{Rose}
use Rattle.hex.specs.Hex.{encode_lower}
use Rattle.sha2.specs.Sha256.{sha256}
use Rattle.tile_drill.specs.declared.drill.DrillEnd.{DrillEnd}
use Rattle.tile_drill.specs.declared.drill.DrillEnd.TheVariants.{Done, WriteFault, OutOfMemory}
use Rattle.tile_service.specs.declared.cache_tally.CacheTally.{CacheTally}
use Rattle.tile_service.specs.Lines.{action_in}
use Rattle.tile_drill.specs.Made.{Made, drawn, made_line}
use Rattle.sessions.specs.Outside.{FaultCounts, Outside}
use Rattle.tile_requests.specs.Requests.{Chance}
use Rattle.tile_service.specs.Run.{Answer, IsFaultless, PendingRequest, Run, RunState, closed, first_of, line_done, output_of, rest_of, run}
use Rattle.tile_service.specs.Schedules.{IsUpheld}
use Rattle.tile_requests.specs.Sent.{AppendsFront}
use Rattle.tile_service.specs.CacheTally.{tally_of}

-- THE LINES

abbrev pub is_busy : Option (Option PendingRequest) → Bool
is_busy None = false
is_busy (Some None) = false
is_busy (Some (Some b)) = true

-- the line that is made in a world, where x is the number of the draws before it
abbrev pub made : RunState → ℕ → Made
made w x = made_line w.cabinet.catalogue (is_busy (slice_get w.seats (drawn 4 x))) x

-- after a refused line none is made
abbrev pub lines_behind : Option (RunState × List Answer) → (RunState → List (List ℕ)) → List (List ℕ)
lines_behind None on = []
lines_behind (Some done) on = on done.0

-- So many lines, of which the first has the number n: each is made in the world to which those before it came.
unfoldable pub made_lines : ℕ → RunState → ℕ → ℕ → List Chance → List (List ℕ)
made_lines zero w n x cs = []
made_lines (suc count) w n x cs = (made w x).line ∷ lines_behind (line_done w n (first_of cs) (action_in (made w x).line)) (λ t. made_lines count t (n + 1) (made w x).x (rest_of cs))

-- THE RUN

-- how many lines a drill has
abbrev pub line_count : ℕ
line_count = 4096

-- the first lines of the drill of a number
abbrev pub drill_lines : ℕ → RunState → ℕ → List Chance → List (List ℕ)
drill_lines count w number chances = made_lines count w 1 number chances

-- they are run as the lines of a schedule
abbrev pub drill_run : ℕ → RunState → ℕ → List Chance → Run
drill_run count w number chances = run w 1 (drill_lines count w number chances) chances

-- From w so many lines of the drill were run under these chances; none was refused, and what is promised of the answers holds. The
-- cabinet is one in memory: no chance names a fault of a disk.
pub record IsDrilled (told : Option ℕ) (renders : FaultCounts) (w : RunState) (number count : ℕ) (chances : List Chance) (t : RunState) : Type 0 where
  pub ends : (drill_run count w number chances).refused ≡ None
  pub world : t ≡ (drill_run count w number chances).world
  pub faultless : AllByRecursion IsFaultless chances
  pub upheld : IsUpheld told renders w (drill_run count w number chances)

-- THE SUMMARY

unfoldable pub counts_text : ℕ → ℕ → CacheTally → List ℕ
counts_text number answers t =
    codes "drill " ++ decimal number ++ codes " lines 4096 answers " ++ decimal answers ++ codes " hits " ++ decimal t.hits
    ++ codes " misses " ++ decimal t.misses ++ codes " other " ++ decimal t.others ++ codes "\n"

unfoldable pub digest_text : List ℕ → List ℕ
digest_text digest = codes "sha256 " ++ encode_lower digest ++ codes "\n"

-- how many answers there were, what they tell of the cache, and the digest of what the run wrote
abbrev pub summary : List ℕ → ℕ → Run → List ℕ
summary document number r = counts_text number (length r.answers) (tally_of r.answers) ++ digest_text (sha256 (output_of document r))

-- ENDS

-- what each end says; `Stays` is that the output stays as it is
abbrev pub Drills : Outside → Type 0 → ℕ → RunState → RunState → DrillEnd → Type 0
Drills o Stays number w t Done =
    (chances : List Chance) × (last : RunState) × IsDrilled o.told o.renders w number line_count chances last × (t ≡ closed last)
    × (length (drill_lines line_count w number chances) ≡ line_count) × Appends o.from o.to (summary w.capabilities number (drill_run line_count w number chances))
Drills o Stays number w t WriteFault =
    (chances : List Chance) × (last : RunState) × IsDrilled o.told o.renders w number line_count chances last × (t ≡ closed last)
    × AppendsFront o.from o.to (summary w.capabilities number (drill_run line_count w number chances)) × Rose o.writes.before o.writes.after
Drills o Stays number w t OutOfMemory =
    (count : ℕ) × (count ≤ line_count) × (chances : List Chance) × (last : RunState) × IsDrilled o.told o.renders w number count chances last × (t ≡ closed last) × Stays
