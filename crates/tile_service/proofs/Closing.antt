-- The end of a run: the actors give up.
use Rattle.std.proofs.Common.{◌≡◌, ◌≤◌, ℕ, List, [], ◌∷◌, ◌++◌, length, take, map, Option, Some, None, refl, sym, ap, ◌∙◌, fold}
use Rattle.std.specs.Io.KnownBytes.{Consumes, IsAtEnd}
use Rattle.std.proofs.Math.Seq.{take-append_seam}
use Rattle.cabinet.specs.State.{State}
use Rattle.tile_service.specs.declared.run_lines.RunEnd.{RunEnd}
use Rattle.tile_service.specs.declared.run_lines.RunEnd.TheVariants.{Done, Line, WriteFault}
use Rattle.tile_service.specs.declared.schedule.TheConstants.{SCHEDULE_LIMIT}
use Rattle.tile_service.specs.declared.seats.ActorPlace.{ActorPlace}
use Rattle.tile_service.specs.OneLine.{seat_of}
use Rattle.sessions.specs.Outside.{InputChange, Outside}
use Rattle.tile_service.specs.Run.{PendingRequest, RunState, left_by, closed, free_seats, run_state_of}
use Rattle.tile_service.specs.Schedules.{HasRunThrough, SchedulesThrough, end_of}
use Rattle.tile_service.specs.Seats.{left_at, all_left}

left_same : (s : State) (b : Option PendingRequest) → left_at s (seat_of b) ≡ left_by s b
left_same s None = refl
left_same s (Some b) = refl

all_left_same : (s : State) (busy : List (Option PendingRequest)) → all_left s (map seat_of busy) ≡ fold left_by s busy
all_left_same s [] = refl
all_left_same s (b ∷ busy) = all_left_same (left_at s (seat_of b)) busy ∙ ap (λ u. fold left_by u busy) (left_same s b)

whole_front : (n : ℕ) (front rest : List ActorPlace) → length front ≡ n → take n (front ++ rest) ≡ front
whole_front n front rest e = rw (sym e) (take-append_seam front rest)

-- the actors of a vector's front give up, which is all of it
pub closes_at : (s t : State) (document : List ℕ) (busy : List (Option PendingRequest)) (seats : List ActorPlace) → map seat_of busy ≡ seats → (n : ℕ) (rest : List ActorPlace) → length seats ≡ n → t ≡ all_left s (take n (seats ++ rest))
    → run_state_of t document free_seats ≡ closed (run_state_of s document busy)
closes_at s t document busy seats same n rest all e = ap (λ u. run_state_of u document free_seats) (e ∙ rw (whole_front n seats rest all, sym same) (all_left_same s busy))

-- THE WHOLE SCHEDULE

-- the text of a schedule was read whole
pub record ReadsWhole (i : InputChange) (text : List ℕ) : Type 0 where
  pub read : Consumes i.from i.to text
  pub at_end : IsAtEnd i.to
  pub short : length text ≤ SCHEDULE_LIMIT

module _ (P : State → Type 0) (i : InputChange) (o : Outside) (w last t : RunState) (text : List ℕ) (whole : ReadsWhole i text) (closes : t ≡ closed last) where
  -- its lines were run, and the actors gave up; what held of the cabinet after each line holds of it yet
  pub closed_through : (Q : State → Type 0) → ((s : State) → P s → Q s) → (Untouched : Type 0) (end : RunEnd) → HasRunThrough P o w text last end → SchedulesThrough Q i o Untouched w t (end_of end)
  closed_through Q onward U Done h = (record { text = text; read = whole.read; at_end = whole.at_end; short = whole.short; last = last; ran = h.0; closes = closes }, λ n. onward _ (h.1 n))
  closed_through Q onward U (Line m) h = (record { text = text; read = whole.read; at_end = whole.at_end; short = whole.short; last = last; ran = h.0; closes = closes }, λ n. onward _ (h.1 n))
  closed_through Q onward U WriteFault h = (record { text = text; read = whole.read; at_end = whole.at_end; short = whole.short; last = last; ran = h.0; closes = closes }, λ n. onward _ (h.1 n))
