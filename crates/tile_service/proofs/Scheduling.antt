-- How far the run of a schedule's text has come, one more line, and its ends.
use Rattle.std.proofs.Common.{◌≡◌, ℕ, map, replicate, ◌+◌, ◌≤◌, List, [], ◌∷◌, ◌++◌, Option, None, Some, length, flat_map, refl, sym, ap, subst, ◌∙◌, arith, append_assoc, append-nil}
use Rattle.std.specs.Io.KnownBytes.{Appends}
use Rattle.std.proofs.lemmas.Grind.{flat_map-append}
use Rattle.cabinet.specs.State.{State}
use Rattle.tile_service.specs.declared.one_line.ScheduleLineEnd.{ScheduleLineEnd}
use Rattle.tile_service.specs.declared.one_line.ScheduleLineEnd.TheVariants as line_end
use Rattle.tile_service.specs.declared.run_lines.RunEnd.{RunEnd}
use Rattle.tile_service.specs.declared.run_lines.RunEnd.TheVariants.{Done, Line, WriteFault}
use Rattle.tile_service.specs.declared.seats.ActorPlace.{ActorPlace}
use Rattle.tile_service.specs.declared.seats.ActorPlace.TheVariants as seat
use Rattle.tile_service.specs.declared.seats.TheConstants.{ACTORS}
use Rattle.tile_service.specs.declared.cache_tally.CacheResult.{CacheResult}
use Rattle.tile_service.specs.Written.{LineEnds, Writes}
use Rattle.tile_service.specs.Lines.{lines_of}
use Rattle.tile_service.specs.OneLine.{seat_of}
use Rattle.sessions.specs.Outside.{Outside, counts}
use Rattle.tile_requests.specs.Requests.{Chance}
use Rattle.tile_service.specs.Run.{PendingRequest, free_seats, RunState, Answer, Run, answer_text, run_state_of}
use Rattle.tile_service.specs.Schedules.{HasRunThrough}
use Rattle.tile_requests.specs.Sent.{AppendsFront}
use Rattle.tile_requests.proofs.Known.{appends_more, appends_nothing}
use Rattle.tile_service.proofs.Passing.{SoFar, passed_none, passed_next, passed_all, passed_refused}
use Rattle.tile_service.proofs.Far.{Far, far_next, far_start_free, far_waits, so_far_done, ends_done, ends_refused, ends_upheld, free_same}

-- MOMENTS

-- how all stands at a moment of a run: what is modelled of the source, its faults, those of the disk and of the output, what the output
-- has taken, where it is modelled, the cabinet, the document, and the seats of the code
pub record Moment : Type 0 where
  pub told : Option ℕ
  pub renders : ℕ
  pub disk : ℕ
  pub writes : ℕ
  pub taken : Option (List ℕ)
  pub cabinet : State
  pub document : List ℕ
  pub seats : List ActorPlace

-- what is seen of the source and the output from one moment to another
abbrev pub seen : Moment → Moment → Outside
seen a b = record { told = a.told; renders = record { before = a.renders; after = b.renders }; disk = counts a.disk b.disk; writes = record { before = a.writes; after = b.writes }; from = a.taken; to = b.taken }

-- the world at a moment, by what the actors are busy with
abbrev pub world_at : Moment → List (Option PendingRequest) → RunState
world_at m busy = run_state_of m.cabinet m.document busy

-- HOW FAR

-- since the start so many lines of the text are done, and the rest is not
pub record Reads (start now : Moment) (text : List ℕ) (lines : ℕ) (rest : List ℕ) : Type 0 where
  pub busy : List (Option PendingRequest)
  pub seated : map seat_of busy ≡ now.seats
  pub done : List (List ℕ)
  pub made : List Chance
  pub answers : List Answer
  pub split : lines_of text ≡ done ++ lines_of rest
  pub written : Appends start.taken now.taken (flat_map (answer_text start.document) answers)
  pub told : now.told ≡ start.told
  pub later : start.writes ≤ now.writes
  pub far : Far start.told start.renders now.renders (counts start.disk now.disk) (world_at start free_seats) done made answers lines (world_at now busy)

-- and P holds of the cabinet after each of them
abbrev pub ReadsThrough : (State → Type 0) → Moment → Moment → List ℕ → ℕ → List ℕ → Type 0
ReadsThrough P start now text lines rest = (r : Reads start now text lines rest) × SoFar P (world_at start free_seats) r.done r.made

pub reads_start : {start : Moment} {text : List ℕ} (P : State → Type 0) → P start.cabinet → start.seats ≡ replicate ACTORS seat.Free → ReadsThrough P start start text 0 text
reads_start {start} P is free = (
  record {
    busy = free_seats;
    seated = free_same ACTORS ∙ sym free;
    done = [];
    made = [];
    answers = [];
    split = refl;
    written = appends_nothing start.taken;
    told = refl;
    later = omega arith;
    far = far_start_free start.told start.renders start.disk start.cabinet start.document;
  },
  passed_none P (world_at start free_seats) is,
)

-- ONE LINE MORE

-- the next line was taken from the rest and run, and ended so
pub record RanLine (now there : Moment) (lines : ℕ) (rest : List ℕ) (end : ScheduleLineEnd) : Type 0 where
  pub line : List ℕ
  pub next : List ℕ
  pub split : lines_of rest ≡ line ∷ lines_of next
  pub told : there.told ≡ now.told
  pub later : now.writes ≤ there.writes
  pub document : there.document ≡ now.document
  pub writes : Writes (seen now there) now.cabinet now.document now.seats (lines + 1) line there.cabinet there.seats end

-- the run of a text has ended so, with P of the cabinet after each line
abbrev pub HasEnded : (State → Type 0) → Moment → Moment → List ℕ → RunEnd → Type 0
HasEnded P start now text end = (busy : List (Option PendingRequest)) × (map seat_of busy ≡ now.seats) × HasRunThrough P (seen start now) (world_at start free_seats) text (world_at now busy) end

module _ {start now there : Moment} {text rest : List ℕ} {lines : ℕ} {end : ScheduleLineEnd} (f : Reads start now text lines rest) (l : RanLine now there lines rest end) where
  split_more : lines_of text ≡ (f.done ++ l.line ∷ []) ++ lines_of l.next
  split_more = f.split ∙ rw l.split (sym (append_assoc f.done (l.line ∷ []) (lines_of l.next)))

  -- so the line ended in the world so far
  line_ended : (later : List (Option PendingRequest)) × (map seat_of later ≡ there.seats) × LineEnds (seen now there) (world_at now f.busy) (lines + 1) l.line (world_at there later) end
  line_ended =
      let d = l.writes f.busy (record { same = f.seated; world = f.far.world }) in
      (d.0, d.1, subst (λ x. LineEnds (seen now there) (world_at now f.busy) (lines + 1) l.line (run_state_of there.cabinet x d.0) end) (sym l.document) d.2)

-- what held of the cabinets so far holds of them yet, said by a later keeper, and so it does of the one now
module _ (P Q : State → Type 0) (onward : (s : State) → P s → Q s) where
  pub reads_next : {start now there : Moment} {text rest : List ℕ} {lines : ℕ} {answered : Option CacheResult} (f : ReadsThrough P start now text lines rest) (l : RanLine now there lines rest (line_end.Done answered)) → Q there.cabinet
      → ReadsThrough Q start there text (lines + 1) l.next
  reads_next {start} {now} {there} (f, so) l is =
      let d = line_ended f l in
      let more = far_next f.far f.told d.2.1 in (
        record {
          busy = d.0;
          seated = d.1;
          done = f.done ++ l.line ∷ [];
          made = f.made ++ d.2.1.chance ∷ [];
          answers = f.answers ++ d.2.0;
          split = split_more f l;
          written = rw flat_map-append (appends_more start.taken now.taken there.taken _ _ f.written (subst (λ x. Appends now.taken there.taken (flat_map (answer_text x) d.2.0)) f.far.capabilities d.2.2));
          told = l.told ∙ f.told;
          later = let i = f.later in let j = l.later in omega arith;
          far = more;
        },
        passed_next P Q (world_at start free_seats) f.done f.made l.line d.2.1.chance there.cabinet so onward (λ extra. ap (λ (r : Run). r.world.cabinet) (so_far_done more extra)) is,
      )

  -- ENDS

  -- a write failed at the line's answer
  pub run_cut : {start now there : Moment} {text rest : List ℕ} {lines : ℕ} → ReadsThrough P start now text lines rest → RanLine now there lines rest line_end.WriteFault → Q there.cabinet → HasEnded Q start there text WriteFault
  run_cut {start} {now} {there} (f, so) l is =
      let d = line_ended f l in
      let answer = d.2.0 in
      let more = far_next f.far f.told d.2.1 in
      let all = ends_done more in
      let front = so_far_done f.far (d.2.1.chance ∷ []) in (
        d.0,
        d.1,
        (
          record {
            lines = f.done ++ l.line ∷ [];
            chances = f.made ++ d.2.1.chance ∷ [];
            through = (lines_of l.next, split_more f l);
            ends = (
              ap (λ r. r.world) (sym all),
              let i = f.later in let rose = d.2.3 in omega arith,
              record {
                before = f.done;
                line = l.line;
                whole = refl;
                answer = answer;
                answers = rw (all, front) refl;
                sent = record { between = now.taken; whole = rw front f.written; part = subst (λ x. AppendsFront now.taken there.taken (answer_text x answer)) f.far.capabilities d.2.2 };
              },
            );
            faults = more.faults;
            upheld = ends_upheld more _ None all;
          },
          passed_all Q (world_at start free_seats) (f.done ++ l.line ∷ []) (f.made ++ d.2.1.chance ∷ [])
              (passed_next P Q (world_at start free_seats) f.done f.made l.line d.2.1.chance there.cabinet so onward (λ extra. ap (λ (r : Run). r.world.cabinet) (so_far_done more extra)) is),
        ),
      )

-- the line was refused
pub run_refused : (P : State → Type 0) {start now there : Moment} {text rest : List ℕ} {lines : ℕ} → ReadsThrough P start now text lines rest → RanLine now there lines rest line_end.Refused → P now.cabinet → HasEnded P start there text (Line (lines + 1))
run_refused P {start} {now} {lines = lines} (f, so) l is =
    let d = line_ended f l in
    let waits = far_waits f.far d.2.2 d.2.3 in
    let e = ends_refused waits l.line (lines_of l.next) d.2.0 in (
      d.0,
      d.1,
      rw (d.2.1, d.2.4) (
        record {
          lines = f.done ++ l.line ∷ lines_of l.next;
          chances = f.made;
          through = sym (f.split ∙ rw l.split refl);
          ends = rw e (refl, refl, f.written);
          faults = waits.faults;
          upheld = ends_upheld waits _ (Some (lines + 1)) e;
        },
        passed_refused P (world_at start free_seats) f.done f.made l.line (lines_of l.next) now.cabinet so (λ tail. ap (λ (r : Run). r.world.cabinet) (ends_refused waits l.line tail d.2.0)) is,
      ),
    )

no_rest : (rest : List ℕ) → length rest ≡ 0 → lines_of rest ≡ []
no_rest [] e = refl
no_rest (b ∷ bs) e = absurd (omega arith)

-- no line is left
pub run_done : (P : State → Type 0) {start now : Moment} {text rest : List ℕ} {lines : ℕ} → ReadsThrough P start now text lines rest → length rest ≡ 0 → HasEnded P start now text Done
run_done P {start} {rest = rest} (f, so) none =
    let e = ends_done f.far in (
      f.busy,
      f.seated,
      (
        record {
          lines = f.done;
          chances = f.made;
          through = sym (f.split ∙ rw (no_rest rest none) (append-nil f.done));
          ends = rw e (refl, refl, f.written);
          faults = f.far.faults;
          upheld = ends_upheld f.far _ None e;
        },
        passed_all P (world_at start free_seats) f.done f.made so,
      ),
    )
