-- How far the run of a drill has come, one more line, and its ends.
use Rattle.std.proofs.Common.{◌≡◌, ℕ, zero, suc, map, replicate, ◌+◌, ◌≤◌, Bool, List, [], ◌∷◌, ◌++◌, Option, Some, None, length, flat_map, slice_get, is_some, refl, sym, ap, subst, ◌∙◌, arith, append_assoc, append-nil, length-append}
use Rattle.std.specs.List.{count_by}
use Rattle.std.proofs.lemmas.Grind.{flat_map-append}
use Rattle.std.proofs.lemmas.List.{length-map}
use Rattle.std.proofs.lemmas.List.Sums.{sum_by-append}
use Rattle.cabinet.specs.State.{State}
use Rattle.catalog.specs.Valid.{IsValid}
use Rattle.tile_service.specs.declared.one_line.ScheduleLineEnd.{ScheduleLineEnd}
use Rattle.tile_service.specs.declared.one_line.ScheduleLineEnd.TheVariants as line_end
use Rattle.tile_drill.specs.declared.drill_run.MadeEnd.{MadeEnd}
use Rattle.tile_drill.specs.declared.drill_run.MadeEnd.TheVariants as made_end
use Rattle.tile_service.specs.declared.seats.ActorPlace.{ActorPlace}
use Rattle.tile_service.specs.declared.seats.ActorPlace.TheVariants as seat
use Rattle.tile_service.specs.declared.seats.TheConstants.{ACTORS}
use Rattle.tile_service.specs.declared.cache_tally.CacheResult.{CacheResult}
use Rattle.tile_service.specs.declared.cache_tally.CacheResult.TheVariants.{Hit, Miss, Other}
use Rattle.tile_service.specs.declared.cache_tally.CacheTally.{CacheTally}
use Rattle.sha2.specs.Sha256.{sha256}
use Rattle.tile_drill.specs.Drill.{IsDrilled, drill_lines, drill_run, is_busy, line_count, made, made_lines}
use Rattle.tile_drill.specs.Drilling.{HasMade, HasMadeAll, Makes}
use Rattle.tile_service.specs.Lines.{action_in}
use Rattle.tile_drill.specs.Made.{Made as Line, drawn, made_line}
use Rattle.tile_service.specs.OneLine.{seat_of}
use Rattle.sessions.specs.Outside.{Outside, counts}
use Rattle.tile_requests.specs.Requests.{Chance, calm}
use Rattle.tile_service.specs.Run.{Answer, PendingRequest, RunState, answer_text, free_seats, line_done, output_of, run, run_state_of}
use Rattle.tile_service.specs.Seats.{pending_at}
use Rattle.tile_service.specs.CacheTally.{both, is_hit, is_miss, is_other, one_of, result_of, tally_of, total}
use Rattle.tile_service.specs.Written.{LineEnds, Writes}
use Rattle.tile_service.proofs.Far.{Far, ends_done, ends_upheld, far_next, far_start_free, free_same}
use Rattle.tile_service.proofs.Faultless.{none_named}
use Rattle.tile_drill.proofs.Speaking.{never_refused}

-- MOMENTS

-- how all stands at a moment of a drill: what is modelled of the source, and its faults, the cabinet, the document, the seats
-- of the code, the number of the draws so far, and all that was written
pub record Moment : Type 0 where
  pub told : Option ℕ
  pub renders : ℕ
  pub cabinet : State
  pub document : List ℕ
  pub seats : List ActorPlace
  pub x : ℕ
  pub text : List ℕ

-- what is seen of the source, of the output and of a disk, which a cabinet in memory has not, from one moment to another
abbrev pub seen : Moment → Moment → Outside
seen a b = record { told = a.told; renders = record { before = a.renders; after = b.renders }; disk = counts 0 0; writes = counts 0 0; from = Some a.text; to = Some b.text }

-- the world at a moment, by what the actors are busy with
abbrev world_at : Moment → List (Option PendingRequest) → RunState
world_at m busy = run_state_of m.cabinet m.document busy

-- THE SEATS OF THE CODE

pub busy_same : (busy : List (Option PendingRequest)) (i : ℕ) → is_some (pending_at (slice_get (map seat_of busy) i)) ≡ is_busy (slice_get busy i)
busy_same [] i = refl
busy_same (None ∷ busy) zero = refl
busy_same (Some b ∷ busy) zero = refl
busy_same (b ∷ busy) (suc i) = busy_same busy i

-- the line that the code makes by its seats is the one that is made in the world
pub makes_at : (now there : Moment) (n : ℕ) (end : ScheduleLineEnd) (line : List ℕ) → ◌≡◌ {A = Line} (record { line = line; x = there.x }) (made_line now.cabinet.catalogue (is_some (pending_at (slice_get now.seats (drawn 4 now.x)))) now.x)
    → Writes (seen now there) now.cabinet now.document now.seats n line there.cabinet there.seats end → Makes (seen now there) now.cabinet now.document now.seats n now.x there.cabinet there.seats there.x end
makes_at now there n end line e k busy is =
    let d = k busy is in
    let same = e ∙ ap (λ b. made_line now.cabinet.catalogue b now.x) (ap (λ ss. is_some (pending_at (slice_get ss (drawn 4 now.x)))) (sym is.same) ∙ busy_same busy (drawn 4 now.x)) in
    (d.0, d.1, subst (λ l. LineEnds (seen now there) (world_at now busy) n l (run_state_of there.cabinet now.document d.0) end) (ap (λ m. m.line) same) d.2, ap (λ m. m.x) same)

-- COUNTS

count_more : (p : Answer → Bool) (answers news : List Answer) → count_by p (answers ++ news) ≡ count_by p answers + count_by p news
count_more p answers news = sum_by-append _ answers news

tally_more : (answers news : List Answer) → tally_of (answers ++ news) ≡ both (tally_of answers) (tally_of news)
tally_more answers news =
    rw (
      count_more (λ a. is_hit (result_of a.outcome)) answers news,
      count_more (λ a. is_miss (result_of a.outcome)) answers news,
      count_more (λ a. is_other (result_of a.outcome)) answers news,
    ) refl

few_more : (a : CacheTally) (answered : Option CacheResult) (n : ℕ) → total a ≤ n → total (both a (one_of answered)) ≤ n + 1
few_more a None n l = omega arith
few_more a (Some Hit) n l = omega arith
few_more a (Some Miss) n l = omega arith
few_more a (Some Other) n l = omega arith

text_more : (document was text : List ℕ) (answers news : List Answer) → document ≡ was → text ≡ flat_map (answer_text was) answers → text ++ flat_map (answer_text document) news ≡ flat_map (answer_text was) (answers ++ news)
text_more document was text answers news same written = rw (same, written, flat_map-append (answer_text was) answers news) refl

-- HOW FAR

-- since the start so many lines were made and run, and this is what their answers tell of the cache
pub record HasDrilled (start now : Moment) (lines : ℕ) (tally : CacheTally) : Type 0 where
  pub busy : List (Option PendingRequest)
  pub seated : map seat_of busy ≡ now.seats
  pub done : List (List ℕ)
  pub chances : List Chance
  pub answers : List Answer
  pub goes : (count : ℕ) (more : List Chance) → made_lines (lines + count) (world_at start free_seats) 1 start.x (chances ++ more) ≡ done ++ made_lines count (world_at now busy) (lines + 1) now.x more
  pub long : length done ≡ lines
  pub counted : tally ≡ tally_of answers
  pub few : total tally ≤ lines
  pub written : now.text ≡ flat_map (answer_text start.document) answers
  pub told : now.told ≡ start.told
  pub far : Far start.told start.renders now.renders (counts 0 0) (world_at start free_seats) done chances answers lines (world_at now busy)

abbrev pub drilled_start : {start : Moment} → start.seats ≡ replicate ACTORS seat.Free → start.text ≡ [] → HasDrilled start start 0 (record { hits = 0; misses = 0; others = 0 })
drilled_start {start} free empty =
    record {
      busy = free_seats;
      seated = free_same ACTORS ∙ sym free;
      done = [];
      chances = [];
      answers = [];
      goes = λ count more. let none : 0 + count ≡ count = omega arith in rw none refl;
      long = refl;
      counted = refl;
      few = omega arith;
      written = empty;
      told = refl;
      far = far_start_free start.told start.renders 0 start.cabinet start.document;
    }

-- ONE LINE MORE

-- the next line was made and run, and ended so
pub record RanMade (now there : Moment) (lines : ℕ) (end : ScheduleLineEnd) : Type 0 where
  pub told : there.told ≡ now.told
  pub document : there.document ≡ now.document
  pub makes : Makes (seen now there) now.cabinet now.document now.seats (lines + 1) now.x there.cabinet there.seats there.x end

-- one line, and then others
one_made : (t u : RunState) (n x later : ℕ) (c : Chance) (news : List Answer) → line_done t n c (action_in (made t x).line) ≡ Some (u, news) → later ≡ (made t x).x
    → (count : ℕ) (more : List Chance) → made_lines (suc count) t n x (c ∷ more) ≡ (made t x).line ∷ made_lines count u (n + 1) later more
unfolding made_lines
one_made t u n x later c news e draws count more = rw (e, draws) refl

none_made : (t : RunState) (n x : ℕ) (more : List Chance) → made_lines 0 t n x more ≡ []
unfolding made_lines
none_made t n x more = refl

module _ {start now there : Moment} {lines : ℕ} {tally : CacheTally} {end : ScheduleLineEnd} (f : HasDrilled start now lines tally) (l : RanMade now there lines end) where
  -- the line that is made in the world so far, and how it ended there
  abbrev line : Line
  line = made (world_at now f.busy) now.x

  line_ended : (later : List (Option PendingRequest)) × (map seat_of later ≡ there.seats) × LineEnds (seen now there) (world_at now f.busy) (lines + 1) line.line (world_at there later) end × (there.x ≡ line.x)
  line_ended =
      let d = l.makes f.busy (record { same = f.seated; world = f.far.world }) in
      (d.0, d.1, subst (λ x. LineEnds (seen now there) (world_at now f.busy) (lines + 1) line.line (run_state_of there.cabinet x d.0) end) (sym l.document) d.2, d.3)

pub drilled_next : {start now there : Moment} {lines : ℕ} {tally : CacheTally} {answered : Option CacheResult} {end : ScheduleLineEnd} → HasDrilled start now lines tally → RanMade now there lines end → end ≡ line_end.Done answered
    → HasDrilled start there (lines + 1) (both tally (one_of answered))
drilled_next {start} {now} {there} {lines} {tally} {answered} f l is =
    let d = line_ended f (subst (RanMade now there lines) is l) in
    let its = made (world_at now f.busy) now.x in
    let ran = d.2 in
    let chance = ran.1.chance in
    record {
      busy = d.0;
      seated = d.1;
      done = f.done ++ its.line ∷ [];
      chances = f.chances ++ chance ∷ [];
      answers = f.answers ++ ran.0;
      goes = λ count more.
          let e : lines + 1 + count ≡ lines + suc count = omega arith in
          rw (e, append_assoc f.chances (chance ∷ []) more, append_assoc f.done (its.line ∷ []) (made_lines count (world_at there d.0) (lines + 1 + 1) there.x more))
          (f.goes (suc count) (chance ∷ more) ∙ ap (λ ls. f.done ++ ls) (one_made (world_at now f.busy) (world_at there d.0) (lines + 1) now.x there.x chance ran.0 ran.1.made d.3 count more));
      long = length-append f.done (its.line ∷ []) ∙ let e = f.long in omega arith;
      counted = sym (tally_more f.answers ran.0 ∙ ap (both (tally_of f.answers)) ran.3 ∙ ap (λ a. both a (one_of answered)) (sym f.counted));
      few = few_more tally answered lines f.few;
      written = ran.2 ∙ text_more now.document start.document now.text f.answers ran.0 f.far.capabilities f.written;
      told = l.told ∙ f.told;
      far = far_next f.far f.told ran.1;
    }

-- in a valid catalogue the line is not refused
pub drilled_accepted : {start now there : Moment} {lines : ℕ} {tally : CacheTally} {end : ScheduleLineEnd} → HasDrilled start now lines tally → RanMade now there lines end → end ≡ line_end.Refused → IsValid now.cabinet.catalogue → length now.seats ≡ ACTORS → ⊥
drilled_accepted {now = now} {there} {lines} f l is valid long =
    let d = line_ended f (subst (RanMade now there lines) is l) in
    let few : 4 ≤ length f.busy = let e = ap length f.seated in let m = length-map f.busy seat_of in omega arith in
    never_refused (world_at now f.busy) (lines + 1) calm now.x valid few d.2.0

-- ENDS

-- the lines have ended so
abbrev HasEnded : Moment → Moment → MadeEnd → Type 0
HasEnded start now end = (busy : List (Option PendingRequest)) × (map seat_of busy ≡ now.seats) × HasMade start.told (record { before = start.renders; after = now.renders }) (world_at start free_seats) start.x (world_at now busy) end

module _ {start now : Moment} {lines : ℕ} {tally : CacheTally} (f : HasDrilled start now lines tally) where
  all_lines : drill_lines lines (world_at start free_seats) start.x f.chances ≡ f.done
  all_lines =
      let none : lines + 0 ≡ lines = omega arith in
      rw (none, none_made (world_at now f.busy) (lines + 1) now.x [], append-nil f.chances, append-nil f.done) at (f.goes 0 [])

  all_run : drill_run lines (world_at start free_seats) start.x f.chances ≡ record { answers = f.answers; world = world_at now f.busy; refused = None }
  all_run = ap (λ ls. run (world_at start free_seats) 1 ls f.chances) all_lines ∙ ends_done f.far

  pub all_drilled : IsDrilled start.told (record { before = start.renders; after = now.renders }) (world_at start free_seats) start.x lines f.chances (world_at now f.busy)
  all_drilled = record { ends = ap (λ r. r.refused) all_run; world = sym (ap (λ r. r.world) all_run); faultless = none_named f.chances f.far.faults; upheld = ends_upheld f.far _ None all_run }

  pub drilled_done : lines ≡ line_count → HasEnded start now (made_end.Done tally (sha256 now.text))
  drilled_done e =
      let made : HasMadeAll lines start.told (record { before = start.renders; after = now.renders }) (world_at start free_seats) start.x (world_at now f.busy) tally (sha256 now.text) = (
        f.chances,
        all_drilled,
        ap length all_lines ∙ f.long,
        f.counted ∙ sym (ap (λ r. tally_of r.answers) all_run),
        ap sha256 (f.written ∙ sym (ap (output_of start.document) all_run)),
        f.few,
      ) in
      (f.busy, f.seated, subst (λ k. HasMadeAll k start.told (record { before = start.renders; after = now.renders }) (world_at start free_seats) start.x (world_at now f.busy) tally (sha256 now.text)) e made)

  pub drilled_short : lines ≤ line_count → HasEnded start now made_end.OutOfMemory
  drilled_short few = (f.busy, f.seated, (lines, few, f.chances, all_drilled))
