-- The watches of a board's jobs.
use Rattle.std.proofs.Common.{arith, ℕ, ◌≡◌, ◌≢◌, ◌≤◌, ◌+◌, ◌-◌, ◌==◌, All, Bool, true, false, if◌then◌else◌, List, [], ◌∷◌, ◌++◌, map, length, length-append, Some, None, slice_set, true≢false, refl, sym, ap, subst, ◌∙◌}
use Rattle.std.specs.Prelude.{slice_get, option_map}
use Rattle.std.proofs.lemmas.Bool.Decides.{nat_tests}
use Rattle.std.proofs.lemmas.List.{map-append, map-set}
use Rattle.std.proofs.lemmas.List.Elements.{All-push}
use Rattle.std.proofs.lemmas.Option.{slice_get-map}
use Rattle.job_board.specs.declared.progress.Progress.{Progress}
use Rattle.job_board.specs.SheetCalls.{AddsUp, Cancels, HasEnded, IsFinal, IsSettled, StaysEnded, Tells}
use Rattle.job_board.specs.Standings.{Later}
use Rattle.job_board.specs.Hands.{Sheet, SheetHolding}
use Rattle.job_board.proofs.Accounts.{same_standing}
use Rattle.job_forms.specs.declared.job.JobKind.{JobKind}
use Rattle.job_board.specs.declared.status.JobState.{JobState}
use Rattle.job_board.specs.declared.status.JobStatus.{JobStatus}
use Rattle.job_board.specs.declared.posted.Posted.{Posted}
use Rattle.job_board.specs.declared.posted.WatchedJob.{WatchedJob}
use Rattle.job_board.specs.declared.shown.BoardShown.{BoardShown}
use Rattle.job_board.specs.Boards.{HasNumber, IsFinished, IsLooked, IsStopped, TakesOver, is_numbered, state_of, watch_of}

abbrev pub watched : WatchedJob → SheetHolding
watched j = j.watch

-- a board of these jobs
abbrev pub board_of : List Posted → List WatchedJob → List JobKind → List Bool → BoardShown
board_of waiting jobs kinds ends = record { waiting = waiting; watches = map watched jobs; kinds = kinds; ends = ends }

pub is_zero : (n : ℕ) → n ≡ 0 → (n == 0) ≡ true
is_zero n is = grind (arith, nat_tests, is)

pub not_zero : (n : ℕ) → n ≢ 0 → (n == 0) ≡ false
not_zero n above = grind (arith, nat_tests, above)

watch_is : (waiting : List Posted) (jobs : List WatchedJob) (kinds : List JobKind) (ends : List Bool) (n : ℕ) (j : WatchedJob) → n ≢ 0 → slice_get jobs (n - 1) ≡ Some j → watch_of (board_of waiting jobs kinds ends) n ≡ Some j.watch
watch_is waiting jobs kinds ends n j above there =
    ap (λ (t : Bool). if t then None else slice_get (map watched jobs) (n - 1)) (not_zero n above) ∙ slice_get-map watched jobs (n - 1) ∙ ap (option_map watched) there

pub looked : (waiting : List Posted) (jobs : List WatchedJob) (kinds : List JobKind) (ends : List Bool) (n : ℕ) (j k : WatchedJob) (kind : JobKind) (ended : Bool) (state : JobState) (p : Progress) → state ≡ state_of (is_numbered n waiting) ended p → n ≢ 0 → slice_get kinds (n - 1) ≡ Some kind → slice_get ends (n - 1) ≡ Some ended → slice_get jobs (n - 1) ≡ Some j → Tells j.watch k.watch p → AddsUp j.watch k.watch p
    → (sheet : Sheet) → sheet ≡ j.sheet.value → (IsSettled sheet.hands j.watch.seen → IsFinal j.watch.seen p) → StaysEnded sheet.hands j.watch.seen k.watch.seen
    → IsLooked (board_of waiting jobs kinds ends) n (record { kind = kind; state = state; progress = p }) (board_of waiting (slice_set jobs (n - 1) k) kinds ends)
looked waiting jobs kinds ends n j k kind ended state p stands above of_kind of_end there tells adds sheet same final stays = record {
  watch = j.watch;
  left = k.watch;
  of_job = watch_is waiting jobs kinds ends n j above there;
  kind = of_kind;
  ended = ended;
  ended_is = of_end;
  state = stands;
  tells = tells;
  adds_up = adds;
  settled = λ done failed unkept e.
      let f = final (subst (λ (s : Sheet). IsSettled s.hands j.watch.seen) (j.own ∙ sym same) e.settled) in
      record { done_is = f.done ∙ sym e.done_is; failed_is = f.failed ∙ sym e.failed_is; unkept_is = f.unkept ∙ sym e.unkept_is };
  stays = subst (λ (s : Sheet). StaysEnded s.hands j.watch.seen k.watch.seen) (same ∙ sym j.own) stays;
  is = ap (λ (ws : List SheetHolding). record { waiting = waiting; watches = ws; kinds = kinds; ends = ends }) (map-set watched jobs (n - 1) k);
}

pub stopped : (waiting : List Posted) (jobs : List WatchedJob) (kinds : List JobKind) (ends : List Bool) (n : ℕ) (j k : WatchedJob) → n ≢ 0 → slice_get jobs (n - 1) ≡ Some j → Cancels j.watch k.watch → (sheet : Sheet) → sheet ≡ j.sheet.value → StaysEnded sheet.hands j.watch.seen k.watch.seen
    → IsStopped (board_of waiting jobs kinds ends) n (board_of waiting (slice_set jobs (n - 1) k) kinds ends)
stopped waiting jobs kinds ends n j k above there cancels sheet same stays = record {
  watch = j.watch;
  left = k.watch;
  of_job = watch_is waiting jobs kinds ends n j above there;
  cancels = cancels;
  stays = subst (λ (s : Sheet). StaysEnded s.hands j.watch.seen k.watch.seen) (same ∙ sym j.own) stays;
  is = ap (λ (ws : List SheetHolding). record { waiting = waiting; watches = ws; kinds = kinds; ends = ends }) (map-set watched jobs (n - 1) k);
}

pub finished : (waiting : List Posted) (jobs : List WatchedJob) (kinds : List JobKind) (ends : List Bool) (n : ℕ) (j k : WatchedJob) (ended : SheetHolding) → n ≢ 0 → slice_get jobs (n - 1) ≡ Some j → TakesOver j.watch ended k.watch
    → IsFinished (board_of waiting jobs kinds ends) n ended (board_of waiting (slice_set jobs (n - 1) k) kinds (slice_set ends (n - 1) true))
finished waiting jobs kinds ends n j k ended above there takes = record {
  watch = j.watch;
  left = k.watch;
  of_job = watch_is waiting jobs kinds ends n j above there;
  takes = takes;
  is = ap (λ (ws : List SheetHolding). record { waiting = waiting; watches = ws; kinds = kinds; ends = slice_set ends (n - 1) true }) (map-set watched jobs (n - 1) k);
}

-- what was handed in stays as it is where the job's watch knows of no cancel, and is cancelled else
pub as_it_is : (watch left ended : SheetHolding) (p : Progress) → AddsUp watch left p → p.cancelled ≡ false → TakesOver watch ended ended
as_it_is watch left ended p adds running = record {
  same_sheet = refl;
  later = same_standing ended.seen;
  ends = λ done failed unkept e. e;
  cancelled = λ is. absurd (true≢false (sym (adds.cancelled is) ∙ running));
}

pub as_cancelled : (watch ended left : SheetHolding) → Cancels ended left → StaysEnded ended.sheet.hands ended.seen left.seen → TakesOver watch ended left
as_cancelled watch ended left c stays =
    let later = c.finds.later in
    record {
      same_sheet = ap (λ (h : SheetHolding). h.sheet) c.is;
      later = subst (Later ended.seen) (sym (ap (λ (h : SheetHolding). h.seen) c.is)) (record { accounts = later.accounts; cancelled = λ _. refl });
      ends = stays;
      cancelled = λ _. ap (λ (h : SheetHolding). h.seen.cancelled) c.is;
    }

-- THE NUMBERS OF THOSE THAT WAIT

numbered_later : (waiting : List Posted) (m n : ℕ) → m ≤ n → All (HasNumber m) waiting → All (HasNumber n) waiting
numbered_later waiting m n more all k d within = let h = all k d within in let most = h.most in record { least = h.least; most = omega arith }

numbered_more : (waiting : List Posted) (jobs : List WatchedJob) (p : Posted) (j : WatchedJob) → p.number ≡ length jobs + 1 → All (HasNumber (length jobs)) waiting → All (HasNumber (length (jobs ++ j ∷ []))) (waiting ++ p ∷ [])
numbered_more waiting jobs p j is all =
    let one = length-append jobs (j ∷ []) in
    let n = length (jobs ++ j ∷ []) in
    All-push (HasNumber n) waiting p (numbered_later waiting (length jobs) n (omega arith) all) (record { least = omega arith; most = omega arith })

pub numbered_pushed : (waiting more : List Posted) (jobs more_jobs : List WatchedJob) (p : Posted) (j : WatchedJob) → more ≡ waiting ++ p ∷ [] → more_jobs ≡ jobs ++ j ∷ [] → p.number ≡ length jobs + 1 → All (HasNumber (length jobs)) waiting
    → All (HasNumber (length more_jobs)) more
numbered_pushed waiting more jobs more_jobs p j more_wait more_are is all =
    subst (λ (js : List WatchedJob). All (HasNumber (length js)) more) (sym more_are)
    (subst (λ (ps : List Posted). All (HasNumber (length (jobs ++ j ∷ []))) ps) (sym more_wait) (numbered_more waiting jobs p j is all))

-- one more job
pub joined : (waiting : List Posted) (jobs : List WatchedJob) (kinds : List JobKind) (ends : List Bool) (p : Posted) (j : WatchedJob) → board_of (waiting ++ p ∷ []) (jobs ++ j ∷ []) kinds ends ≡ record { waiting = waiting ++ p ∷ []; watches = map watched jobs ++ j.watch ∷ []; kinds = kinds; ends = ends }
joined waiting jobs kinds ends p j = ap (λ (ws : List SheetHolding). record { waiting = waiting ++ p ∷ []; watches = ws; kinds = kinds; ends = ends }) (map-append watched jobs (j ∷ []))
