-- The turns of members that run jobs are at a cabinet of the catalogue.
use Rattle.std.proofs.Common.{arith, ◌≡◌, ℕ, inl, inr, ⊎_elim, Bool, List, [], ◌∷◌, ◌++◌, map, sym, ap, subst}
use Rattle.std.proofs.lemmas.List.{reverse-append, reverse-reverse}
use Rattle.std.proofs.lemmas.List.Elements.{All-append, All-cons, All-contains, All-contains_itself, All-from_recursion, All-head, All-map, All-nil, All-tail, All-weaker, Contains-append_cases, Contains-append_right, recursion_from_All}
use Rattle.std.specs.List.{All, AllByRecursion, Contains}
use Rattle.std.specs.Prelude.{None, Some, reverse}
use Rattle.atomic_table.specs.Seated.{TableId}
use Rattle.cabinet_chest.specs.declared.shown.Note.{Note}
use Rattle.cache_hall.specs.Turned.{HallPass}
use Rattle.catalog.specs.declared.catalogue.Catalogue.{Catalogue}
use Rattle.job_board.specs.declared.shown.BoardNote as board
use Rattle.job_board.specs.declared.shown.BoardReply.{BoardReply}
use Rattle.job_board.specs.declared.shown.BoardReply.TheVariants as reply
use Rattle.job_places.specs.declared.tally.Tally.{Tally}
use Rattle.job_places.specs.Visits.{Visit}
use Rattle.source_render.specs.Renders.{Renders}
use Rattle.seed_jobs.specs.Idles.{Idle, MayJoin, Standby, passes_of, without_hand}
use Rattle.seed_jobs.specs.Runs.{AreRun, DoesAfter, IsJobRunByCrew, Round}
use Rattle.job_board.specs.Hands.{Sheet, SheetHolding}
use Rattle.job_forms.specs.declared.job.Job.{Job}
use Rattle.seed_jobs.specs.Crews.{HaveWorked}
use Rattle.seed_jobs.specs.Visits.{AreVisits, turns_of}
use Rattle.seed_jobs.specs.Workers.{JobWorker}
use Rattle.truncation_list.specs.declared.book.FrontedBook.{FrontedBook}
use Rattle.turnstile.specs.declared.view.Made.{Made}
use Rattle.turnstile.proofs.Notes.{back_of, front_of}
use Rattle.server_workers.specs.Runners.{HasRunOn}
use Rattle.server_workers.proofs.Between.{HasTurnsAt, IsTurnAt, more_turns, no_turns, of_turns}

-- LISTS FROM BEHIND

module _ {A : Type 0} (P : A → Type 0) where
  all_reversed : (xs : List A) → All P xs → All P (reverse xs)
  all_reversed [] h = All-nil P
  all_reversed (x ∷ xs) h =
      subst (All P) (sym (reverse-append (x ∷ []) xs)) (All-append P (reverse xs) (x ∷ []) (all_reversed xs (All-tail P x xs h)) (All-cons P x [] (All-head P x xs h) (All-nil P)))

  all_forward : (xs : List A) → All P (reverse xs) → All P xs
  all_forward xs h = subst (All P) (reverse-reverse xs) (all_reversed (reverse xs) h)

-- VISITS

of_visits : (c : Catalogue) (told : Bool) (job : Job) (seen : FrontedBook) (so_far : Renders) (vs : List Visit) (sees : FrontedBook) (after : Renders) → AreVisits c told job seen so_far vs sees after → (m : Made Note) → Contains (turns_of vs) m → IsTurnAt c m
of_visits c told job seen so_far [] sees after are m (k, lt, _) = absurd (omega (arith, lt))
of_visits c told job seen so_far (v ∷ vs) sees after are m at =
    ⊎_elim (λ (mine : Contains v.gained m). of_turns c told v.seen v.sees v.gained are.2.turns m mine) (λ (later : Contains (turns_of vs) m). of_visits c told job v.sees v.renders_after vs sees after are.3 m later)
    (Contains-append_cases v.gained (turns_of vs) m at)

-- A CREW

abbrev WorkerHas : Catalogue → JobWorker → Type 0
WorkerHas c w = HasTurnsAt c w.pass

abbrev IdleHas : Catalogue → Idle → Type 0
IdleHas c i = HasTurnsAt c i.pass

crew_keeps : (c : Catalogue) (job : Job) (crew crew_after : List JobWorker) (ts : List Tally) → HaveWorked c job crew crew_after ts → AllByRecursion (WorkerHas c) crew → AllByRecursion (WorkerHas c) crew_after
crew_keeps c job [] [] [] worked had = tt
crew_keeps c job [] [] (t ∷ ts) worked had = absurd worked
crew_keeps c job [] (a ∷ crew_after) ts worked had = absurd worked
crew_keeps c job (b ∷ crew) [] ts worked had = absurd worked
crew_keeps c job (b ∷ crew) (a ∷ crew_after) [] worked had = absurd worked
crew_keeps c job (b ∷ crew) (a ∷ crew_after) (t ∷ ts) worked had =
    let w = worked.0.worked in (
      more_turns c b.pass a.pass (turns_of w.visits) (ap (λ (p : HallPass). p.made) w.made) had.0 (of_visits c b.pass.told job b.pass.book b.renders w.visits a.pass.book a.renders w.are_visits),
      crew_keeps c job crew crew_after ts worked.1 had.1,
    )

from_idle : (c : Catalogue) (crew : List JobWorker) → AllByRecursion (IdleHas c) (map without_hand crew) → AllByRecursion (WorkerHas c) crew
from_idle c [] had = tt
from_idle c (w ∷ ws) had = (had.0, from_idle c ws had.1)

to_idle : (c : Catalogue) (crew : List JobWorker) → AllByRecursion (WorkerHas c) crew → AllByRecursion (IdleHas c) (map without_hand crew)
to_idle c [] had = tt
to_idle c (w ∷ ws) had = (had.0, to_idle c ws had.1)

-- RUNS

run_keeps : (c : Catalogue) (job : Job) (sheet : Sheet) (hands : List SheetHolding) (before after : List Idle) → IsJobRunByCrew c job sheet hands before after → All (IdleHas c) before → All (IdleHas c) after
run_keeps c job sheet hands before after r had =
    let crew = map without_hand r.crew in
    let crew_after = map without_hand r.crew_after in
    let all = subst (All (IdleHas c)) r.were had in
    let worked = crew_keeps c job r.crew r.crew_after r.tallies r.worked (from_idle c r.crew (recursion_from_All (IdleHas c) crew (all_forward (IdleHas c) crew (back_of (IdleHas c) r.others (reverse crew) all)))) in
    subst (All (IdleHas c)) (sym r.are)
    (All-append (IdleHas c) r.others (reverse crew_after) (front_of (IdleHas c) r.others (reverse crew) all) (all_reversed (IdleHas c) crew_after (All-from_recursion (IdleHas c) crew_after (to_idle c r.crew_after worked))))

does_keep : (c : Catalogue) (r : BoardReply) (ending : List (Made board.BoardNote)) (before after : List Idle) → DoesAfter c r ending before after → All (IdleHas c) before → All (IdleHas c) after
does_keep c (reply.Next (Some p)) ending before after (inl run) had = run_keeps c p.job p.sheet.value p.hands.items before after run.0 had
does_keep c (reply.Next (Some p)) ending before after (inr left) had = subst (All (IdleHas c)) (sym left.2) had
does_keep c (reply.Next None) ending before after same had = subst (All (IdleHas c)) (sym same.1) had
does_keep c (reply.Submit n) ending before after does had = absurd does
does_keep c (reply.Look p) ending before after does had = absurd does
does_keep c (reply.Stop is) ending before after does had = absurd does
does_keep c (reply.Finish is) ending before after does had = absurd does

runs_keep : (c : Catalogue) (rounds : List Round) (before after : List Idle) → AreRun c rounds before after → All (IdleHas c) before → All (IdleHas c) after
runs_keep c [] before after same had = subst (All (IdleHas c)) (sym same) had
runs_keep c (r ∷ rs) before after (between, does, later) had = runs_keep c rs between after later (does_keep c r.look.note.reply r.ending before between does had)

-- members that had made nothing have made such turns
pub of_idle : (c : Catalogue) (first : HallPass) (before : Standby) (on : HasRunOn c before) → on.heard.idle ≡ on.between.idle → All (λ (i : Idle). i.pass ≡ first) before.idle → first.made ≡ [] → (p : HallPass) → Contains (passes_of on.after.idle) p → HasTurnsAt c p
of_idle c first before on same nothing none p at =
    let had = All-weaker (λ (i : Idle). i.pass ≡ first) (IdleHas c) (λ i e. subst (HasTurnsAt c) (sym e) (no_turns c first none)) before.idle nothing in
    let between = runs_keep c on.runs.has_run.rounds before.idle on.between.idle on.runs.has_run.are_run had in
    let after = runs_keep c on.runs_on.has_run.rounds on.heard.idle on.after.idle on.runs_on.has_run.are_run (subst (All (IdleHas c)) (sym same) between) in
    All-contains (HasTurnsAt c) (passes_of on.after.idle) p (All-map (HasTurnsAt c) (λ (i : Idle). i.pass) on.after.idle after) at

-- THE PASSES OF ALL THAT WORKED

-- those of members are among them
pub idle_among : (before passes : List HallPass) (idle : List Idle) → passes ≡ before ++ reverse (passes_of idle) → (p : HallPass) → Contains (passes_of idle) p → Contains passes p
idle_among before passes idle is p at =
    subst (λ ps. Contains ps p) (sym is)
    (Contains-append_right before (reverse (passes_of idle)) p (All-contains (Contains (reverse (passes_of idle))) (passes_of idle) p (all_forward (Contains (reverse (passes_of idle))) (passes_of idle) (All-contains_itself (reverse (passes_of idle)))) at))

-- and all of them are of the hall
pub all_of_hall : (table : TableId) (c : Catalogue) (before passes : List HallPass) (idle : List Idle) → passes ≡ before ++ reverse (passes_of idle) → All (λ (p : HallPass). p.table ≡ table) before → All (MayJoin table c) idle → All (λ (p : HallPass). p.table ≡ table) passes
all_of_hall table c before passes idle is these those =
    let mine = All-map (λ (p : HallPass). p.table ≡ table) (λ (i : Idle). i.pass) idle (All-weaker (MayJoin table c) (λ (i : Idle). i.pass.table ≡ table) (λ i may. may.of_hall.same_table) idle those) in
    subst (All (λ (p : HallPass). p.table ≡ table)) (sym is) (All-append (λ (p : HallPass). p.table ≡ table) before (reverse (passes_of idle)) these (all_reversed (λ (p : HallPass). p.table ≡ table) (passes_of idle) mine))
