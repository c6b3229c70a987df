-- The places of a crew are shared out.
use Rattle.std.specs.Prelude.{IfSome, not}
use Rattle.std.proofs.Common.{ℕ, zero, suc, ◌≡◌, ◌≢◌, ◌+◌, ◌<◌, ◌≤◌, All, List, [], ◌∷◌, ◌++◌, length, get_or, replicate, slice_get, Option, Some, None, sum_by, refl, sym, ap, subst, ◌∙◌, arith}
use Rattle.std.proofs.lemmas.List.Sums.{sum_by-cons}
use Rattle.atomic_table.specs.Seated.{TableId}
use Rattle.catalog.specs.declared.catalogue.Catalogue.{Catalogue}
use Rattle.job_places.specs.declared.tally.Tally.{Tally}
use Rattle.job_places.specs.Ends.{is_done, is_unkept}
use Rattle.job_board.specs.declared.standing.HandAccount.{HandAccount}
use Rattle.job_board.specs.declared.standing.HandEnd.TheVariants.{Open}
use Rattle.job_board.specs.SheetCalls.{claimed_by, done_by, failed_by, unkept_by}
use Rattle.job_board.specs.Hands.{AreFresh, Sheet, SheetHolding, fresh_holding, own}
use Rattle.job_board.specs.Standings.{fresh}
use Rattle.job_forms.specs.declared.job.Job.{Job}
use Rattle.seed_jobs.specs.Crews.{AreShared, HaveWorked, SeesEnd, hands_of, total_of}
use Rattle.seed_jobs.specs.Gathered.{AreAlike, AreAll, IsAlike}
use Rattle.seed_jobs.specs.Totals.{HasFew}
use Rattle.seed_jobs.specs.Workers.{JobWorker, MayWork}
use Rattle.seed_jobs.specs.Works.{Works}
use Rattle.seed_jobs.specs.Visits.{visited}
use Rattle.seed_jobs.proofs.Working.{as_many, passing_counted, unkept_few}

some_same : {X : Type 0} {a b : X} → Some a ≡ Some b → a ≡ b
some_same e = cc

option_apart : {X : Type 0} {a : X} → None ≡ Some a → ⊥
option_apart e = cc

module _ (c : Catalogue) (job : Job) where
  -- AFTER THE GATHERING a worker has worked as before

  works_alike : (b m a : JobWorker) (t : Tally) → Works c job b m t → IsAlike m a → Works c job b a t
  works_alike b m a t works alike =
      let h : SheetHolding = a.hand in
      let gains = works.worked.gains in
      let moved : Works c job b (record m { hand = h }) t = record {
        end = works.end;
        met_none = works.met_none;
        worked = record {
          visits = works.worked.visits;
          made = works.worked.made;
          are_visits = works.worked.are_visits;
          gains = record {
            same_sheet = ap (λ (x : SheetHolding). x.sheet) alike.hand ∙ gains.same_sheet;
            same_number = ap (λ (x : SheetHolding). x.number) alike.hand ∙ gains.same_number;
            account = alike.own_is ∙ gains.account;
            done = ap (λ (x : SheetHolding). x.done) alike.hand ∙ gains.done;
            failed = ap (λ (x : SheetHolding). x.failed) alike.hand ∙ gains.failed;
          };
          counts = works.worked.counts;
          same_source = works.worked.same_source;
        };
        adds_up = works.adds_up;
        within = works.within;
      } in
      subst (λ (w : JobWorker). Works c job b w t) (sym alike.is) moved

  pub worked_alike : (before mid after : List JobWorker) (ts : List Tally) → HaveWorked c job before mid ts → AreAlike mid after → HaveWorked c job before after ts
  worked_alike [] [] [] [] works alike = tt
  worked_alike [] [] (a ∷ after) ts works alike = absurd alike
  worked_alike [] [] [] (t ∷ ts) works alike = absurd works
  worked_alike [] (m ∷ mid) after ts works alike = absurd works
  worked_alike (b ∷ before) [] after ts works alike = absurd works
  worked_alike (b ∷ before) (m ∷ mid) [] ts works alike = absurd alike
  worked_alike (b ∷ before) (m ∷ mid) (a ∷ after) [] works alike = absurd works
  worked_alike (b ∷ before) (m ∷ mid) (a ∷ after) (t ∷ ts) works alike = (works_alike b m a t works.0 alike.0, worked_alike before mid after ts works.1 alike.1)

  module _ (table : TableId) (sheet : Sheet) where
    -- the hands are still of the sheet
    pub are_of : (before after : List JobWorker) (ts : List Tally) → HaveWorked c job before after ts → All (MayWork table c sheet) before → All (λ (h : SheetHolding). h.sheet ≡ sheet) (hands_of after)
    are_of before [] ts works may k d within = absurd (omega (arith, within))
    are_of [] (a ∷ after) ts works may k d within = absurd works
    are_of (b ∷ before) (a ∷ after) [] works may k d within = absurd works
    are_of (b ∷ before) (a ∷ after) (t ∷ ts) works may zero d within = works.0.worked.gains.same_sheet ∙ (may 0 b (omega arith)).of_sheet
    are_of (b ∷ before) (a ∷ after) (t ∷ ts) works may (suc k) d within = are_of before after ts works.1 (λ i e below. may (suc i) e (omega (arith, below))) k d (omega (arith, within))

    few_of : (b a : JobWorker) (t : Tally) → sheet.places ≤ 10000000 → Works c job b a t → MayWork table c sheet b → HasFew t
    few_of b a t most works may =
        let places = ap (λ (s : Sheet). s.places) may.of_sheet in
        let within = works.within in
        let all = works.adds_up in
        record { places = omega (arith, within, places, most); done = omega (arith, within, places, most, all); failed = omega (arith, within, places, most, all); unkept = omega (arith, within, places, most, all, unkept_few t works.worked.visits works.worked.counts) }

    -- each tally counts no more than all places
    pub few : (before after : List JobWorker) (ts : List Tally) → sheet.places ≤ 10000000 → HaveWorked c job before after ts → All (MayWork table c sheet) before → All HasFew ts
    few before after [] most works may k d within = absurd (omega (arith, within))
    few [] [] (t ∷ ts) most works may k d within = absurd works
    few [] (a ∷ after) (t ∷ ts) most works may k d within = absurd works
    few (b ∷ before) [] (t ∷ ts) most works may k d within = absurd works
    few (b ∷ before) (a ∷ after) (t ∷ ts) most works may zero d within = few_of b a t most works.0 (may 0 b (omega arith))
    few (b ∷ before) (a ∷ after) (t ∷ ts) most works may (suc k) d within = few before after ts most works.1 (λ i e below. may (suc i) e (omega (arith, below))) k d (omega (arith, within))

  -- FRESH HANDS

  same_count : (before after : List JobWorker) (ts : List Tally) → HaveWorked c job before after ts → length (hands_of after) ≡ length (hands_of before)
  same_count [] [] ts works = refl
  same_count [] (a ∷ after) ts works = absurd works
  same_count (b ∷ before) [] ts works = absurd works
  same_count (b ∷ before) (a ∷ after) [] works = absurd works
  same_count (b ∷ before) (a ∷ after) (t ∷ ts) works = ap suc (same_count before after ts works.1)

  -- the hand at a place, and what it was before
  record IsWorkedHand (before : List JobWorker) (n : ℕ) (h : SheetHolding) : Type 0 where
    was : SheetHolding
    is_there : slice_get (hands_of before) n ≡ Some was
    number : h.number ≡ was.number
    met_none : (own h).end ≢ Open
    reported : own was ≡ fresh → (own h).done + (own h).failed ≡ length (own h).claimed

  -- what a hand that had claimed nothing has claimed, and reported, is its tally
  counted : (b a : JobWorker) (t : Tally) → Works c job b a t → own b.hand ≡ fresh → (length (own a.hand).claimed ≡ t.places) × ((own a.hand).done ≡ t.done) × ((own a.hand).failed ≡ t.failed) × ((own a.hand).unkept ≡ t.unkept)
  counted b a t works none =
      let vs = works.worked.visits in
      let is = works.worked.gains.account in
      let counts = works.worked.counts in (
        ap (λ (x : HandAccount). length x.claimed) is ∙ ap (λ (x : HandAccount). length (x.claimed ++ visited vs)) none ∙ sym (as_many vs) ∙ sym (ap (λ (x : Tally). x.places) counts),
        omega (arith, ap (λ (x : HandAccount). x.done) is, ap (λ (x : HandAccount). x.done) none, ap (λ (x : Tally). x.done) counts, passing_counted is_done vs),
        omega (arith, ap (λ (x : HandAccount). x.failed) is, ap (λ (x : HandAccount). x.failed) none, ap (λ (x : Tally). x.failed) counts, passing_counted (λ e. not (is_done e)) vs),
        omega (arith, ap (λ (x : HandAccount). x.unkept) is, ap (λ (x : HandAccount). x.unkept) none, ap (λ (x : Tally). x.unkept) counts, passing_counted is_unkept vs),
      )

  reported_one : (b a : JobWorker) (t : Tally) → Works c job b a t → own b.hand ≡ fresh → (own a.hand).done + (own a.hand).failed ≡ length (own a.hand).claimed
  reported_one b a t works none = let n = counted b a t works none in omega (arith, n.0, n.1, n.2, works.adds_up)

  worked_hand : (before after : List JobWorker) (ts : List Tally) (n : ℕ) (h : SheetHolding) → HaveWorked c job before after ts → slice_get (hands_of after) n ≡ Some h → IsWorkedHand before n h
  worked_hand before [] ts n h works e = absurd (option_apart e)
  worked_hand [] (a ∷ after) ts n h works e = absurd works
  worked_hand (b ∷ before) (a ∷ after) [] n h works e = absurd works
  worked_hand (b ∷ before) (a ∷ after) (t ∷ ts) zero h works e =
      let is = some_same e in
      let gains = works.0.worked.gains in
      record {
        was = b.hand;
        is_there = refl;
        number = ap (λ (x : SheetHolding). x.number) (sym is) ∙ gains.same_number;
        met_none = λ ended. works.0.met_none (ap (λ (x : HandAccount). x.end) (sym gains.account) ∙ ap (λ (x : SheetHolding). (own x).end) is ∙ ended);
        reported = λ none. subst (λ (x : SheetHolding). (own x).done + (own x).failed ≡ length (own x).claimed) is (reported_one b a t works.0 none);
      }
  worked_hand (b ∷ before) (a ∷ after) (t ∷ ts) (suc n) h works e =
      let there = worked_hand before after ts n h works.1 e in
      record { was = there.was; is_there = there.is_there; number = there.number; met_none = there.met_none; reported = there.reported }

  module _ (sheet : Sheet) where
    get_within : (hs : List SheetHolding) (n : ℕ) (h : SheetHolding) → slice_get hs n ≡ Some h → n < length hs
    get_within [] n h e = absurd (option_apart e)
    get_within (x ∷ hs) zero h e = omega arith
    get_within (x ∷ hs) (suc n) h e = let there = get_within hs n h e in omega (arith, there)

    fresh_in : (k n : ℕ) → get_or (replicate k fresh) n fresh ≡ fresh
    fresh_in zero n = refl
    fresh_in (suc k) zero = refl
    fresh_in (suc k) (suc n) = fresh_in k n

    -- a fresh hand has its number, and claimed nothing
    fresh_at : (hs : List SheetHolding) → AreFresh sheet hs → (n : ℕ) (h : SheetHolding) → slice_get hs n ≡ Some h → (h.number ≡ Some n) × (own h ≡ fresh)
    fresh_at hs all n h e =
        let below = get_within hs n h e in
        let is : h ≡ fresh_holding sheet (Some n) = some_same (sym e ∙ all.each n (omega (arith, below, all.count))) in (
          ap (λ (x : SheetHolding). x.number) is,
          ap (λ (x : SheetHolding). own x) is ∙ fresh_in sheet.hands n,
        )

    pub all_after : (before after : List JobWorker) (ts : List Tally) → HaveWorked c job before after ts → AreFresh sheet (hands_of before) → AreAll sheet (hands_of after)
    all_after before after ts works all = record {
      count = same_count before after ts works ∙ all.count;
      number = λ n h e. let w = worked_hand before after ts n h works e in w.number ∙ (fresh_at (hands_of before) all n w.was w.is_there).0;
      met_none = λ n h e. (worked_hand before after ts n h works e).met_none;
      reported = λ n h e. let w = worked_hand before after ts n h works e in w.reported (fresh_at (hands_of before) all n w.was w.is_there).1;
    }

    -- a count of the accounts, where each counts as much as the tally at its place
    sum_of : (f : HandAccount → ℕ) (g : Tally → ℕ) → ((b a : JobWorker) (t : Tally) → Works c job b a t → own b.hand ≡ fresh → f (own a.hand) ≡ g t) → (before after : List JobWorker) (ts : List Tally) → HaveWorked c job before after ts
        → ((n : ℕ) (h : SheetHolding) → slice_get (hands_of before) n ≡ Some h → own h ≡ fresh) → sum_by (λ (h : SheetHolding). f (own h)) (hands_of after) ≡ sum_by g ts
    sum_of f g each [] [] [] works none = refl
    sum_of f g each [] [] (t ∷ ts) works none = absurd works
    sum_of f g each [] (a ∷ after) ts works none = absurd works
    sum_of f g each (b ∷ before) [] ts works none = absurd works
    sum_of f g each (b ∷ before) (a ∷ after) [] works none = absurd works
    sum_of f g each (b ∷ before) (a ∷ after) (t ∷ ts) works none =
        let one = each b a t works.0 (none 0 b.hand refl) in
        let others = sum_of f g each before after ts works.1 (λ n h e. none (suc n) h e) in
        let mine = sum_by-cons (λ (h : SheetHolding). f (own h)) a.hand (hands_of after) in
        let theirs = sum_by-cons g t ts in
        omega (arith, one, others, mine, theirs)

    module _ (before after : List JobWorker) (ts : List Tally) (works : HaveWorked c job before after ts) (all : AreFresh sheet (hands_of before)) where
      none_yet : (n : ℕ) (h : SheetHolding) → slice_get (hands_of before) n ≡ Some h → own h ≡ fresh
      none_yet n h e = (fresh_at (hands_of before) all n h e).1

      claimed_sum : claimed_by (hands_of after) ≡ (total_of ts).places
      claimed_sum = sum_of (λ (x : HandAccount). length x.claimed) (λ (x : Tally). x.places) (λ b a t w none. (counted b a t w none).0) before after ts works none_yet

      done_sum : done_by (hands_of after) ≡ (total_of ts).done
      done_sum = sum_of (λ (x : HandAccount). x.done) (λ (x : Tally). x.done) (λ b a t w none. (counted b a t w none).1) before after ts works none_yet

      failed_sum : failed_by (hands_of after) ≡ (total_of ts).failed
      failed_sum = sum_of (λ (x : HandAccount). x.failed) (λ (x : Tally). x.failed) (λ b a t w none. (counted b a t w none).2) before after ts works none_yet

      unkept_sum : unkept_by (hands_of after) ≡ (total_of ts).unkept
      unkept_sum = sum_of (λ (x : HandAccount). x.unkept) (λ (x : Tally). x.unkept) (λ b a t w none. (counted b a t w none).3) before after ts works none_yet

    pub shared_at_last : (before after : List JobWorker) (ts : List Tally) (total : Tally) → HaveWorked c job before after ts → AreFresh sheet (hands_of before) → AreShared sheet (hands_of after) (claimed_by (hands_of after)) → total ≡ total_of ts → AreShared sheet (hands_of after) total.places
    shared_at_last before after ts total works all shared is =
        subst (λ (n : ℕ). AreShared sheet (hands_of after) n) (claimed_sum before after ts works all ∙ sym (ap (λ (x : Tally). x.places) is)) shared

    pub ended_at_last : (before after : List JobWorker) (ts : List Tally) (total : Tally) (watch : Option SheetHolding) → HaveWorked c job before after ts → AreFresh sheet (hands_of before)
        → IfSome watch (λ (w : SheetHolding). SeesEnd sheet (done_by (hands_of after)) (failed_by (hands_of after)) (unkept_by (hands_of after)) w) → total ≡ total_of ts → IfSome watch (λ (w : SheetHolding). SeesEnd sheet total.done total.failed total.unkept w)
    ended_at_last before after ts total None works all ended is = ended
    ended_at_last before after ts total (Some w) works all ended is =
        subst (λ (n : ℕ). SeesEnd sheet total.done total.failed n w) (unkept_sum before after ts works all ∙ sym (ap (λ (x : Tally). x.unkept) is))
        (subst (λ (n : ℕ). SeesEnd sheet total.done n (unkept_by (hands_of after)) w) (failed_sum before after ts works all ∙ sym (ap (λ (x : Tally). x.failed) is))
        (subst (λ (n : ℕ). SeesEnd sheet n (failed_by (hands_of after)) (unkept_by (hands_of after)) w) (done_sum before after ts works all ∙ sym (ap (λ (x : Tally). x.done) is)) ended))
