-- What a worker has done so far, and at the end.
use Rattle.std.proofs.Common.{ℕ, ◌≡◌, ◌≢◌, ◌+◌, ◌≤◌, ◌<◌, Bool, true, false, not, cond, List, [], ◌∷◌, ◌++◌, filter, length, map, Option, refl, sym, ap, subst, ◌∙◌, append_assoc, length-append, arith}
use Rattle.std.specs.Prelude.{count_by}
use Rattle.std.proofs.lemmas.List.{length-map, map-append}
use Rattle.std.proofs.lemmas.List.Sums.{sum_by-cons}
use Rattle.catalog.specs.declared.catalogue.Catalogue.{Catalogue}
use Rattle.atomic_table.specs.Seated.{TableId}
use Rattle.cache_hall.specs.Turned.{HallPass, IsPassOf}
use Rattle.job_places.specs.declared.place.PlaceEnd.{PlaceEnd}
use Rattle.job_places.specs.declared.place.PlaceEnd.TheVariants.{Done, Failed, Unkept}
use Rattle.job_places.specs.declared.tally.Tally.{Tally}
use Rattle.job_places.specs.Ends.{is_done, is_unkept}
use Rattle.job_places.specs.Tallies.{one_more, tally_of}
use Rattle.job_places.specs.Visits.{Visit, visit_of}
use Rattle.job_places.proofs.Counting.{adds_up, one_counted, tally_more, unkept_within}
use Rattle.job_board.specs.declared.standing.HandAccount.{HandAccount}
use Rattle.job_board.specs.declared.standing.HandEnd.{HandEnd}
use Rattle.job_board.specs.declared.standing.HandEnd.TheVariants.{AllClaimed, Cancelled, Open}
use Rattle.job_board.specs.declared.standing.SheetStanding.{SheetStanding}
use Rattle.job_board.specs.SheetCalls.{Claims, MeetsNone, Refuses}
use Rattle.job_board.specs.Hands.{Sheet, SheetHolding, own}
use Rattle.job_board.specs.Standings.{ending, gaining}
use Rattle.job_forms.specs.declared.job.Job.{Job}
use Rattle.source_render.specs.Renders.{Renders}
use Rattle.truncation_list.specs.declared.book.FrontedBook.{FrontedBook}
use Rattle.turnstile.specs.Passes.{seen_by}
use Rattle.seed_jobs.specs.Reports.{Reports, place_if, reporting}
use Rattle.seed_jobs.specs.Visited.{HasVisited}
use Rattle.seed_jobs.specs.Visits.{AreVisits, IsPassVisit, done_of, failed_of, turns_of, unkept_of, visited}
use Rattle.seed_jobs.specs.Workers.{JobWorker, MayWork}
use Rattle.seed_jobs.specs.Works.{HasWorkedAtJob, Works, gaining_all}

append_nil : {X : Type 0} (xs : List X) → xs ++ [] ≡ xs
append_nil [] = refl
append_nil (x ∷ xs) = ap (λ ys. x ∷ ys) (append_nil xs)

-- ONE MORE BEHIND

turns_more : (vs : List Visit) (v : Visit) → turns_of (vs ++ v ∷ []) ≡ turns_of vs ++ v.gained
turns_more [] v = append_nil v.gained
turns_more (x ∷ vs) v = ap (λ ms. x.gained ++ ms) (turns_more vs v) ∙ sym (append_assoc x.gained (turns_of vs) v.gained)

visited_more : (vs : List Visit) (v : Visit) → visited (vs ++ v ∷ []) ≡ visited vs ++ v.place ∷ []
visited_more [] v = refl
visited_more (x ∷ vs) v = ap (λ ps. x.place ∷ ps) (visited_more vs v)

-- the places of those that pass a test, which says so of one visit
module _ (test : Visit → Bool) where
  abbrev passing : List Visit → List ℕ
  passing vs = visited (filter test vs)

  passing_one : (v : Visit) → passing (v ∷ []) ≡ place_if (test v) v.place
  passing_one v = elim (test v) as (λ b. visited (cond b (v ∷ []) []) ≡ place_if b v.place) [ true ↦ refl | false ↦ refl ]

  passing_cons : (x : Visit) (vs : List Visit) → passing (x ∷ vs) ≡ place_if (test x) x.place ++ passing vs
  passing_cons x vs = elim (test x) as (λ b. visited (cond b (x ∷ filter test vs) (filter test vs)) ≡ place_if b x.place ++ visited (filter test vs)) [ true ↦ refl | false ↦ refl ]

  passing_more : (vs : List Visit) (v : Visit) → passing (vs ++ v ∷ []) ≡ passing vs ++ place_if (test v) v.place
  passing_more [] v = passing_one v
  passing_more (x ∷ vs) v =
      passing_cons x (vs ++ v ∷ []) ∙ ap (λ ps. place_if (test x) x.place ++ ps) (passing_more vs v)
      ∙ sym (append_assoc (place_if (test x) x.place) (passing vs) (place_if (test v) v.place))
      ∙ ap (λ ps. ps ++ place_if (test v) v.place) (sym (passing_cons x vs))

done_more : (vs : List Visit) (v : Visit) → done_of (vs ++ v ∷ []) ≡ done_of vs ++ place_if (is_done v.end) v.place
done_more = passing_more (λ v. is_done v.end)

failed_more : (vs : List Visit) (v : Visit) → failed_of (vs ++ v ∷ []) ≡ failed_of vs ++ place_if (not (is_done v.end)) v.place
failed_more = passing_more (λ v. not (is_done v.end))

unkept_more : (vs : List Visit) (v : Visit) → unkept_of (vs ++ v ∷ []) ≡ unkept_of vs ++ place_if (is_unkept v.end) v.place
unkept_more = passing_more (λ v. is_unkept v.end)

visits_more : (c : Catalogue) (told : Bool) (job : Job) (seen : FrontedBook) (so_far : Renders) (vs : List Visit) (sees : FrontedBook) (after : Renders) (v : Visit) → AreVisits c told job seen so_far vs sees after → v.seen ≡ sees → v.renders_before ≡ after → IsPassVisit c told job v
    → AreVisits c told job seen so_far (vs ++ v ∷ []) v.sees v.renders_after
visits_more c told job seen so_far [] sees after v are saw counted is = (saw ∙ are.0, counted ∙ are.1, is, (refl, refl))
visits_more c told job seen so_far (x ∷ vs) sees after v are saw counted is = (are.0, are.1, are.2, visits_more c told job x.sees x.renders_after vs sees after v are.3 saw counted is)

-- COUNTS

abbrev ends_of : List Visit → List PlaceEnd
ends_of vs = map (λ (v : Visit). v.end) vs

place_counted : (b : Bool) (place : ℕ) → length (place_if b place) ≡ cond b 1 0
place_counted true place = refl
place_counted false place = refl

pub as_many : (vs : List Visit) → length (ends_of vs) ≡ length (visited vs)
as_many vs = length-map vs (λ (v : Visit). v.end) ∙ sym (length-map vs (λ (v : Visit). v.place))

-- as many places of visits pass a test of their ends as ends do
pub passing_counted : (test : PlaceEnd → Bool) (vs : List Visit) → length (visited (filter (λ v. test v.end) vs)) ≡ count_by test (ends_of vs)
passing_counted test [] = refl
passing_counted test (x ∷ vs) =
    let one = ap (λ (ps : List ℕ). length ps) (passing_cons (λ v. test v.end) x vs) in
    let split = length-append (place_if (test x.end) x.place) (visited (filter (λ v. test v.end) vs)) in
    let counted = sum_by-cons (λ (e : PlaceEnd). cond (test e) 1 0) x.end (ends_of vs) in
    omega (arith, one, split, counted, place_counted (test x.end) x.place, passing_counted test vs)

same_account : {cs ds : List ℕ} {d e f g u v : ℕ} {x y : HandEnd} → cs ≡ ds → d ≡ e → u ≡ v → f ≡ g → x ≡ y → ◌≡◌ {A = HandAccount} (record { claimed = cs; done = d; unkept = u; failed = f; end = x }) (record { claimed = ds; done = e; unkept = v; failed = g; end = y })
same_account a b c d e = cc

-- as many places as before, and one more
as_before : (n : ℕ) (ps : List ℕ) → n + length ps ≡ n + length (ps ++ [])
as_before n ps = ap (λ (qs : List ℕ). n + length qs) (sym (append_nil ps))

and_one : (n : ℕ) (ps : List ℕ) (place : ℕ) → n + length ps + 1 ≡ n + length (ps ++ place ∷ [])
and_one n ps place = omega (arith, length-append ps (place ∷ []))

account_step : (end : PlaceEnd) (vis don unk fai : List ℕ) (place : ℕ) (a : HandAccount)
    → reporting end (gaining place (record { claimed = a.claimed ++ vis; done = a.done + length don; unkept = a.unkept + length unk; failed = a.failed + length fai; end = Open }))
    ≡ record { claimed = a.claimed ++ (vis ++ place ∷ []); done = a.done + length (don ++ place_if (is_done end) place); unkept = a.unkept + length (unk ++ place_if (is_unkept end) place); failed = a.failed + length (fai ++ place_if (not (is_done end)) place); end = Open }
account_step Done vis don unk fai place a = same_account (append_assoc a.claimed vis (place ∷ [])) (and_one a.done don place) (as_before a.unkept unk) (as_before a.failed fai) refl
account_step Unkept vis don unk fai place a = same_account (append_assoc a.claimed vis (place ∷ [])) (and_one a.done don place) (and_one a.unkept unk place) (as_before a.failed fai) refl
account_step (Failed cause) vis don unk fai place a = same_account (append_assoc a.claimed vis (place ∷ [])) (as_before a.done don) (as_before a.unkept unk) (and_one a.failed fai place) refl

ends_more : (vs : List Visit) (v : Visit) → tally_of (ends_of vs ++ v.end ∷ []) ≡ tally_of (ends_of (vs ++ v ∷ []))
ends_more vs v = ap tally_of (sym (map-append (λ (x : Visit). x.end) vs (v ∷ [])))

-- the places of a tally that could not be kept are among those done
pub unkept_few : (tally : Tally) (vs : List Visit) → tally ≡ tally_of (ends_of vs) → tally.unkept ≤ tally.done
unkept_few tally vs is = omega (arith, ap (λ (t : Tally). t.unkept) is, ap (λ (t : Tally). t.done) is, unkept_within (ends_of vs))

account_more : (vs : List Visit) (v : Visit) (a : HandAccount) → reporting v.end (gaining v.place (gaining_all vs Open a)) ≡ gaining_all (vs ++ v ∷ []) Open a
account_more vs v a =
    account_step v.end (visited vs) (done_of vs) (unkept_of vs) (failed_of vs) v.place a
    ∙ same_account (ap (λ ps. a.claimed ++ ps) (sym (visited_more vs v))) (ap (λ (ps : List ℕ). a.done + length ps) (sym (done_more vs v))) (ap (λ (ps : List ℕ). a.unkept + length ps) (sym (unkept_more vs v))) (ap (λ (ps : List ℕ). a.failed + length ps) (sym (failed_more vs v))) refl

account_none : (a : HandAccount) → a.end ≡ Open → a ≡ gaining_all [] Open a
account_none a e = same_account (sym (append_nil a.claimed)) (omega arith) (omega arith) (omega arith) e

same_end : (end : PlaceEnd) (a : HandAccount) → (reporting end a).end ≡ a.end
same_end Done a = refl
same_end Unkept a = refl
same_end (Failed cause) a = refl

not_open : (places : ℕ) (found : SheetStanding) (end : HandEnd) → Refuses places found end → end ≢ Open
not_open places found Open why is = why
not_open places found AllClaimed why is = cc
not_open places found Cancelled why is = cc

-- SO FAR

-- nothing yet
pub worked_none : (c : Catalogue) (job : Job) (w : JobWorker) → (own w.hand).end ≡ Open → HasWorkedAtJob c job w w (record { places = 0; done = 0; failed = 0; unkept = 0 }) Open
worked_none c job w e = record {
  visits = [];
  made = ap (λ ms. record { table = w.pass.table; charter = w.pass.charter; told = w.pass.told; book = w.pass.book; made = ms }) (sym (append_nil w.pass.made));
  are_visits = (refl, refl);
  gains = record { same_sheet = refl; same_number = refl; account = account_none (own w.hand) e; done = sym (append_nil w.hand.done); failed = sym (append_nil w.hand.failed) };
  counts = refl;
  same_source = refl;
}

-- a worker that may work, what it has done since it started, and that it claimed no more than all places
pub record IsAtWork (table : TableId) (c : Catalogue) (job : Job) (sheet : Sheet) (start now : JobWorker) (tally : Tally) : Type 0 where
  pub may : MayWork table c sheet now
  pub so_far : HasWorkedAtJob c job start now tally Open
  pub within : tally.places ≤ start.hand.sheet.places

pub at_first : (table : TableId) (c : Catalogue) (job : Job) (sheet : Sheet) (w : JobWorker) → MayWork table c sheet w → IsAtWork table c job sheet w w (record { places = 0; done = 0; failed = 0; unkept = 0 })
at_first table c job sheet w may = record { may = may; so_far = worked_none c job w may.may_claim.1; within = omega arith }

module _ {table : TableId} {c : Catalogue} {job : Job} {sheet : Sheet} {start now : JobWorker} {tally : Tally} (w : IsAtWork table c job sheet start now tally) where
  counts_add_up : tally.done + tally.failed ≡ tally.places
  counts_add_up =
      let places = ap (λ (x : Tally). x.places) w.so_far.counts in
      let done = ap (λ (x : Tally). x.done) w.so_far.counts in
      let failed = ap (λ (x : Tally). x.failed) w.so_far.counts in
      let all = adds_up (ends_of w.so_far.visits) in
      omega (arith, places, done, failed, all)

  unkept_counted : tally.unkept ≤ tally.done
  unkept_counted = unkept_few tally w.so_far.visits w.so_far.counts

  -- AT THE END
  pub works : (t : SheetHolding) → MeetsNone now.hand t → Works c job start (record { hand = t; pass = now.pass; source = now.source; renders = now.renders }) tally
  works t none = record {
    end = none.end;
    met_none = not_open now.hand.sheet.places none.found none.end none.why;
    worked = record {
      visits = w.so_far.visits;
      made = w.so_far.made;
      are_visits = w.so_far.are_visits;
      gains = record {
        same_sheet = ap (λ (h : SheetHolding). h.sheet) none.is ∙ w.so_far.gains.same_sheet;
        same_number = ap (λ (h : SheetHolding). h.number) none.is ∙ w.so_far.gains.same_number;
        account = none.own_is ∙ ap (ending none.end) w.so_far.gains.account;
        done = ap (λ (h : SheetHolding). h.done) none.is ∙ w.so_far.gains.done;
        failed = ap (λ (h : SheetHolding). h.failed) none.is ∙ w.so_far.gains.failed;
      };
      counts = w.so_far.counts;
      same_source = w.so_far.same_source;
    };
    adds_up = counts_add_up;
    within = w.within;
  }

  -- ONE MORE PLACE
  module _ {claimed : SheetHolding} {place : ℕ} (gained : Claims now.hand claimed place) where
    same_sheet : claimed.sheet ≡ now.hand.sheet
    same_sheet = ap (λ (h : SheetHolding). h.sheet) gained.is

    same_number : claimed.number ≡ now.hand.number
    same_number = ap (λ (h : SheetHolding). h.number) gained.is

    -- there is room for it in the tally
    room : length (own claimed).claimed ≤ claimed.sheet.places → tally.places + 1 ≤ sheet.places
    room most =
        let counted = ap (λ (x : Tally). x.places) w.so_far.counts in
        let as_ends = as_many w.so_far.visits in
        let mine : length (own claimed).claimed ≡ length ((own now.hand).claimed ++ place ∷ []) = ap (λ (a : HandAccount). length a.claimed) gained.own_is in
        let before : length (own now.hand).claimed ≡ length ((own start.hand).claimed ++ visited w.so_far.visits) = ap (λ (a : HandAccount). length a.claimed) w.so_far.gains.account in
        let split = length-append (own start.hand).claimed (visited w.so_far.visits) in
        let one = length-append (own now.hand).claimed (place ∷ []) in
        let places = ap (λ (s : Sheet). s.places) (same_sheet ∙ w.may.of_sheet) in
        omega (arith, counted, as_ends, mine, before, split, one, most, places)

    pub countable : (places : ℕ) → length (own claimed).claimed ≤ claimed.sheet.places → sheet.places ≡ places → places ≤ 10000000 → (tally.places < 10000000) × (tally.done + tally.failed ≤ tally.places) × (tally.unkept ≤ tally.done)
    countable places claims is most = let left = room claims in (omega (arith, left, is, most), omega (arith, counts_add_up), unkept_counted)

    module _ {reported : SheetHolding} {pass : HallPass} {after : Renders} {end : PlaceEnd} (source : Option ℕ) (went : HasVisited c job place now.renders after now.pass pass end) (told : source ≡ now.source)
        (of : IsPassOf table c pass) (reports : Reports claimed reported place end) where
      abbrev the_visit : Visit
      the_visit = visit_of place now.pass.book pass.book now.renders after went.gained end

      abbrev then_is : JobWorker
      then_is = record { hand = reported; pass = pass; source = source; renders = after }

      is_visit : IsPassVisit c start.pass.told job the_visit
      is_visit = subst (λ (t : Bool). IsPassVisit c t job the_visit) (ap (λ (p : HallPass). p.told) w.so_far.made) went.visit

      worked_more : HasWorkedAtJob c job start then_is (one_more end tally) Open
      worked_more =
          let vs = w.so_far.visits in
          let gains = w.so_far.gains in
          record {
            visits = vs ++ the_visit ∷ [];
            made = went.is ∙ ap (λ (p : HallPass). seen_by p pass.book went.gained) w.so_far.made
                ∙ ap (λ ms. record { table = start.pass.table; charter = start.pass.charter; told = start.pass.told; book = pass.book; made = ms }) (append_assoc start.pass.made (turns_of vs) went.gained ∙ ap (λ ms. start.pass.made ++ ms) (sym (turns_more vs the_visit)));
            are_visits = visits_more c start.pass.told job start.pass.book start.renders vs now.pass.book now.renders the_visit w.so_far.are_visits refl refl is_visit;
            gains = record {
              same_sheet = reports.same_sheet ∙ same_sheet ∙ gains.same_sheet;
              same_number = reports.same_number ∙ same_number ∙ gains.same_number;
              account = reports.account ∙ ap (reporting end) (gained.own_is ∙ ap (gaining place) gains.account) ∙ account_more vs the_visit (own start.hand);
              done = reports.done ∙ ap (λ ps. ps ++ place_if (is_done end) place) (ap (λ (h : SheetHolding). h.done) gained.is ∙ gains.done) ∙ append_assoc start.hand.done (done_of vs) (place_if (is_done end) place) ∙ ap (λ ps. start.hand.done ++ ps) (sym (done_more vs the_visit));
              failed = reports.failed ∙ ap (λ ps. ps ++ place_if (not (is_done end)) place) (ap (λ (h : SheetHolding). h.failed) gained.is ∙ gains.failed) ∙ append_assoc start.hand.failed (failed_of vs) (place_if (not (is_done end)) place) ∙ ap (λ ps. start.hand.failed ++ ps) (sym (failed_more vs the_visit));
            };
            counts = ap (one_more end) w.so_far.counts ∙ tally_more (ends_of vs) end ∙ ends_more vs the_visit;
            same_source = told ∙ w.so_far.same_source;
          }

      pub goes_on : (next : Tally) → length (own claimed).claimed ≤ claimed.sheet.places → next ≡ one_more end tally → IsAtWork table c job sheet start then_is next
      goes_on next most is = record {
        may = record {
          of_hall = of;
          of_sheet = reports.same_sheet ∙ same_sheet ∙ w.may.of_sheet;
          may_claim = ((w.may.may_claim.0.0, reports.same_number ∙ same_number ∙ w.may.may_claim.0.1), ap (λ (a : HandAccount). a.end) (reports.account ∙ ap (reporting end) gained.own_is) ∙ same_end end (gaining place (own now.hand)) ∙ w.may.may_claim.1);
          source = λ e. told ∙ w.may.source (ap (λ (p : HallPass). p.told) (sym went.is) ∙ e);
        };
        so_far = subst (λ (t : Tally). HasWorkedAtJob c job start then_is t Open) (sym is) worked_more;
        within =
            let one = one_counted end tally in
            let counted = ap (λ (t : Tally). t.places) is in
            let here = ap (λ (s : Sheet). s.places) w.may.of_sheet in
            let there = ap (λ (s : Sheet). s.places) w.so_far.gains.same_sheet in
            let left = room most in
            omega (arith, one, counted, left, here, there);
      }
