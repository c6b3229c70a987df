-- Kept and running numbers differ, and what runs agrees with the sentence on each number.
use Rattle.std.proofs.Common.{◌&&◌, ℕ, ◌≡◌, ◌≢◌, Bool, true, false, cond, not, ◌==◌, List, [], ◌∷◌, ◌++◌, filter, fold, map, find, is_none, Option, Some, None, refl, sym, ap, subst, ◌∙◌, arith, eq-eqb}
use Rattle.std.specs.List.{AllByRecursion}
use Rattle.std.specs.Option.{option_map, option_or, option_and_then}
use Rattle.std.proofs.lemmas.List.Folds.{find-append}
use Rattle.std.proofs.lemmas.Bool.Decides.{nat_tests}
use Rattle.catalog.specs.declared.catalogue.Catalogue.{Catalogue}
use Rattle.metatile_plan.specs.declared.metatile.MetaKey.{MetaKey}
use Rattle.metatile_plan.specs.Keys.{same_meta}
use Rattle.metatile_plan.proofs.Same.{same_meta_is, same_meta_self}
use Rattle.truncation_list.specs.declared.book.Cut.{Cut}
use Rattle.metatile_locks.specs.declared.render.Render.{Render}
use Rattle.metatile_locks.specs.Running.{overtaken, marked, unmarked, without, has_number, is_render_of, running_for, runs_for, render_of, OneRuns}
use Rattle.metatile_locks.specs.Tickets.{Ticketed}
use Rattle.metatile_locks.proofs.Lists.{all_weaker, all_map, all_passed, all_filter, find_filter, found}
use Rattle.metatile_locks.proofs.Runs.{both, one, Differs, marked_is, none_runs, one_begun, one_filter, one_overtaken}
use Rattle.cabinet.specs.declared.entry.HistoryEntry.{HistoryEntry}
use Rattle.cabinet.specs.declared.entry.HistoryEntry.TheVariants as entry
use Rattle.cabinet.specs.declared.kept.Kept.{Kept}
use Rattle.cabinet.specs.Hits.{hits_of}
use Rattle.cabinet.specs.History.{CabinetOpening, CabinetStanding, History, Running, after, but, first, first_entries, is_of, of_meta, render, render_after, spared, standing, stored_entry, ticket_render, whole, with_render, with_uses}
use Rattle.cabinet.specs.Fresh.{Follows, May, Possible, cuts_after, HoldsAfterCuts, HoldsOfRender, HoldsOfKept, ApartBy, Differ}
use Rattle.cabinet.proofs.Holding.{holds_step}
use Rattle.cabinet.proofs.Lists.{all_push, all_found, all_both, either_same, fold_more}
use Rattle.cabinet.proofs.WithUses.{all_set, apart_set}

-- NUMBERS THAT DIFFER

pub apart_filter : {X Y : Type 0} (f : X → Y) (p : X → Bool) (xs : List X) → ApartBy f xs → ApartBy f (filter p xs)
apart_filter f p [] a = tt
apart_filter f p (x ∷ xs) a = chosen (p x) (apart_filter f p xs a.1)
  where
    chosen : (v : Bool) → ApartBy f (filter p xs) → ApartBy f (cond v (x ∷ filter p xs) (filter p xs))
    chosen true rest = (all_filter (λ y. f x ≢ f y) p xs a.0, rest)
    chosen false rest = rest

pub apart_push : {X Y : Type 0} (f : X → Y) (xs : List X) (y : X) → ApartBy f xs → AllByRecursion (λ x. f x ≢ f y) xs → ApartBy f (xs ++ y ∷ [])
apart_push f [] y a b = (tt, tt)
apart_push f (x ∷ xs) y a b = (all_push (λ z. f x ≢ f z) xs y a.0 b.0, apart_push f xs y a.1 b.1)

apart_marked : (is_hit : MetaKey → Bool) (t : ℕ) (rs : List Render) → ApartBy (λ r. r.number) rs → ApartBy (λ r. r.number) (overtaken is_hit t rs)
apart_marked is_hit t [] a = tt
apart_marked is_hit t (r ∷ rs) a = (
  all_map (marked is_hit t) (λ (y : Render). (marked is_hit t r).number ≢ y.number) rs
      (all_weaker (λ (y : Render). r.number ≢ y.number) (λ y. (marked is_hit t r).number ≢ (marked is_hit t y).number) (λ y h e. h (sym (marked_is is_hit t r).number ∙ e ∙ (marked_is is_hit t y).number)) rs a.0),
  apart_marked is_hit t rs a.1,
)

-- the number differs from all kept ones
abbrev OffKept : List Kept → ℕ → Type 0
OffKept kept n = AllByRecursion (λ t. n ≢ t.number) kept

both_marked : (is_hit : MetaKey → Bool) (t : ℕ) (kept : List Kept) (rs : List Render) → AllByRecursion (λ r. OffKept kept r.number) rs → AllByRecursion (λ r. OffKept kept r.number) (overtaken is_hit t rs)
both_marked is_hit t kept rs a = all_map (marked is_hit t) (λ (r : Render). OffKept kept r.number) rs
    (all_weaker (λ (r : Render). OffKept kept r.number) (λ r. OffKept kept (marked is_hit t r).number) (λ r h. subst (OffKept kept) (sym (marked_is is_hit t r).number) h) rs a)

each_fewer : (q : Kept → Bool) (kept : List Kept) (out : List Render) → AllByRecursion (λ r. OffKept kept r.number) out → AllByRecursion (λ r. OffKept (filter q kept) r.number) out
each_fewer q kept out a = all_weaker (λ (r : Render). OffKept kept r.number) (λ r. OffKept (filter q kept) r.number) (λ r h. all_filter (λ (t : Kept). r.number ≢ t.number) q kept h) out a

each_unit : (rs : List Render) → AllByRecursion (λ (r : Render). Unit {0}) rs
each_unit [] = tt
each_unit (r ∷ rs) = (tt, each_unit rs)

not_number : (k : ℕ) (r : Render) → not (has_number k r) ≡ true → r.number ≢ k
not_number k r e n = let h : has_number k r ≡ true = eq-eqb r.number k n in absurd (let f : not (has_number k r) ≡ not true = ap not h in cc)

stored_both : (t : Kept) (kept : List Kept) (out : List Render) → AllByRecursion (λ r. OffKept kept r.number) (without t.number out) → AllByRecursion (λ r. OffKept (kept ++ t ∷ []) r.number) (without t.number out)
stored_both t kept out a =
    let numbers : AllByRecursion (λ (r : Render). r.number ≢ t.number) (without t.number out) = all_passed (λ (r : Render). Unit {0}) (λ r. r.number ≢ t.number) (λ r. not (has_number t.number r)) (λ r e u. not_number t.number r e) out (each_unit out) in
    all_weaker (λ (r : Render). OffKept kept r.number × (r.number ≢ t.number)) (λ r. OffKept (kept ++ t ∷ []) r.number)
    (λ r h. all_push (λ (x : Kept). r.number ≢ x.number) kept t h.0 h.1) (without t.number out)
    (all_both (λ (r : Render). OffKept kept r.number) (λ r. r.number ≢ t.number) (without t.number out) a numbers)

differ_started : (c : Catalogue) (cuts : List Cut) (s : CabinetStanding) (k : ℕ) (m : MetaKey) → HoldsAfterCuts c cuts s → Differ s → May c s (entry.Started k m) → Differ (after c s (entry.Started k m))
differ_started c cuts s k m h d may = record {
  out = apart_push (λ (r : Render). r.number) s.out (unmarked k m s.moment) d.out
      (all_weaker (HoldsOfRender c cuts s.front s.book.floor) (λ r. r.number ≢ k) (λ r x e. let g = x.given in let i = may.0 in absurd (omega arith)) s.out h.out);
  kept = d.kept;
  both = all_push (λ (r : Render). OffKept s.kept r.number) s.out (unmarked k m s.moment) d.both
      (all_weaker (HoldsOfKept c cuts s.front s.book.floor) (λ t. k ≢ t.number) (λ t x e. let g = x.given in let i = may.0 in absurd (omega arith)) s.kept h.kept);
  one_runs = one_begun k m s.moment s.out (none_runs m s.out may.1) d.one_runs;
}

differ_stored : (c : Catalogue) (s : CabinetStanding) (t : Kept) → Differ s → May c s (stored_entry t) → Differ (after c s (stored_entry t))
differ_stored c s t d may =
    let r = all_found (λ (r : Render). OffKept s.kept r.number) (is_render_of (record { number = t.number; meta = t.meta })) s.out (unmarked t.number t.meta t.moment) d.both may.0 in
    let fewer = each_fewer (λ x. not (is_of t.meta x)) s.kept (without t.number s.out) (all_filter (λ (r : Render). OffKept s.kept r.number) (λ r. not (has_number t.number r)) s.out d.both) in
    record {
      out = apart_filter (λ (r : Render). r.number) (λ r. not (has_number t.number r)) s.out d.out;
      kept = apart_push (λ (x : Kept). x.number) (but t.meta s.kept) t (apart_filter (λ (x : Kept). x.number) (λ x. not (is_of t.meta x)) s.kept d.kept)
          (all_filter (λ (x : Kept). x.number ≢ t.number) (λ x. not (is_of t.meta x)) s.kept (all_weaker (λ (x : Kept). t.number ≢ x.number) (λ x. x.number ≢ t.number) (λ x f e. f (sym e)) s.kept r));
      both = stored_both t (but t.meta s.kept) s.out fewer;
      one_runs = one_filter (λ r. not (has_number t.number r)) s.out d.one_runs;
    }

differ_step : (c : Catalogue) (cuts : List Cut) (s : CabinetStanding) (e : HistoryEntry) → HoldsAfterCuts c cuts s → Differ s → May c s e → Differ (after c s e)
differ_step c cuts s (entry.At n) h d may = record { out = d.out; kept = d.kept; both = d.both; one_runs = d.one_runs }
differ_step c cuts s (entry.Started k m) h d may = differ_started c cuts s k m h d may
differ_step c cuts s (entry.Cut t cover) h d may = record {
  out = apart_marked (hits_of c cover) t s.out d.out;
  kept = apart_filter (λ (x : Kept). x.number) (λ x. not (hits_of c cover x.meta)) s.kept d.kept;
  both = both_marked (hits_of c cover) t (spared c cover s.kept) s.out (each_fewer (λ x. not (hits_of c cover x.meta)) s.kept s.out d.both);
  one_runs = one_overtaken (hits_of c cover) t s.out d.one_runs;
}
differ_step c cuts s (entry.Missed t) h d may = record { out = d.out; kept = d.kept; both = d.both; one_runs = d.one_runs }
differ_step c cuts s (entry.Stored k m place length n uses) h d may = differ_stored c s (record { number = k; meta = m; place = place; length = length; moment = n; uses = uses }) d may
differ_step c cuts s (entry.Counted m u) h d may = record {
  out = d.out;
  kept = apart_set m u (λ (x : Kept). x.number) (λ t. refl) s.kept d.kept;
  both = all_weaker (λ (r : Render). OffKept s.kept r.number) (λ r. OffKept (map (with_uses m u) s.kept) r.number) (λ r off. all_set m u (λ (t : Kept). r.number ≢ t.number) (λ t h. h) s.kept off) s.out d.both;
  one_runs = d.one_runs;
}
differ_step c cuts s (entry.Ended k) h d may = record {
  out = apart_filter (λ (r : Render). r.number) (λ r. not (has_number k r)) s.out d.out;
  kept = d.kept;
  both = all_filter (λ (r : Render). OffKept s.kept r.number) (λ r. not (has_number k r)) s.out d.both;
  one_runs = one_filter (λ r. not (has_number k r)) s.out d.one_runs;
}
differ_step c cuts s (entry.Used m) h d may = d
differ_step c cuts s (entry.Dropped m) h d may = record {
  out = d.out;
  kept = apart_filter (λ (x : Kept). x.number) (λ x. not (is_of m x)) s.kept d.kept;
  both = each_fewer (λ x. not (is_of m x)) s.kept s.out d.both;
  one_runs = d.one_runs;
}

differ_run : (c : Catalogue) (cuts : List Cut) (s : CabinetStanding) (h : History) → HoldsAfterCuts c cuts s → Differ s → Follows c s h → Differ (standing c s h)
differ_run c cuts s [] hold d may = d
differ_run c cuts s (e ∷ es) hold d may = differ_run c (cuts_after cuts e) (after c s e) es (holds_step c cuts s e hold may.0) (differ_step c cuts s e hold d may.0) may.1

pub differ_is : (c : Catalogue) (o : CabinetOpening) (h : History) → Possible c o h → Differ (standing c (first o) h)
differ_is c o h may = differ_run c o.book.cuts (first o) h may.opens.holds (record { out = tt; kept = may.opens.numbers; both = tt; one_runs = tt }) may.follows

-- BY NUMBER

find_marked : (is_hit : MetaKey → Bool) (t k : ℕ) (rs : List Render) → find (has_number k) (overtaken is_hit t rs) ≡ option_map (marked is_hit t) (find (has_number k) rs)
find_marked is_hit t k [] = refl
find_marked is_hit t k (r ∷ rs) = chosen (has_number k r) (ap (λ (n : ℕ). n == k) (marked_is is_hit t r).number) (find_marked is_hit t k rs)
  where
    chosen : (v : Bool) → has_number k (marked is_hit t r) ≡ v → find (has_number k) (overtaken is_hit t rs) ≡ option_map (marked is_hit t) (find (has_number k) rs)
        → cond (has_number k (marked is_hit t r)) (Some (marked is_hit t r)) (find (has_number k) (overtaken is_hit t rs)) ≡ option_map (marked is_hit t) (cond v (Some r) (find (has_number k) rs))
    chosen true e ih = rw e refl
    chosen false e ih = rw e ih

nowhere : (k : ℕ) (rs : List Render) → AllByRecursion (λ r. r.number ≢ k) rs → find (has_number k) rs ≡ None
nowhere k [] a = refl
nowhere k (r ∷ rs) a = let n = a.0 in let e : (r.number == k) ≡ false = grind (arith, nat_tests) in rw e (nowhere k rs a.1)

begun_at : (k j : ℕ) (m : MetaKey) (b : ℕ) (f : Option Render) (v : Bool) → (v ≡ true → j ≡ k) → (v ≡ true → f ≡ None) → option_or f (cond v (Some (unmarked j m b)) None) ≡ cond v (Some (unmarked k m b)) f
begun_at k j m b f true e n = rw (n refl, e refl) refl
begun_at k j m b None false e n = refl
begun_at k j m b (Some r) false e n = refl

off_at : (v : Bool) (f : Option Render) → cond (not v) f None ≡ cond v None f
off_at true f = refl
off_at false f = refl

without_is : (k j : ℕ) (rs : List Render) → find (has_number k) (without j rs) ≡ cond (j == k) None (find (has_number k) rs)
without_is k j rs = find_filter (has_number k) (λ r. not (has_number j r)) (not (j == k)) (λ r is. let n : r.number ≡ k = one r.number k is in grind (arith, nat_tests)) rs ∙ off_at (j == k) (find (has_number k) rs)

-- the moment that stands, and the render of a number
abbrev at_number : ℕ → CabinetStanding → Running
at_number k s = record { moment = s.moment; render = find (has_number k) s.out }

abbrev unbegun : Running
unbegun = record { moment = 0; render = None }

render_step : (c : Catalogue) (cuts : List Cut) (k : ℕ) (s : CabinetStanding) (e : HistoryEntry) → HoldsAfterCuts c cuts s → May c s e → at_number k (after c s e) ≡ render_after c k (at_number k s) e
render_step c cuts k s (entry.At n) h may = refl
render_step c cuts k s (entry.Started j m) h may =
    let none : (j == k) ≡ true → find (has_number k) s.out ≡ None =
    λ e. nowhere k s.out (all_weaker (HoldsOfRender c cuts s.front s.book.floor) (λ r. r.number ≢ k) (λ r x n. let g = x.given in let i = may.0 in let q : j ≡ k = one j k e in absurd (omega arith)) s.out h.out) in
    let added = find-append (has_number k) s.out (unmarked j m s.moment ∷ []) ∙ begun_at k j m s.moment (find (has_number k) s.out) (j == k) (λ e. one j k e) none in
    ap (λ (o : Option Render). with_render (at_number k s) o) added
render_step c cuts k s (entry.Cut t cover) h may = ap (λ (o : Option Render). with_render (at_number k s) o) (find_marked (hits_of c cover) t k s.out)
render_step c cuts k s (entry.Missed t) h may = refl
render_step c cuts k s (entry.Stored j m place length n uses) h may = ap (λ (o : Option Render). with_render (at_number k s) o) (without_is k j s.out)
render_step c cuts k s (entry.Counted m u) h may = refl
render_step c cuts k s (entry.Ended j) h may = ap (λ (o : Option Render). with_render (at_number k s) o) (without_is k j s.out)
render_step c cuts k s (entry.Used m) h may = refl
render_step c cuts k s (entry.Dropped m) h may = refl

render_run : (c : Catalogue) (cuts : List Cut) (k : ℕ) (s : CabinetStanding) (h : History) → HoldsAfterCuts c cuts s → Follows c s h → at_number k (standing c s h) ≡ fold (render_after c k) (at_number k s) h
render_run c cuts k s [] hold may = refl
render_run c cuts k s (e ∷ es) hold may =
    render_run c (cuts_after cuts e) k (after c s e) es (holds_step c cuts s e hold may.0) may.1 ∙ ap (λ (r : Running). fold (render_after c k) r es) (render_step c cuts k s e hold may.0)

-- no first entry begins a render
no_first_cut : (c : Catalogue) (k : ℕ) (ks : List Cut) (more : History) → fold (render_after c k) unbegun (map (λ j. entry.Cut j.number j.cover) ks ++ more) ≡ fold (render_after c k) unbegun more
no_first_cut c k [] more = refl
no_first_cut c k (j ∷ ks) more = no_first_cut c k ks more

no_first_kept : (c : Catalogue) (k : ℕ) (ts : List Kept) → fold (render_after c k) unbegun (map stored_entry ts) ≡ unbegun
no_first_kept c k [] = refl
no_first_kept c k (t ∷ ts) = ap (λ (o : Option Render). fold (render_after c k) (with_render unbegun o) (map stored_entry ts)) (either_same None (t.number == k)) ∙ no_first_kept c k ts

render_whole : (c : Catalogue) (o : CabinetOpening) (later : History) (k : ℕ) → render c (whole o later) k ≡ (fold (render_after c k) unbegun later).render
render_whole c o later k =
    ap (λ (r : Running). r.render) (fold_more (render_after c k) unbegun (first_entries o) later)
    ∙ ap (λ (r : Running). (fold (render_after c k) r later).render) (no_first_cut c k o.book.cuts (map stored_entry o.kept) ∙ no_first_kept c k o.kept)

pub render_is : (c : Catalogue) (o : CabinetOpening) (h : History) (k : ℕ) → Possible c o h → find (has_number k) (standing c (first o) h).out ≡ render c (whole o h) k
render_is c o h k may = ap (λ (r : Running). r.render) (render_run c o.book.cuts k (first o) h may.opens.holds may.follows) ∙ sym (render_whole c o h k)

-- BY NUMBER AND METATILE

no_render : (t : Ticketed) (rs : List Render) → AllByRecursion (λ r. t.number ≢ r.number) rs → render_of t rs ≡ None
no_render t [] a = refl
no_render t (r ∷ rs) a =
    let n = a.0 in
    let e : (r.number == t.number) ≡ false = grind (arith, nat_tests) in
    rw e (no_render t rs a.1)

render_at : (t : Ticketed) (r : Render) (rs : List Render) (v w : Bool) → has_number t.number r ≡ v → same_meta r.meta t.meta ≡ w → AllByRecursion (λ y. r.number ≢ y.number) rs
    → render_of t rs ≡ option_and_then (of_meta t.meta) (find (has_number t.number) rs)
    → cond (v && w) (Some r) (render_of t rs) ≡ option_and_then (of_meta t.meta) (cond v (Some r) (find (has_number t.number) rs))
render_at t r rs true true e f a ih = rw f refl
render_at t r rs true false e f a ih = rw f (no_render t rs (subst (λ (n : ℕ). AllByRecursion (λ (y : Render). n ≢ y.number) rs) (one r.number t.number e) a))
render_at t r rs false w e f a ih = ih

-- where numbers differ, the render of a ticket is the one of its number, if that is of its metatile
by_number : (t : Ticketed) (rs : List Render) → ApartBy (λ r. r.number) rs → render_of t rs ≡ option_and_then (of_meta t.meta) (find (has_number t.number) rs)
by_number t [] a = refl
by_number t (r ∷ rs) a = render_at t r rs (has_number t.number r) (same_meta r.meta t.meta) refl refl a.0 (by_number t rs a.1)

pub ticket_is : (c : Catalogue) (o : CabinetOpening) (h : History) (t : Ticketed) → Possible c o h → render_of t (standing c (first o) h).out ≡ ticket_render c (whole o h) t
ticket_is c o h t may = by_number t (standing c (first o) h).out (differ_is c o h may).out ∙ ap (option_and_then (of_meta t.meta)) (render_is c o h t.number may)

-- BY METATILE

none_is : (o : Option ℕ) → is_none o ≡ true → o ≡ None
none_is None e = refl
none_is (Some n) e = absurd (cc)

found_runs : (m : MetaKey) (k n : ℕ) (rs : List Render) → OneRuns rs → find (has_number k) rs ≡ Some (unmarked k m n) → running_for m rs ≡ Some k
found_runs m k n [] o e = absurd (cc)
found_runs m k n (x ∷ xs) o e = at (has_number k x) (runs_for m x) refl refl (λ f. found_runs m k n xs o.1 f) e
  where
    at : (v w : Bool) → has_number k x ≡ v → runs_for m x ≡ w → (find (has_number k) xs ≡ Some (unmarked k m n) → running_for m xs ≡ Some k)
        → cond v (Some x) (find (has_number k) xs) ≡ Some (unmarked k m n) → option_map (λ r. r.number) (cond w (Some x) (find (runs_for m) xs)) ≡ Some k
    at true true j r ih e = ap Some (one x.number k j)
    at true false j r ih e =
        let same : x ≡ unmarked k m n = cc in
        let t : runs_for m x ≡ true = subst (λ (y : Render). runs_for m y ≡ true) (sym same) (rw (same_meta_self m) refl) in
        absurd (let f : true ≡ false = sym t ∙ r in cc)
    at false true j r ih e =
        let p = both (same_meta x.meta m) (is_none x.mark) r in
        let a = all_found (Differs x) (has_number k) xs (unmarked k m n) o.0 e in
        let same : x.meta ≡ m = same_meta_is x.meta m p.0 in
        absurd (a (subst (λ (y : MetaKey). same_meta m y ≡ true) (sym same) (same_meta_self m)) (none_is x.mark p.1) refl)
    at false false j r ih e = ih e

pub running_is : (c : Catalogue) (o : CabinetOpening) (h : History) (m : MetaKey) (k n : ℕ) → Possible c o h → render c (whole o h) k ≡ Some (unmarked k m n) → running_for m (standing c (first o) h).out ≡ Some k
running_is c o h m k n may e = found_runs m k n (standing c (first o) h).out (differ_is c o h may).one_runs (render_is c o h k may ∙ e)

-- the first render that passes is the first with its number
number_of : (q : Render → Bool) (rs : List Render) (r : Render) → ApartBy (λ x. x.number) rs → find q rs ≡ Some r → find (has_number r.number) rs ≡ Some r
number_of q [] r a e = absurd (cc)
number_of q (x ∷ xs) r a e = at (q x) refl e (λ f. number_of q xs r a.1 f)
  where
    at : (v : Bool) → q x ≡ v → cond v (Some x) (find q xs) ≡ Some r → (find q xs ≡ Some r → find (has_number r.number) xs ≡ Some r) → cond (has_number r.number x) (Some x) (find (has_number r.number) xs) ≡ Some r
    at true is e ih =
        let same : x.number ≡ r.number = (let d : x ≡ r = cc in ap (λ (y : Render). y.number) d) in
        let here : has_number r.number x ≡ true = eq-eqb x.number r.number same in
        ap (λ (v : Bool). cond v (Some x) (find (has_number r.number) xs)) here ∙ e
    at false is e ih =
        let off : x.number ≢ r.number = all_found (λ (y : Render). x.number ≢ y.number) q xs r a.0 e in
        let here : has_number r.number x ≡ false = grind (arith, nat_tests) in
        ap (λ (v : Bool). cond v (Some x) (find (has_number r.number) xs)) here ∙ ih e

-- a render that runs for a metatile has no mark
unmarked_is : (m : MetaKey) (r : Render) → runs_for m r ≡ true → r ≡ unmarked r.number m r.moment
unmarked_is m r is =
    let p = both (same_meta r.meta m) (is_none r.mark) is in
    λ i. record { number = r.number; meta = same_meta_is r.meta m p.0 i; moment = r.moment; mark = none_is r.mark p.1 i }

runs_found : (m : MetaKey) (k : ℕ) (rs : List Render) → ApartBy (λ r. r.number) rs → running_for m rs ≡ Some k → (n : ℕ) × (find (has_number k) rs ≡ Some (unmarked k m n))
runs_found m k rs a e = at (find (runs_for m) rs) refl e
  where
    at : (o : Option Render) → find (runs_for m) rs ≡ o → option_map (λ r. r.number) o ≡ Some k → (n : ℕ) × (find (has_number k) rs ≡ Some (unmarked k m n))
    at None f e = absurd (cc)
    at (Some r) f e =
        let number : r.number ≡ k = cc in
        let there = number_of (runs_for m) rs r a f ∙ ap Some (unmarked_is m r (found (runs_for m) (λ (x : Render). Unit {0}) rs r (each_unit rs) f).0) in
        (r.moment, subst (λ (j : ℕ). find (has_number j) rs ≡ Some (unmarked j m r.moment)) number there)

pub runs_is : (c : Catalogue) (o : CabinetOpening) (h : History) (m : MetaKey) (k : ℕ) → Possible c o h → running_for m (standing c (first o) h).out ≡ Some k → (n : ℕ) × (render c (whole o h) k ≡ Some (unmarked k m n))
runs_is c o h m k may e = let r = runs_found m k (standing c (first o) h).out (differ_is c o h may).out e in (r.0, sym (render_is c o h k may) ∙ r.1)
