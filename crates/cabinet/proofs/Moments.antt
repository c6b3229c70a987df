-- Each kept and each running render was begun at the moment that the history tells of its number.
use Rattle.std.proofs.Common.{ℕ, ◌≡◌, ◌≢◌, ◌+◌, ◌<◌, ◌==◌, Bool, true, false, cond, not, List, [], ◌∷◌, ◌++◌, map, fold, Option, Some, None, refl, sym, ap, subst, ◌∙◌, arith}
use Rattle.std.specs.List.{AllByRecursion}
use Rattle.std.specs.Option.{option_or}
use Rattle.std.proofs.lemmas.Bool.Decides.{nat_tests}
use Rattle.catalog.specs.declared.catalogue.Catalogue.{Catalogue}
use Rattle.metatile_plan.specs.declared.metatile.MetaKey.{MetaKey}
use Rattle.truncation_list.specs.declared.book.Cut.{Cut}
use Rattle.metatile_locks.specs.declared.render.Render.{Render}
use Rattle.metatile_locks.specs.Running.{has_number, is_render_of, marked, unmarked}
use Rattle.metatile_locks.proofs.Lists.{all_filter, all_map, all_weaker}
use Rattle.metatile_locks.proofs.Runs.{marked_is}
use Rattle.cabinet.specs.declared.entry.HistoryEntry.{HistoryEntry}
use Rattle.cabinet.specs.declared.entry.HistoryEntry.TheVariants as entry
use Rattle.cabinet.specs.declared.kept.Kept.{Kept}
use Rattle.cabinet.specs.Fresh.{ApartBy, Beginning, Follows, HoldsOfKept, May, MayBeginWith, Possible, begun_after, moment}
use Rattle.cabinet.specs.Hits.{hits_of}
use Rattle.cabinet.specs.History.{CabinetOpening, CabinetStanding, History, after, but, first, first_entries, is_of, standing, stored_entry, whole}
use Rattle.cabinet.proofs.Lists.{all_both, all_found, all_push, fold_more}
use Rattle.cabinet.proofs.WithUses.{all_set}

abbrev unbegun : Beginning
unbegun = record { moment = 0; begun = None }

-- A BEGINNING THAT IS KNOWN STAYS SO

or_known : (o more : Option ℕ) (n : ℕ) → o ≡ Some n → option_or o more ≡ Some n
or_known None more n e = absurd (cc)
or_known (Some m) more n e = e

known_step : (k : ℕ) (was : Beginning) (e : HistoryEntry) (n : ℕ) → was.begun ≡ Some n → (begun_after k was e).begun ≡ Some n
known_step k was (entry.At b) n is = is
known_step k was (entry.Started j m) n is = or_known was.begun (cond (j == k) (Some was.moment) None) n is
known_step k was (entry.Cut t cover) n is = is
known_step k was (entry.Missed t) n is = is
known_step k was (entry.Stored j m place length b uses) n is = or_known was.begun (cond (j == k) (Some b) None) n is
known_step k was (entry.Counted m u) n is = is
known_step k was (entry.Ended j) n is = is
known_step k was (entry.Used m) n is = is
known_step k was (entry.Dropped m) n is = is

known_run : (k : ℕ) (was : Beginning) (h : History) (n : ℕ) → was.begun ≡ Some n → (fold (begun_after k) was h).begun ≡ Some n
known_run k was [] n is = is
known_run k was (e ∷ es) n is = known_run k (begun_after k was e) es n (known_step k was e n is)

-- the moment of a render is the same in a longer history
pub moment_longer : (h more : History) (k n : ℕ) → moment h k ≡ Some n → moment (h ++ more) k ≡ Some n
moment_longer h more k n is = ap (λ (b : Beginning). b.begun) (fold_more (begun_after k) unbegun h more) ∙ known_run k (fold (begun_after k) unbegun h) more n is

-- WHAT IS KNOWN OF BEGINNINGS

or_other : (o : Option ℕ) (j k n : ℕ) → o ≡ None → j ≢ k → option_or o (cond (j == k) (Some n) None) ≡ None
or_other None j k n e off = let is : (j == k) ≡ false = grind (arith, nat_tests) in rw is refl
or_other (Some m) j k n e off = absurd (cc)

or_itself : (o : Option ℕ) (k n : ℕ) → o ≡ None → option_or o (cond (k == k) (Some n) None) ≡ Some n
or_itself None k n e = let is : (k == k) ≡ true = grind (arith, nat_tests) in rw is refl
or_itself (Some m) k n e = absurd (cc)

-- a kept metatile, or a render that runs, was begun at the moment that it tells
abbrev KeptAt : (ℕ → Beginning) → Kept → Type 0
KeptAt beginnings t = (beginnings t.number).begun ≡ Some t.moment

abbrev RunsAt : (ℕ → Beginning) → Render → Type 0
RunsAt beginnings r = (beginnings r.number).begun ≡ Some r.moment

-- the beginnings of all numbers: what is kept and runs was begun at the moments that it tells, each beginning has the moment that
-- stands, and no number above the front has begun
record AreKnown (s : CabinetStanding) (beginnings : ℕ → Beginning) : Type 0 where
  pub kept : AllByRecursion (KeptAt beginnings) s.kept
  pub out : AllByRecursion (RunsAt beginnings) s.out
  pub moment : (k : ℕ) → (beginnings k).moment ≡ s.moment
  pub above : (k : ℕ) → s.front < k → (beginnings k).begun ≡ None

-- the beginnings after one more entry, and after a history
abbrev going_on : (ℕ → Beginning) → HistoryEntry → ℕ → Beginning
going_on beginnings e k = begun_after k (beginnings k) e

abbrev run : (ℕ → Beginning) → History → ℕ → Beginning
run beginnings h k = fold (begun_after k) (beginnings k) h

module _ (bs : ℕ → Beginning) (e : HistoryEntry) where
  kept_then : (ts : List Kept) → AllByRecursion (KeptAt bs) ts → AllByRecursion (KeptAt (going_on bs e)) ts
  kept_then ts a = all_weaker (KeptAt bs) (KeptAt (going_on bs e)) (λ t is. known_step t.number (bs t.number) e t.moment is) ts a

  out_then : (rs : List Render) → AllByRecursion (RunsAt bs) rs → AllByRecursion (RunsAt (going_on bs e)) rs
  out_then rs a = all_weaker (RunsAt bs) (RunsAt (going_on bs e)) (λ r is. known_step r.number (bs r.number) e r.moment is) rs a

marked_known : (bs : ℕ → Beginning) (is_hit : MetaKey → Bool) (t : ℕ) (r : Render) → RunsAt bs r → RunsAt bs (marked is_hit t r)
marked_known bs is_hit t r is = let m = marked_is is_hit t r in ap (λ (k : ℕ). (bs k).begun) m.number ∙ is ∙ ap Some (sym m.moment)

-- a number that is kept has begun, so that it is none of those above the front
above_stored : (bs : ℕ → Beginning) (front k n j b : ℕ) → (bs k).begun ≡ Some n → ((i : ℕ) → front < i → (bs i).begun ≡ None) → front < j → option_or (bs j).begun (cond (k == j) (Some b) None) ≡ None
above_stored bs front k n j b is above over =
    or_other (bs j).begun k j b (above j over) (λ same. let e : (bs k).begun ≡ None = subst (λ (i : ℕ). (bs i).begun ≡ None) (sym same) (above j over) in absurd (cc))

known_after : (c : Catalogue) (s : CabinetStanding) (bs : ℕ → Beginning) (e : HistoryEntry) → AreKnown s bs → May c s e → AreKnown (after c s e) (going_on bs e)
known_after c s bs (entry.At n) k may = record { kept = k.kept; out = k.out; moment = λ j. refl; above = k.above }
known_after c s bs (entry.Started i m) k may =
    let is : i ≡ s.front + 1 = may.0 in
    record {
      kept = kept_then bs (entry.Started i m) s.kept k.kept;
      out = all_push (RunsAt (going_on bs (entry.Started i m))) s.out (unmarked i m s.moment) (out_then bs (entry.Started i m) s.out k.out)
          (or_itself (bs i).begun i (bs i).moment (k.above i (omega arith)) ∙ ap Some (k.moment i));
      moment = k.moment;
      above = λ j over. or_other (bs j).begun i j (bs j).moment (k.above j (omega arith)) (λ same. absurd (omega arith));
    }
known_after c s bs (entry.Cut t cover) k may = record {
  kept = all_filter (KeptAt bs) (λ x. not (hits_of c cover x.meta)) s.kept k.kept;
  out = all_map (marked (hits_of c cover) t) (RunsAt bs) s.out
      (all_weaker (RunsAt bs) (λ r. RunsAt bs (marked (hits_of c cover) t r)) (marked_known bs (hits_of c cover) t) s.out k.out);
  moment = k.moment;
  above = λ j over. k.above j (omega arith);
}
known_after c s bs (entry.Missed t) k may = record { kept = k.kept; out = k.out; moment = k.moment; above = λ j over. k.above j (omega arith) }
known_after c s bs (entry.Stored i m place length n uses) k may =
    let was = all_found (RunsAt bs) (is_render_of (record { number = i; meta = m })) s.out (unmarked i m n) k.out may.0 in
    record {
      kept = all_push (KeptAt (going_on bs (entry.Stored i m place length n uses))) (but m s.kept) (record { number = i; meta = m; place = place; length = length; moment = n; uses = uses })
          (all_filter (KeptAt (going_on bs (entry.Stored i m place length n uses))) (λ x. not (is_of m x)) s.kept (kept_then bs (entry.Stored i m place length n uses) s.kept k.kept))
          (known_step i (bs i) (entry.Stored i m place length n uses) n was);
      out = all_filter (RunsAt (going_on bs (entry.Stored i m place length n uses))) (λ r. not (has_number i r)) s.out (out_then bs (entry.Stored i m place length n uses) s.out k.out);
      moment = k.moment;
      above = λ j over. above_stored bs s.front i n j n was k.above over;
    }
known_after c s bs (entry.Counted m u) k may = record { kept = all_set m u (KeptAt bs) (λ t h. h) s.kept k.kept; out = k.out; moment = k.moment; above = k.above }
known_after c s bs (entry.Ended i) k may = record {
  kept = k.kept;
  out = all_filter (RunsAt bs) (λ r. not (has_number i r)) s.out k.out;
  moment = k.moment;
  above = k.above;
}
known_after c s bs (entry.Used m) k may = k
known_after c s bs (entry.Dropped m) k may = record {
  kept = all_filter (KeptAt bs) (λ x. not (is_of m x)) s.kept k.kept;
  out = k.out;
  moment = k.moment;
  above = k.above;
}

known_on : (c : Catalogue) (s : CabinetStanding) (bs : ℕ → Beginning) (h : History) → AreKnown s bs → Follows c s h → AreKnown (standing c s h) (run bs h)
known_on c s bs [] k may = k
known_on c s bs (e ∷ es) k may = known_on c (after c s e) (going_on bs e) es (known_after c s bs e k may.0) may.1

-- AN OPENING

-- the cuts of an opening begin nothing
first_cuts : (k : ℕ) (was : Beginning) (ks : List Cut) (more : History) → fold (begun_after k) was (map (λ j. entry.Cut j.number j.cover) ks ++ more) ≡ fold (begun_after k) was more
first_cuts k was [] more = refl
first_cuts k was (j ∷ ks) more = first_cuts k was ks more

-- what it keeps is begun at no moment of the clock
stored_moment : (k : ℕ) (was : Beginning) (ts : List Kept) → (fold (begun_after k) was (map stored_entry ts)).moment ≡ was.moment
stored_moment k was [] = refl
stored_moment k was (t ∷ ts) = stored_moment k (begun_after k was (stored_entry t)) ts

-- a number under which none is kept has not begun
none_stored : (k : ℕ) (was : Beginning) (ts : List Kept) → was.begun ≡ None → AllByRecursion (λ t. t.number ≢ k) ts → (fold (begun_after k) was (map stored_entry ts)).begun ≡ None
none_stored k was [] is a = is
none_stored k was (t ∷ ts) is a = none_stored k (begun_after k was (stored_entry t)) ts (or_other was.begun t.number k t.moment is a.0) a.1

-- each number that is kept is begun at its moment
each_stored : (bs : ℕ → Beginning) (ts : List Kept) → AllByRecursion (λ t. (bs t.number).begun ≡ None) ts → ApartBy (λ t. t.number) ts → AllByRecursion (KeptAt (run bs (map stored_entry ts))) ts
each_stored bs [] none a = tt
each_stored bs (t ∷ ts) none a = (
  known_run t.number (begun_after t.number (bs t.number) (stored_entry t)) (map stored_entry ts) t.moment (or_itself (bs t.number).begun t.number t.moment none.0),
  each_stored (going_on bs (stored_entry t)) ts
      (all_weaker (λ (x : Kept). ((bs x.number).begun ≡ None) × (t.number ≢ x.number)) (λ x. (going_on bs (stored_entry t) x.number).begun ≡ None) (λ x h. or_other (bs x.number).begun t.number x.number t.moment h.0 h.1) ts
      (all_both (λ (x : Kept). (bs x.number).begun ≡ None) (λ x. t.number ≢ x.number) ts none.1 a.0))
      a.1,
)

-- no number has begun before the first entries
none_yet : (ts : List Kept) → AllByRecursion (λ (t : Kept). unbegun.begun ≡ None) ts
none_yet [] = tt
none_yet (t ∷ ts) = (refl, none_yet ts)

-- a number above a front is none of those that are kept
off_above : (c : Catalogue) (cuts : List Cut) (front floor k : ℕ) (ts : List Kept) → front < k → AllByRecursion (HoldsOfKept c cuts front floor) ts → AllByRecursion (λ t. t.number ≢ k) ts
off_above c cuts front floor k ts over a = all_weaker (HoldsOfKept c cuts front floor) (λ t. t.number ≢ k) (λ t h same. let g = h.given in absurd (omega arith)) ts a

-- how each number has begun
abbrev beginning : History → ℕ → Beginning
beginning h k = fold (begun_after k) unbegun h

known_first : (c : Catalogue) (o : CabinetOpening) → MayBeginWith c o → AreKnown (first o) (beginning (first_entries o))
known_first c o opens =
    let start : (k : ℕ) → beginning (map stored_entry o.kept) k ≡ beginning (first_entries o) k = λ k. sym (first_cuts k unbegun o.book.cuts (map stored_entry o.kept)) in
    record {
      kept = all_weaker (KeptAt (beginning (map stored_entry o.kept))) (KeptAt (beginning (first_entries o)))
          (λ t is. subst (λ (b : Beginning). b.begun ≡ Some t.moment) (start t.number) is) o.kept (each_stored (λ k. unbegun) o.kept (none_yet o.kept) opens.numbers);
      out = tt;
      moment = λ k. subst (λ (b : Beginning). b.moment ≡ 0) (start k) (stored_moment k unbegun o.kept);
      above = λ k over. subst (λ (b : Beginning). b.begun ≡ None) (start k) (none_stored k unbegun o.kept refl (off_above c o.book.cuts (first o).front o.book.floor k o.kept over opens.holds.kept));
    }

-- HISTORIES

whole_is : (o : CabinetOpening) (h : History) (k : ℕ) → run (beginning (first_entries o)) h k ≡ beginning (whole o h) k
whole_is o h k = sym (fold_more (begun_after k) unbegun (first_entries o) h)

module _ (c : Catalogue) (o : CabinetOpening) (h : History) (may : Possible c o h) where
  known : AreKnown (standing c (first o) h) (run (beginning (first_entries o)) h)
  known = known_on c (first o) (beginning (first_entries o)) h (known_first c o may.opens) may.follows

  pub moments_are : AllByRecursion (λ t. moment (whole o h) t.number ≡ Some t.moment) (standing c (first o) h).kept
  moments_are = all_weaker (KeptAt (run (beginning (first_entries o)) h)) (KeptAt (beginning (whole o h)))
      (λ t is. subst (λ (b : Beginning). b.begun ≡ Some t.moment) (whole_is o h t.number) is) (standing c (first o) h).kept known.kept

  -- a render that is given the next number is begun at the moment that stands
  pub moment_given : (k : ℕ) (m : MetaKey) → k ≡ (standing c (first o) h).front + 1 → moment (whole o h ++ entry.Started k m ∷ []) k ≡ Some (standing c (first o) h).moment
  moment_given k m is =
      let none : (beginning (whole o h) k).begun ≡ None = subst (λ (b : Beginning). b.begun ≡ None) (whole_is o h k) (known.above k (omega arith)) in
      let moment_is : (beginning (whole o h) k).moment ≡ (standing c (first o) h).moment = subst (λ (b : Beginning). b.moment ≡ (standing c (first o) h).moment) (whole_is o h k) (known.moment k) in
      let more : moment (whole o h ++ entry.Started k m ∷ []) k ≡ (begun_after k (beginning (whole o h) k) (entry.Started k m)).begun = ap (λ (b : Beginning). b.begun) (fold_more (begun_after k) unbegun (whole o h) (entry.Started k m ∷ [])) in
      more ∙ or_itself (beginning (whole o h) k).begun k (beginning (whole o h) k).moment none ∙ ap Some moment_is
