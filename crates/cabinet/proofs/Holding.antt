-- Each possible history keeps its numbers, its floor and its book: what is kept is newer than each cut that hits it.
use Rattle.std.proofs.Common.{ℕ, ◌≡◌, ◌+◌, ◌<◌, ◌≤◌, max, Bool, true, false, cond, not, List, [], ◌∷◌, ◌++◌, map, fold, Option, Some, None, IsTrue, refl, sym, ap, subst, ◌∙◌, arith, append_assoc, append-nil}
use Rattle.std.specs.Prelude.{nat_lt}
use Rattle.std.specs.List.{AllByRecursion, Contains}
use Rattle.std.proofs.lemmas.Bool.Decides.{nat_tests}
use Rattle.std.proofs.lemmas.List.Elements.{All-from_recursion, recursion_from_All, Contains-append_left, Contains-push}
use Rattle.catalog.specs.declared.catalogue.Catalogue.{Catalogue}
use Rattle.catalog.specs.LookUp.{IsTile}
use Rattle.catalog.specs.Valid.{IsValid}
use Rattle.matrix_geometry.specs.declared.address.Address.{Address}
use Rattle.metatile_plan.specs.declared.metatile.MetaKey.{MetaKey}
use Rattle.metatile_plan.proofs.Same.{same_meta_is}
use Rattle.raster_field.specs.Blocks.{block_of}
use Rattle.truncation_list.specs.declared.book.Book.{Book}
use Rattle.truncation_list.specs.declared.book.Cut.{Cut}
use Rattle.truncation_list.specs.declared.cover.Cover.{Cover}
use Rattle.truncation_list.specs.Books.{AnswersFor}
use Rattle.truncation_list.specs.Covers.{IsWithinReach}
use Rattle.truncation_list.specs.Purge.{added, remaining, purged, IsAbove, raised}
use Rattle.truncation_list.proofs.Answering.{answers_for_cut}
use Rattle.truncation_list.proofs.Remaining.{all_remaining, in_order_added, floor_below_least, floor_below_above, added_answers, lists_new}
use Rattle.metatile_locks.specs.declared.render.Render.{Render}
use Rattle.metatile_locks.specs.Running.{marked, unmarked, without, has_number, render_of, is_render_of}
use Rattle.metatile_locks.proofs.Lists.{all_joined, all_weaker, all_map, all_passed, all_filter, found}
use Rattle.std.proofs.lemmas.Grind.{fold-append}
use Rattle.cabinet.specs.declared.entry.HistoryEntry.{HistoryEntry}
use Rattle.cabinet.specs.declared.entry.HistoryEntry.TheVariants as entry
use Rattle.cabinet.specs.declared.kept.Kept.{Kept}
use Rattle.cabinet.specs.Hits.{hits_of}
use Rattle.cabinet.specs.History.{CabinetOpening, CabinetStanding, History, after, bare_opening, but, first, is_of, kept_of, least_of, lesser, numbers, standing, stored_entry, whole}
use Rattle.cabinet.specs.Fresh.{Follows, May, Possible, cuts_after, cuts_of, IsNewer, HoldsOfKept, HoldsOfRender, HoldsAfterCuts, IsNoOlder, MayBeginWith}
use Rattle.cabinet.proofs.Hits.{covered_hit}
use Rattle.cabinet.proofs.Lists.{all_push, all_left, all_right, all_found, all_contained, all_both, all_of_map}
use Rattle.cabinet.proofs.WithUses.{all_set}

pub holds_bare : (c : Catalogue) (e : ℕ) → HoldsAfterCuts c [] (first (bare_opening e))
holds_bare c e = record {
  given = tt;
  floor_given = omega arith;
  listed = tt;
  order = record { by_number = tt; within_reach = λ k d l. absurd (omega arith) };
  answers = tt;
  kept = tt;
  out = tt;
}

-- A HIGHER FRONT

kept_higher : (c : Catalogue) (cuts : List Cut) (front more floor : ℕ) → front ≤ more → (t : Kept) → HoldsOfKept c cuts front floor t → HoldsOfKept c cuts more floor t
kept_higher c cuts front more floor le t h = record { given = let g = h.given in omega arith; above_floor = h.above_floor; newer = h.newer }

out_higher : (c : Catalogue) (cuts : List Cut) (front more floor : ℕ) → front ≤ more → (r : Render) → HoldsOfRender c cuts front floor r → HoldsOfRender c cuts more floor r
out_higher c cuts front more floor le r h = record { given = let g = h.given in omega arith; above_floor = h.above_floor; newer = h.newer }

given_higher : (front more : ℕ) → front ≤ more → (k : Cut) → k.number ≤ front → k.number ≤ more
given_higher front more le k h = omega arith

-- what is said of a standing doesn't speak of its moment
higher : (c : Catalogue) (cuts : List Cut) (s : CabinetStanding) (more n : ℕ) → s.front ≤ more → HoldsAfterCuts c cuts s → HoldsAfterCuts c cuts (record { front = more; moment = n; kept = s.kept; out = s.out; book = s.book })
higher c cuts s more n le h = record {
  given = all_weaker (λ (k : Cut). k.number ≤ s.front) (λ k. k.number ≤ more) (given_higher s.front more le) cuts h.given;
  floor_given = let g = h.floor_given in omega arith;
  listed = h.listed;
  order = h.order;
  answers = h.answers;
  kept = all_weaker (HoldsOfKept c cuts s.front s.book.floor) (HoldsOfKept c cuts more s.book.floor) (kept_higher c cuts s.front more s.book.floor le) s.kept h.kept;
  out = all_weaker (HoldsOfRender c cuts s.front s.book.floor) (HoldsOfRender c cuts more s.book.floor) (out_higher c cuts s.front more s.book.floor le) s.out h.out;
}

-- STARTED

newest : (c : Catalogue) (m : MetaKey) (n : ℕ) (cuts : List Cut) → AllByRecursion (λ k. k.number < n) cuts → IsNewer c cuts n m
newest c m n cuts a = all_weaker (λ (k : Cut). k.number < n) (λ k. IsTrue (hits_of c k.cover m) → k.number < n) (λ k l _. l) cuts a

started : (c : Catalogue) (cuts : List Cut) (s : CabinetStanding) (k : ℕ) (m : MetaKey) → HoldsAfterCuts c cuts s → k ≡ s.front + 1 → HoldsAfterCuts c cuts (after c s (entry.Started k m))
started c cuts s k m h is =
    let le : s.front ≤ max s.front k = omega arith in
    let u = higher c cuts s (max s.front k) s.moment le h in
    let f = h.floor_given in
    record {
      given = u.given;
      floor_given = u.floor_given;
      listed = h.listed;
      order = h.order;
      answers = h.answers;
      kept = u.kept;
      out = all_push (HoldsOfRender c cuts (max s.front k) s.book.floor) s.out (unmarked k m s.moment) u.out (record {
        given = omega arith;
        above_floor = omega arith;
        newer = λ _. newest c m k cuts (all_weaker (λ (x : Cut). x.number ≤ s.front) (λ x. x.number < k) (λ x l. omega arith) cuts h.given);
      });
    }

-- THE LEAST NUMBER

-- the least of numbers has what each of them has
lesser_has : (P : ℕ → Type 0) (n : ℕ) (o : Option ℕ) → P n → ((m : ℕ) → o ≡ Some m → P m) → (m : ℕ) → lesser o n ≡ Some m → P m
lesser_has P n None h f m e = let d : n ≡ m = cc in subst P d h
lesser_has P n (Some x) h f m e = chosen (nat_lt n x) e
  where
    chosen : (b : Bool) → cond b (Some n) (Some x) ≡ Some m → P m
    chosen true e = let d : n ≡ m = cc in subst P d h
    chosen false e = f m e

pub least_has : (P : ℕ → Type 0) (ns : List ℕ) (o : Option ℕ) → AllByRecursion P ns → ((m : ℕ) → o ≡ Some m → P m) → (m : ℕ) → fold lesser o ns ≡ Some m → P m
least_has P [] o a f m e = f m e
least_has P (n ∷ ns) o a f m e = least_has P ns (lesser o n) a.1 (lesser_has P n o a.0 f) m e

-- and no greater than any of them
lesser_most : (n : ℕ) (o : Option ℕ) → (m : ℕ) × (lesser o n ≡ Some m) × (m ≤ n) × ((x : ℕ) → o ≡ Some x → m ≤ x)
lesser_most n None = (n, refl, omega arith, λ x e. absurd (cc))
lesser_most n (Some x) = chosen (nat_lt n x) refl
  where
    chosen : (b : Bool) → nat_lt n x ≡ b → (m : ℕ) × (cond b (Some n) (Some x) ≡ Some m) × (m ≤ n) × ((y : ℕ) → Some x ≡ Some y → m ≤ y)
    chosen true is = (n, refl, omega arith, λ y e. let d : x ≡ y = cc in let l : n < x = grind (arith, nat_tests) in omega arith)
    chosen false is = (x, refl, (let l : x ≤ n = grind (arith, nat_tests) in l), λ y e. let d : x ≡ y = cc in omega arith)

pub least_most : (ns : List ℕ) (o : Option ℕ) (was : ℕ) → o ≡ Some was → (m : ℕ) × (fold lesser o ns ≡ Some m) × (m ≤ was) × AllByRecursion (λ n. m ≤ n) ns
least_most [] o was e = (was, e, omega arith, tt)
least_most (n ∷ ns) o was e =
    let one = lesser_most n o in
    let rest = least_most ns (lesser o n) one.0 one.1 in
    let below = one.3 was e in
    (rest.0, rest.1, (let a = rest.2 in omega arith), ((let a = rest.2 in let b = one.2 in omega arith), rest.3))

-- the floor stays below all the numbers
pub floor_below : (cover : Cover) (ns : List ℕ) (book : Book) → AllByRecursion (λ n. book.floor < n) ns → AllByRecursion (λ n. (purged (Some cover) (least_of ns) book).floor < n) ns
floor_below cover [] book a = tt
floor_below cover (n ∷ ns) book a =
    let l = least_most ns (Some n) n refl in
    let under : book.floor < l.0 = least_has (λ x. book.floor < x) ns (Some n) a.1 (λ x e. let d : n ≡ x = cc in let g = a.0 in omega arith) l.0 l.1 in
    let low : fold (raised (Some l.0)) book.floor book.cuts < l.0 = floor_below_least l.0 book.cuts book.floor under in
    subst (λ (o : Option ℕ). AllByRecursion (λ x. fold (raised o) book.floor book.cuts < x) (n ∷ ns)) (sym l.1) (
      (let b = l.2 in omega arith),
      all_weaker (λ (x : ℕ). l.0 ≤ x) (λ x. fold (raised (Some l.0)) book.floor book.cuts < x) (λ x b. omega arith) ns l.3,
    )

-- CUT

kept_spared : (c : Catalogue) (cuts : List Cut) (front more floor floor' t : ℕ) (cover : Cover) → front ≤ more → (x : Kept) → not (hits_of c cover x.meta) ≡ true → HoldsOfKept c cuts front floor x × (floor' < x.number)
    → HoldsOfKept c (cuts ++ record { number = t; cover = cover } ∷ []) more floor' x
kept_spared c cuts front more floor floor' t cover le x miss h = record {
  given = let g = h.0.given in omega arith;
  above_floor = h.1;
  newer = all_push (λ (k : Cut). IsTrue (hits_of c k.cover x.meta) → k.number < x.number) cuts (record { number = t; cover = cover }) h.0.newer (λ hit. absurd (let e : not (hits_of c cover x.meta) ≡ not true = ap not hit in cc));
}

out_marked_at : (c : Catalogue) (cuts : List Cut) (front more floor floor' t : ℕ) (cover : Cover) → front ≤ more → (r : Render) (v : Bool) → hits_of c cover r.meta ≡ v → HoldsOfRender c cuts front floor r × (floor' < r.number)
    → HoldsOfRender c (cuts ++ record { number = t; cover = cover } ∷ []) more floor' (cond v (record { number = r.number; meta = r.meta; moment = r.moment; mark = Some t }) r)
out_marked_at c cuts front more floor floor' t cover le r true e h = record { given = let g = h.0.given in omega arith; above_floor = h.1; newer = λ none. absurd (cc) }
out_marked_at c cuts front more floor floor' t cover le r false e h = record {
  given = let g = h.0.given in omega arith;
  above_floor = h.1;
  newer = λ none. all_push (λ (k : Cut). IsTrue (hits_of c k.cover r.meta) → k.number < r.number) cuts (record { number = t; cover = cover }) (h.0.newer none) (λ hit. absurd (let f : true ≡ false = sym hit ∙ e in cc));
}

pub above_listed : (c : Catalogue) (cuts : List Cut) (s : CabinetStanding) (t : ℕ) → HoldsAfterCuts c cuts s → s.front < t → IsAbove t s.book.cuts
above_listed c cuts s t h l =
    All-from_recursion (λ (k : Cut). k.number < t) s.book.cuts
    (all_weaker (Contains cuts) (λ k. k.number < t) (λ k a. let g = all_contained (λ (j : Cut). j.number ≤ s.front) cuts k h.given a in omega arith) s.book.cuts h.listed)

-- the listed cuts after a cut are the new one and some of the earlier ones
listed_cut : (cuts : List Cut) (k : Cut) (least : Option ℕ) (book : Book) → AllByRecursion (Contains cuts) book.cuts → AllByRecursion (Contains (cuts ++ k ∷ [])) (added k.number k.cover least book).cuts
listed_cut cuts k least book a =
    let longer = all_weaker (Contains cuts) (Contains (cuts ++ k ∷ [])) (λ x h. Contains-append_left cuts (k ∷ []) x h) book.cuts a in
    let stay = recursion_from_All (Contains (cuts ++ k ∷ [])) (remaining (Some k.cover) least book.cuts)
    (all_remaining (Contains (cuts ++ k ∷ [])) (Some k.cover) least book.cuts (All-from_recursion (Contains (cuts ++ k ∷ [])) book.cuts longer)) in
    all_push (Contains (cuts ++ k ∷ [])) (remaining (Some k.cover) least book.cuts) k stay (Contains-push cuts k)

under_both : (floor : ℕ) (out : List Render) (kept : List Kept) → AllByRecursion (λ r. floor < r.number) out → AllByRecursion (λ t. floor < t.number) kept → AllByRecursion (λ n. floor < n) (numbers out kept)
under_both floor out kept a b =
    all_joined (λ n. floor < n) (map (λ r. r.number) out) (map (λ t. t.number) kept) (all_map (λ (r : Render). r.number) (λ n. floor < n) out a) (all_map (λ (t : Kept). t.number) (λ n. floor < n) kept b)

cut : (c : Catalogue) (cuts : List Cut) (s : CabinetStanding) (t : ℕ) (cover : Cover) → HoldsAfterCuts c cuts s → t ≡ s.front + 1 → IsWithinReach cover → HoldsAfterCuts c (cuts ++ record { number = t; cover = cover } ∷ []) (after c s (entry.Cut t cover))
cut c cuts s t cover h is reach =
    let le : s.front ≤ max s.front t = omega arith in
    let least = least_of (numbers s.out s.kept) in
    let book = added t cover (least_of (numbers s.out s.kept)) s.book in
    let above : IsAbove t s.book.cuts = above_listed c cuts s t h (omega arith) in
    let floor_front : book.floor < t = floor_below_above (least_of (numbers s.out s.kept)) t s.book.cuts s.book.floor above (let f = h.floor_given in omega arith) in
    let answers = added_answers t cover (least_of (numbers s.out s.kept)) s.book h.order.by_number above in
    let under = floor_below cover (numbers s.out s.kept) s.book
    (under_both s.book.floor s.out s.kept
    (all_weaker (HoldsOfRender c cuts s.front s.book.floor) (λ r. s.book.floor < r.number) (λ r x. x.above_floor) s.out h.out)
    (all_weaker (HoldsOfKept c cuts s.front s.book.floor) (λ r. s.book.floor < r.number) (λ r x. x.above_floor) s.kept h.kept)) in
    let under_out = all_of_map (λ (r : Render). r.number) (λ n. book.floor < n) s.out (all_left (λ n. book.floor < n) (map (λ r. r.number) s.out) (map (λ t. t.number) s.kept) under) in
    let under_kept = all_of_map (λ (r : Kept). r.number) (λ n. book.floor < n) s.kept (all_right (λ n. book.floor < n) (map (λ r. r.number) s.out) (map (λ t. t.number) s.kept) under) in
    record {
      given = all_push (λ (k : Cut). k.number ≤ max s.front t) cuts (record { number = t; cover = cover }) (all_weaker (λ (k : Cut). k.number ≤ s.front) (λ k. k.number ≤ max s.front t) (given_higher s.front (max s.front t) le) cuts h.given) (omega arith);
      floor_given = omega arith;
      listed = listed_cut cuts (record { number = t; cover = cover }) least s.book h.listed;
      order = in_order_added t cover (least_of (numbers s.out s.kept)) s.book h.order above reach;
      answers = all_push (AnswersFor book) cuts (record { number = t; cover = cover })
          (all_weaker (AnswersFor s.book) (AnswersFor book) (λ k a. answers_for_cut book s.book k answers a) cuts h.answers)
          (lists_new t cover (purged (Some cover) (least_of (numbers s.out s.kept)) s.book));
      kept = all_passed (λ x. HoldsOfKept c cuts s.front s.book.floor x × (book.floor < x.number)) (HoldsOfKept c (cuts ++ record { number = t; cover = cover } ∷ []) (max s.front t) book.floor) (λ x. not (hits_of c cover x.meta))
          (kept_spared c cuts s.front (max s.front t) s.book.floor book.floor t cover le) s.kept (all_both (HoldsOfKept c cuts s.front s.book.floor) (λ x. book.floor < x.number) s.kept h.kept under_kept);
      out = all_map (marked (hits_of c cover) t) (HoldsOfRender c (cuts ++ record { number = t; cover = cover } ∷ []) (max s.front t) book.floor) s.out
          (all_weaker (λ r. HoldsOfRender c cuts s.front s.book.floor r × (book.floor < r.number)) (λ r. HoldsOfRender c (cuts ++ record { number = t; cover = cover } ∷ []) (max s.front t) book.floor (marked (hits_of c cover) t r))
          (λ r x. out_marked_at c cuts s.front (max s.front t) s.book.floor book.floor t cover le r (hits_of c cover r.meta) refl x) s.out
          (all_both (HoldsOfRender c cuts s.front s.book.floor) (λ r. book.floor < r.number) s.out h.out under_out));
    }

-- STORED, COUNTED, ENDED, DROPPED

out_without : (c : Catalogue) (cuts : List Cut) (front floor k : ℕ) (out : List Render) → AllByRecursion (HoldsOfRender c cuts front floor) out → AllByRecursion (HoldsOfRender c cuts front floor) (without k out)
out_without c cuts front floor k out a = all_filter (HoldsOfRender c cuts front floor) (λ r. not (has_number k r)) out a

kept_but : (c : Catalogue) (cuts : List Cut) (front floor : ℕ) (m : MetaKey) (kept : List Kept) → AllByRecursion (HoldsOfKept c cuts front floor) kept → AllByRecursion (HoldsOfKept c cuts front floor) (but m kept)
kept_but c cuts front floor m kept a = all_filter (HoldsOfKept c cuts front floor) (λ t. not (is_of m t)) kept a

stored : (c : Catalogue) (cuts : List Cut) (s : CabinetStanding) (k : ℕ) (m : MetaKey) (place length n uses : ℕ) → HoldsAfterCuts c cuts s → render_of (record { number = k; meta = m }) s.out ≡ Some (unmarked k m n)
    → HoldsAfterCuts c cuts (after c s (entry.Stored k m place length n uses))
stored c cuts s k m place length n uses h was =
    let r = all_found (HoldsOfRender c cuts s.front s.book.floor) (is_render_of (record { number = k; meta = m })) s.out (unmarked k m n) h.out was in
    record {
      given = h.given;
      floor_given = h.floor_given;
      listed = h.listed;
      order = h.order;
      answers = h.answers;
      kept = all_push (HoldsOfKept c cuts s.front s.book.floor) (but m s.kept) (record { number = k; meta = m; place = place; length = length; moment = n; uses = uses }) (kept_but c cuts s.front s.book.floor m s.kept h.kept)
          (record { given = r.given; above_floor = r.above_floor; newer = r.newer refl });
      out = out_without c cuts s.front s.book.floor k s.out h.out;
    }

counted : (c : Catalogue) (cuts : List Cut) (s : CabinetStanding) (m : MetaKey) (u : ℕ) → HoldsAfterCuts c cuts s → HoldsAfterCuts c cuts (after c s (entry.Counted m u))
counted c cuts s m u h = record {
  given = h.given;
  floor_given = h.floor_given;
  listed = h.listed;
  order = h.order;
  answers = h.answers;
  kept = all_set m u (HoldsOfKept c cuts s.front s.book.floor) (λ t k. record { given = k.given; above_floor = k.above_floor; newer = k.newer }) s.kept h.kept;
  out = h.out;
}

ended : (c : Catalogue) (cuts : List Cut) (s : CabinetStanding) (k : ℕ) → HoldsAfterCuts c cuts s → HoldsAfterCuts c cuts (after c s (entry.Ended k))
ended c cuts s k h = record { given = h.given; floor_given = h.floor_given; listed = h.listed; order = h.order; answers = h.answers; kept = h.kept; out = out_without c cuts s.front s.book.floor k s.out h.out }

dropped : (c : Catalogue) (cuts : List Cut) (s : CabinetStanding) (m : MetaKey) → HoldsAfterCuts c cuts s → HoldsAfterCuts c cuts (after c s (entry.Dropped m))
dropped c cuts s m h = record { given = h.given; floor_given = h.floor_given; listed = h.listed; order = h.order; answers = h.answers; kept = kept_but c cuts s.front s.book.floor m s.kept h.kept; out = h.out }

-- AN OPENING WITH NOTHING IN IT

pub bare_opens : (c : Catalogue) (e : ℕ) → MayBeginWith c (bare_opening e)
bare_opens c e = record { holds = holds_bare c e; numbers = tt; once = tt; metas = tt; regions = record { some = tt; within = tt; disjoint = tt }; lengths = tt; covers = tt; few = omega arith; few_cuts = omega arith }

-- HISTORIES

pub holds_step : (c : Catalogue) (cuts : List Cut) (s : CabinetStanding) (e : HistoryEntry) → HoldsAfterCuts c cuts s → May c s e → HoldsAfterCuts c (cuts_after cuts e) (after c s e)
holds_step c cuts s (entry.At n) h may = higher c cuts s s.front n (omega arith) h
holds_step c cuts s (entry.Started k m) h may = started c cuts s k m h may.0
holds_step c cuts s (entry.Cut t cover) h may = cut c cuts s t cover h may.0 may.1.reach
holds_step c cuts s (entry.Missed t) h may = higher c cuts s (max s.front t) s.moment (omega arith) h
holds_step c cuts s (entry.Stored k m place length n uses) h may = stored c cuts s k m place length n uses h may.0
holds_step c cuts s (entry.Counted m u) h may = counted c cuts s m u h
holds_step c cuts s (entry.Ended k) h may = ended c cuts s k h
holds_step c cuts s (entry.Used m) h may = h
holds_step c cuts s (entry.Dropped m) h may = dropped c cuts s m h

pub holds_run : (c : Catalogue) (cuts : List Cut) (s : CabinetStanding) (h : History) → HoldsAfterCuts c cuts s → Follows c s h → HoldsAfterCuts c (fold cuts_after cuts h) (standing c s h)
holds_run c cuts s [] hold may = hold
holds_run c cuts s (e ∷ es) hold may = holds_run c (cuts_after cuts e) (after c s e) es (holds_step c cuts s e hold may.0) may.1

-- the cuts of the first entries are those of the opening's book
cuts_run : (before ks : List Cut) (more : History) → fold cuts_after before (map (λ k. entry.Cut k.number k.cover) ks ++ more) ≡ fold cuts_after (before ++ ks) more
cuts_run before [] more = ap (λ (ks : List Cut). fold cuts_after ks more) (sym (append-nil before))
cuts_run before (k ∷ ks) more = cuts_run (before ++ k ∷ []) ks more ∙ ap (λ (js : List Cut). fold cuts_after js more) (append_assoc before (k ∷ []) ks)

no_cuts : (before : List Cut) (ts : List Kept) → fold cuts_after before (map stored_entry ts) ≡ before
no_cuts before [] = refl
no_cuts before (t ∷ ts) = no_cuts before ts

cuts_whole : (o : CabinetOpening) (later : History) → cuts_of (whole o later) ≡ fold cuts_after o.book.cuts later
cuts_whole o later = rw fold-append (ap (λ (ks : List Cut). fold cuts_after ks later) (cuts_run [] o.book.cuts (map stored_entry o.kept) ∙ no_cuts o.book.cuts o.kept))

pub holds_of : (c : Catalogue) (o : CabinetOpening) (later : History) → Possible c o later → HoldsAfterCuts c (cuts_of (whole o later)) (standing c (first o) later)
holds_of c o later may =
    subst (λ (ks : List Cut). HoldsAfterCuts c ks (standing c (first o) later)) (sym (cuts_whole o later)) (holds_run c o.book.cuts (first o) later may.opens.holds may.follows)

-- WHAT IS FRESH

-- what is kept of a metatile has what each kept one has, and is of that metatile
pub kept_has : (P : Kept → Type 0) (m : MetaKey) (s : CabinetStanding) (t : Kept) → AllByRecursion P s.kept → kept_of m s ≡ Some t → P t × (t.meta ≡ m)
kept_has P m s t a e = let f = found (is_of m) P s.kept t a e in (f.1, same_meta_is t.meta m f.0)

-- an entry that is a cut has it
abbrev pub IfCut : (Cut → Type 0) → HistoryEntry → Type 0
IfCut P (entry.At n) = Unit {0}
IfCut P (entry.Started j n) = Unit {0}
IfCut P (entry.Cut t cover) = P (record { number = t; cover = cover })
IfCut P (entry.Missed t) = Unit {0}
IfCut P (entry.Stored j n place length b uses) = Unit {0}
IfCut P (entry.Counted n u) = Unit {0}
IfCut P (entry.Ended j) = Unit {0}
IfCut P (entry.Used n) = Unit {0}
IfCut P (entry.Dropped n) = Unit {0}

cuts_before : (P : Cut → Type 0) (cuts : List Cut) (e : HistoryEntry) → AllByRecursion P (cuts_after cuts e) → AllByRecursion P cuts × IfCut P e
cuts_before P cuts (entry.At n) a = (a, tt)
cuts_before P cuts (entry.Started j n) a = (a, tt)
cuts_before P cuts (entry.Cut t cover) a = (all_left P cuts (record { number = t; cover = cover } ∷ []) a, (all_right P cuts (record { number = t; cover = cover } ∷ []) a).0)
cuts_before P cuts (entry.Missed t) a = (a, tt)
cuts_before P cuts (entry.Stored j n place length b uses) a = (a, tt)
cuts_before P cuts (entry.Counted n u) a = (a, tt)
cuts_before P cuts (entry.Ended j) a = (a, tt)
cuts_before P cuts (entry.Used n) a = (a, tt)
cuts_before P cuts (entry.Dropped n) a = (a, tt)

pub cuts_both : (P : Cut → Type 0) (cuts : List Cut) (h : History) → AllByRecursion P (fold cuts_after cuts h) → AllByRecursion P cuts × AllByRecursion (IfCut P) h
cuts_both P cuts [] a = (a, tt)
cuts_both P cuts (e ∷ es) a = let r = cuts_both P (cuts_after cuts e) es a in let x = cuts_before P cuts e r.0 in (x.0, (x.1, r.1))

no_older : (c : Catalogue) (k : ℕ) (a : Address) → IsValid c → IsTile c a → (e : HistoryEntry) → IfCut (λ x. IsTrue (hits_of c x.cover (block_of c a)) → x.number < k) e → IsNoOlder c k a e
no_older c k a valid tile (entry.At n) h = tt
no_older c k a valid tile (entry.Started j m) h = tt
no_older c k a valid tile (entry.Cut i cover) h = λ covered. h (covered_hit c cover a valid tile covered)
no_older c k a valid tile (entry.Missed i) h = tt
no_older c k a valid tile (entry.Stored j m place length b uses) h = tt
no_older c k a valid tile (entry.Counted m u) h = tt
no_older c k a valid tile (entry.Ended j) h = tt
no_older c k a valid tile (entry.Used m) h = tt
no_older c k a valid tile (entry.Dropped m) h = tt

-- a number that is above each cut that hits the tile's metatile is newer than each cut that covers the tile
pub all_no_older : (c : Catalogue) (h : History) (a : Address) (k : ℕ) → IsValid c → IsTile c a → IsNewer c (cuts_of h) k (block_of c a) → AllByRecursion (IsNoOlder c k a) h
all_no_older c h a k valid tile newer =
    let P : Cut → Type 0 = λ x. IsTrue (hits_of c x.cover (block_of c a)) → x.number < k in
    all_weaker (IfCut P) (IsNoOlder c k a) (no_older c k a valid tile) h (cuts_both P [] h newer).1
