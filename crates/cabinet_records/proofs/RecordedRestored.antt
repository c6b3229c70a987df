-- What the records of a cabinet come to at the next opening: no more cuts than it lists, and a book that answers for its own.
use Rattle.std.proofs.Common.{ℕ, ◌≡◌, ◌<◌, ◌≤◌, ◌⊎◌, ◌||◌, Bool, true, false, not, List, [], ◌∷◌, map, length, Option, Some, None, IsTrue, refl, sym, ap, subst, inl, inr, arith}
use Rattle.std.specs.Prelude.{nat_lt}
use Rattle.std.specs.List.{AllByRecursion, Contains}
use Rattle.std.specs.List.Sorted.{IsPermutation}
use Rattle.std.proofs.lemmas.Bool.Decides.{nat_tests}
use Rattle.std.proofs.lemmas.List.Elements.{All-contains, All-from_recursion, Contains-append_cases, recursion_from_All}
use Rattle.std.proofs.lemmas.List.Sorted.{IsPermutation-sym}
use Rattle.catalog.specs.declared.catalogue.Catalogue.{Catalogue}
use Rattle.metatile_locks.proofs.Lists.{all_map, all_passed, all_weaker}
use Rattle.record_text.specs.declared.entries.Record.{Record}
use Rattle.truncation_list.specs.declared.book.Cut.{Cut}
use Rattle.truncation_list.specs.Books.{AnswersFor, AnswersForBook}
use Rattle.truncation_list.specs.Purge.{IsByNumber, is_old, is_outdone_among, is_within, remaining}
use Rattle.truncation_list.proofs.Remaining.{by_number_remaining, floor_rises}
use Rattle.truncation_list.proofs.Rule.{remaining_is_by_rule}
use Rattle.cabinet.specs.declared.kept.Kept.{Kept}
use Rattle.cabinet.specs.Fresh.{HoldsOfKept, cuts_of}
use Rattle.cabinet.specs.History.{CabinetOpening, CabinetStanding, least_of}
use Rattle.cabinet_records.specs.Recorded.{IsAccounted, IsRecordedIn}
use Rattle.cabinet_records.specs.Replay.{Replayed, Replays, book_after, unplayed}
use Rattle.cabinet.specs.State.{IsKnown, State, now}
use Rattle.cabinet.proofs.Holding.{least_has, least_most}
use Rattle.cabinet.proofs.Lists.{all_both, all_contained}
use Rattle.cabinet_records.proofs.RecordedCuts.{old_below}
use Rattle.cabinet_records.proofs.RecordedOrders.{permuted_all}
use Rattle.cabinet_records.proofs.RecordedStanding.{IsRecorded, Stands, recorded_of, stands_in}
use Rattle.cabinet_records.proofs.Reopening.{answers_after}
use Rattle.cabinet_records.proofs.Replaying.{sound_is}

-- A LIST WITHIN A LIST, both by number

only_cut : (x k : Cut) → Contains (x ∷ []) k → x ≡ k
only_cut x k h = all_contained (λ (y : Cut). x ≡ y) (x ∷ []) k (refl, tt) h

first_or_behind : (x : Cut) (xs : List Cut) (k : Cut) → Contains (x ∷ xs) k → (x ≡ k) ⊎ Contains xs k
first_or_behind x xs k h = elim (Contains-append_cases (x ∷ []) xs k h) [ inl a ↦ inl (only_cut x k a) | inr b ↦ inr b ]

-- one of a greater number than the first stands behind it
stands_behind : (x : Cut) (xs : List Cut) (k : Cut) → x.number < k.number → Contains (x ∷ xs) k → Contains xs k
stands_behind x xs k up h = elim (first_or_behind x xs k h) [ inl same ↦ absurd (let e : x.number ≡ k.number = ap (λ (y : Cut). y.number) same in omega arith) | inr there ↦ there ]

all_behind : (x : Cut) (xs ks : List Cut) → AllByRecursion (λ k. x.number < k.number) ks → AllByRecursion (Contains (x ∷ xs)) ks → AllByRecursion (Contains xs) ks
all_behind x xs ks up a =
    all_weaker (λ (k : Cut). (x.number < k.number) × Contains (x ∷ xs) k) (Contains xs) (λ k h. stands_behind x xs k h.0 h.1) ks
    (all_both (λ (k : Cut). x.number < k.number) (Contains (x ∷ xs)) ks up a)

no_longer : (ks xs : List Cut) → IsByNumber ks → IsByNumber xs → AllByRecursion (Contains xs) ks → length ks ≤ length xs
no_longer [] xs o p a = omega arith
no_longer (k ∷ ks) [] o p a = let l = a.0.1 in absurd (omega arith)
no_longer (k ∷ ks) (x ∷ xs) o p a =
    let up = recursion_from_All (λ (y : Cut). k.number < y.number) ks o.0 in
    elim (first_or_behind x xs k a.0) [
      | inl same ↦
          let e : x.number ≡ k.number = ap (λ (y : Cut). y.number) same in
          let n = no_longer ks xs o.1 p.1 (all_behind x xs ks (all_weaker (λ (y : Cut). k.number < y.number) (λ y. x.number < y.number) (λ y l. omega (arith, l, e)) ks up) a.1) in
          omega (arith, n)
      | inr there ↦
          let l : x.number < k.number = All-contains (λ (y : Cut). x.number < y.number) xs k p.0 there in
          let n = no_longer (k ∷ ks) xs o p.1 (all_behind x xs (k ∷ ks) (l, all_weaker (λ (y : Cut). k.number < y.number) (λ y. x.number < y.number) (λ y m. omega (arith, l, m)) ks up) a) in
          omega (arith, n)
    ]

-- OLD CUTS

-- a cut up to a number that is below all is old
below_all : (n : ℕ) (ns : List ℕ) (k : Cut) → AllByRecursion (λ m. n < m) ns → k.number ≤ n → IsTrue (is_old (least_of ns) k)
below_all n [] k a low = refl
below_all n (m ∷ ms) k a low =
    let l = least_most ms (Some m) m refl in
    let under : n < l.0 = least_has (λ x. n < x) ms (Some m) a.1 (λ x e. let d : m ≡ x = cc in let g = a.0 in omega arith) l.0 l.1 in
    subst (λ (o : Option ℕ). IsTrue (is_old o k)) (sym l.1) (let t : nat_lt k.number l.0 ≡ true = grind (arith, nat_tests) in t)

-- what is neither old nor outdone is listed, where it is accounted for
left_listed : (P : Type 0) (old outdone : Bool) (low : Type 0) → (low → IsTrue old) → not (old || outdone) ≡ true → P ⊎ (IsTrue outdone ⊎ low) → P
left_listed P old outdone low f stays (inl h) = h
left_listed P true true low f stays (inr (inl out)) = absurd (cc)
left_listed P false true low f stays (inr (inl out)) = absurd (cc)
left_listed P true false low f stays (inr (inl out)) = absurd (cc)
left_listed P false false low f stays (inr (inl out)) = absurd (cc)
left_listed P true outdone low f stays (inr (inr h)) = absurd (cc)
left_listed P false outdone low f stays (inr (inr h)) = absurd (let e = f h in cc)

-- AT THE NEXT OPENING

module _ (c : Catalogue) (o : CabinetOpening) (past : List Cut) (s : CabinetStanding) (records : List (Option Record)) (known : Stands c o past s) (r : IsRecorded c o past s.kept s.book records) where
  abbrev numbers : List ℕ
  numbers = map (λ (t : Kept). t.number) r.reached.kept

  abbrev least : Option ℕ
  least = least_of numbers

  by_number : IsByNumber r.reached.cuts
  by_number = (sound_is c records r.reached known.valid r.replays).order.by_number

  -- the floor is below all that the records keep
  floor_below : AllByRecursion (λ n. s.book.floor < n) numbers
  floor_below =
      all_map (λ (t : Kept). t.number) (λ n. s.book.floor < n) r.reached.kept
      (permuted_all (λ (t : Kept). s.book.floor < t.number) s.kept r.reached.kept (IsPermutation-sym r.reached.kept s.kept r.same_kept)
      (all_weaker (HoldsOfKept c past s.front s.book.floor) (λ t. s.book.floor < t.number) (λ t h. h.above_floor) s.kept known.holds.kept))

  -- what the purge leaves is listed
  each_listed : AllByRecursion (Contains s.book.cuts) (remaining None least r.reached.cuts)
  each_listed =
      subst (AllByRecursion (Contains s.book.cuts)) (sym (remaining_is_by_rule None least r.reached.cuts by_number))
      (all_passed (IsAccounted r.reached.cuts s.book) (Contains s.book.cuts) (λ k. not (is_within None k || is_old least k || is_outdone_among r.reached.cuts k))
      (λ k stays h. left_listed (Contains s.book.cuts k) (is_old least k) (is_outdone_among r.reached.cuts k) (k.number ≤ s.book.floor) (below_all s.book.floor numbers k floor_below) stays h) r.reached.cuts r.accounted)

  pub few_left : length (book_after r.reached).cuts ≤ c.cut_limit
  few_left =
      let n = no_longer (remaining None least r.reached.cuts) s.book.cuts (by_number_remaining None least r.reached.cuts by_number) known.holds.order.by_number each_listed in
      let m = known.few_listed in
      omega (arith, n, m)

  floor_rises_to : s.book.floor ≤ (book_after r.reached).floor
  floor_rises_to =
      let up : r.reached.floor ≤ (book_after r.reached).floor = floor_rises least r.reached.cuts r.reached.floor in
      elim r.floor_of [
        | inl low ↦ omega (arith, low, up)
        | inr k ↦
            let old = below_all s.book.floor numbers k.0 floor_below (let e = k.2 in omega (arith, e)) in
            let l : k.0.number ≤ (book_after r.reached).floor = all_contained (λ (x : Cut). IsTrue (is_old least x) → x.number ≤ (book_after r.reached).floor) r.reached.cuts k.0 (old_below least r.reached.floor r.reached.cuts) k.1 old in
            let e = k.2 in
            omega (arith, l, e)
      ]

  pub answers_still : AnswersForBook (book_after r.reached) s.book
  answers_still = record {
    floor = floor_rises_to;
    cuts = All-from_recursion (AnswersFor (book_after r.reached)) s.book.cuts
        (all_weaker (Contains r.reached.cuts) (AnswersFor (book_after r.reached)) (λ k has. all_contained (AnswersFor (book_after r.reached)) r.reached.cuts k (answers_after c records r.reached r.replays) has) s.book.cuts r.listed);
  }

pub records_restore : (s : State) (records : List (Option Record)) → IsKnown s → IsRecordedIn s records
    → (r : Replayed) × Replays s.catalogue unplayed records r × IsPermutation r.kept (now s).kept × (length (book_after r).cuts ≤ s.catalogue.cut_limit) × AnswersForBook (book_after r) (now s).book
records_restore s records k h =
    let known = stands_in s k in
    let r = recorded_of s records h in
    (r.reached, r.replays, r.same_kept, few_left s.catalogue s.opening (cuts_of s.history) (now s) records known r, answers_still s.catalogue s.opening (cuts_of s.history) (now s) records known r)
