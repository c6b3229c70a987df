-- A cut of the records and what a purge makes of the book: each cut stays accounted for.
use Rattle.std.proofs.Common.{ℕ, ◌≡◌, ◌+◌, ◌<◌, ◌≤◌, ◌⊎◌, ◌&&◌, ◌||◌, max, Bool, true, false, cond, not, List, [], ◌∷◌, ◌++◌, fold, Option, Some, IsTrue, refl, sym, ap, subst, ◌∙◌, inl, inr, arith}
use Rattle.std.specs.Prelude.{nat_lt}
use Rattle.std.specs.List.{AllByRecursion, Contains, list_any}
use Rattle.std.proofs.lemmas.Bool.{cases_lt}
use Rattle.std.proofs.lemmas.Bool.Decides.{nat_tests}
use Rattle.std.proofs.lemmas.List.Elements.{All-from_recursion, Contains-append_left, Contains-append_right, Contains-push, recursion_from_All}
use Rattle.std.proofs.lemmas.List.Folds.{list_any_at}
use Rattle.catalog.specs.declared.catalogue.Catalogue.{Catalogue}
use Rattle.metatile_locks.proofs.Lists.{all_weaker}
use Rattle.record_text.specs.declared.entries.Record.{Record}
use Rattle.record_text.specs.declared.entries.Record.TheVariants as record_of
use Rattle.served_covers.specs.OfCatalogue.{IsCoverOf}
use Rattle.truncation_list.specs.declared.book.Book.{Book}
use Rattle.truncation_list.specs.declared.book.Cut.{Cut}
use Rattle.truncation_list.specs.declared.cover.Cover.{Cover}
use Rattle.truncation_list.specs.Contains.{contains}
use Rattle.truncation_list.specs.Purge.{IsByNumber, added, is_old, is_outdone_among, is_within, raised, remaining}
use Rattle.truncation_list.proofs.Filters.{filter_keeps}
use Rattle.truncation_list.proofs.Remaining.{all_remaining, floor_rises, some_of}
use Rattle.truncation_list.proofs.Rule.{remaining_is_by_rule}
use Rattle.cabinet.specs.declared.entry.HistoryEntry.TheVariants as entry
use Rattle.cabinet.specs.declared.replies.CutReply.TheVariants as reply
use Rattle.cabinet.specs.Commands.{Cuts}
use Rattle.cabinet.specs.Fresh.{cuts_of}
use Rattle.cabinet.specs.Hits.{hits_of}
use Rattle.cabinet.specs.History.{CabinetOpening, CabinetStanding, last_number, least_of, numbers, spared}
use Rattle.cabinet_records.specs.Recorded.{IsAccounted, IsFloorOf, IsRecordedIn}
use Rattle.cabinet_records.specs.Replay.{MayCut, opening_of, replayed, unplayed}
use Rattle.cabinet.specs.State.{IsKnown, State, now, with_cut}
use Rattle.cabinet.proofs.Lists.{all_both, all_contained, all_of, all_push}
use Rattle.cabinet_records.proofs.RecordedOrders.{permuted_filter}
use Rattle.cabinet_records.proofs.RecordedStanding.{IsBefore, IsRecorded, Stands, given_by, number_is, recorded_more, recorded_of, replays_one, stands_in}
use Rattle.cabinet.proofs.Rows.{next_is}

-- WHAT A PURGE TAKES OUT

-- a cut stays in the list, or one of the three reasons takes it out
by_reason : (within old outdone : Bool) (P : Type 0) → (not (within || old || outdone) ≡ true → P) → P ⊎ (IsTrue within ⊎ (IsTrue old ⊎ IsTrue outdone))
by_reason true old outdone P stays = inr (inl refl)
by_reason false true outdone P stays = inr (inr (inl refl))
by_reason false false true P stays = inr (inr (inr refl))
by_reason false false false P stays = inl (stays refl)

pub stays_or_goes : (cover : Option Cover) (least : Option ℕ) (cuts : List Cut) (k : Cut) → IsByNumber cuts → Contains cuts k
    → Contains (remaining cover least cuts) k ⊎ (IsTrue (is_within cover k) ⊎ (IsTrue (is_old least k) ⊎ IsTrue (is_outdone_among cuts k)))
stays_or_goes cover least cuts k o has =
    by_reason (is_within cover k) (is_old least k) (is_outdone_among cuts k) (Contains (remaining cover least cuts) k)
    (λ stays. subst (λ (ks : List Cut). Contains ks k) (sym (remaining_is_by_rule cover least cuts o))
    (filter_keeps (λ x. not (is_within cover x || is_old least x || is_outdone_among cuts x)) cuts k has stays))

-- the floor is at least the number of each cut that is old
pub old_below : (least : Option ℕ) (floor : ℕ) (cuts : List Cut) → AllByRecursion (λ k. IsTrue (is_old least k) → k.number ≤ fold (raised least) floor cuts) cuts
old_below least floor [] = tt
old_below least floor (x ∷ xs) = (
  λ e.
      let r = floor_rises least xs (raised least floor x) in
      let m : x.number ≤ raised least floor x = rw e (omega arith) in
      omega (arith, r, m),
  old_below least (raised least floor x) xs,
)

-- and it is the floor of before or the number of a cut
raised_to : (least : Option ℕ) (floor : ℕ) (cuts : List Cut) → (fold (raised least) floor cuts ≡ floor) ⊎ ((k : Cut) × Contains cuts k × (k.number ≡ fold (raised least) floor cuts))
raised_to least floor [] = inl refl
raised_to least floor (x ∷ xs) = elim (raised_to least (raised least floor x) xs) [
  | inl same ↦ chosen (is_old least x) refl same
  | inr k ↦ inr (k.0, Contains-append_right (x ∷ []) xs k.0 k.1, k.2)
]
  where
    chosen : (v : Bool) → is_old least x ≡ v → fold (raised least) (raised least floor x) xs ≡ cond v (max floor x.number) floor
        → (fold (raised least) (raised least floor x) xs ≡ floor) ⊎ ((k : Cut) × Contains (x ∷ xs) k × (k.number ≡ fold (raised least) (raised least floor x) xs))
    chosen true is same = elim (cases_lt floor x.number) [
      | inl under ↦ inr (x, (0, omega arith, refl), omega (arith, same))
      | inr over ↦ inl (omega (arith, same))
    ]
    chosen false is same = inl same

-- OUTDONE AMONG MORE CUTS

pub among_these : (test : Cut → Bool) (cuts : List Cut) (k : Cut) → Contains cuts k → IsTrue (test k) → IsTrue (list_any test cuts)
among_these test cuts k has is = list_any_at test cuts has.0 k has.1 (ap test has.2 ∙ is)

outdone_more : (cuts more : List Cut) (k : Cut) → AllByRecursion (Contains more) cuts → IsTrue (is_outdone_among cuts k) → IsTrue (is_outdone_among more k)
outdone_more cuts more k each out =
    let test : Cut → Bool = λ other. nat_lt k.number other.number && contains other.cover k.cover in
    let by = some_of test cuts out in
    among_these test more by.0 (all_contained (Contains more) cuts by.0 each by.1) by.2

outdone_by : (new k : Cut) → k.number < new.number → IsTrue (contains new.cover k.cover) → (nat_lt k.number new.number && contains new.cover k.cover) ≡ true
outdone_by new k l c = let test : nat_lt k.number new.number ≡ true = grind (arith, nat_tests) in rw test c

-- A CUT

module _ (c : Catalogue) (o : CabinetOpening) (past : List Cut) (s : CabinetStanding) (records : List (Option Record)) (t : ℕ) (cover : Cover) (least : Option ℕ) (known : Stands c o past s) (r : IsRecorded c o past s.kept s.book records)
    (of : IsCoverOf c cover) (is : t ≡ s.front + 1) (left : t ≤ last_number o) where
  abbrev newest : Cut
  newest = record { number = t; cover = cover }

  abbrev cuts : List Cut
  cuts = r.reached.cuts ++ newest ∷ []

  abbrev book : Book
  book = added t cover least s.book

  -- the cuts of the records have lower numbers
  lower : (k : Cut) → IsBefore o past k → k.number < t
  lower k (inl has) = let l : k.number ≤ s.front = all_contained (λ (x : Cut). x.number ≤ s.front) past k known.holds.given has in omega arith
  lower k (inr low) = let f = known.front in omega arith

  below : AllByRecursion (λ k. k.number < t) r.reached.cuts
  below = all_weaker (IsBefore o past) (λ k. k.number < t) lower r.reached.cuts r.given

  may_cut : MayCut c r.reached t cover
  may_cut = record {
    cover_of = of;
    given = subst (λ (e : ℕ). opening_of t ≤ e) (sym (number_is r.reached o r.opening_is)) (given_by o t left);
    above = below;
  }

  -- those that were listed are among the cuts of the records still
  among : AllByRecursion (Contains cuts) s.book.cuts
  among = all_weaker (Contains r.reached.cuts) (Contains cuts) (λ k has. Contains-append_left r.reached.cuts (newest ∷ []) k has) s.book.cuts r.listed

  still_listed : AllByRecursion (Contains cuts) book.cuts
  still_listed =
      all_push (Contains cuts) (remaining (Some cover) least s.book.cuts) newest
      (recursion_from_All (Contains cuts) (remaining (Some cover) least s.book.cuts) (all_remaining (Contains cuts) (Some cover) least s.book.cuts (All-from_recursion (Contains cuts) s.book.cuts among)))
      (Contains-push r.reached.cuts newest)

  floor_up : s.book.floor ≤ book.floor
  floor_up = floor_rises least s.book.cuts s.book.floor

  -- each cut of the records is accounted for after the purge
  still_accounted : (k : Cut) → IsAccounted r.reached.cuts s.book k × (k.number < t) → IsAccounted cuts book k
  still_accounted k h = elim h.0 [
    | inl has ↦ listed_before has
    | inr (inl out) ↦ inr (inl (outdone_more r.reached.cuts cuts k (all_weaker (Contains r.reached.cuts) (Contains cuts) (λ x has. Contains-append_left r.reached.cuts (newest ∷ []) x has) r.reached.cuts (itself r.reached.cuts)) out))
    | inr (inr low) ↦ inr (inr (let up = floor_up in omega (arith, low, up)))
  ]
    where
      itself : (ks : List Cut) → AllByRecursion (Contains ks) ks
      itself ks = all_of (Contains ks) ks (λ x has. has)

      listed_before : Contains s.book.cuts k → IsAccounted cuts book k
      listed_before has = elim (stays_or_goes (Some cover) least s.book.cuts k known.holds.order.by_number has) [
        | inl stays ↦ inl (Contains-append_left (remaining (Some cover) least s.book.cuts) (newest ∷ []) k stays)
        | inr (inl within) ↦ inr (inl (among_these (λ other. nat_lt k.number other.number && contains other.cover k.cover) cuts newest (Contains-push r.reached.cuts newest) (outdone_by newest k h.1 within)))
        | inr (inr (inl old)) ↦ inr (inr (all_contained (λ (x : Cut). IsTrue (is_old least x) → x.number ≤ book.floor) s.book.cuts k (old_below least s.book.floor s.book.cuts) has old))
        | inr (inr (inr out)) ↦ inr (inl (outdone_more s.book.cuts cuts k among out))
      ]

  floor_still : IsFloorOf (replayed c r.reached (record_of.Cut t cover)) book.floor
  floor_still = elim (raised_to least s.book.floor s.book.cuts) [
    | inl same ↦ elim r.floor_of [
      | inl low ↦ inl (omega (arith, low, same))
      | inr k ↦ inr (k.0, Contains-append_left r.reached.cuts (newest ∷ []) k.0 k.1, omega (arith, k.2, same))
    ]
    | inr k ↦ inr (k.0, all_contained (Contains cuts) s.book.cuts k.0 among k.1, k.2)
  ]

  before_more : (k : Cut) → IsBefore o past k → IsBefore o (past ++ newest ∷ []) k
  before_more k (inl has) = inl (Contains-append_left past (newest ∷ []) k has)
  before_more k (inr low) = inr low

  pub cut_recorded : IsRecorded c o (past ++ record { number = t; cover = cover } ∷ []) (spared c cover s.kept) (added t cover least s.book) (records ++ Some (record_of.Cut t cover) ∷ [])
  cut_recorded = record {
    reached = replayed c r.reached (record_of.Cut t cover);
    replays = replays_one c unplayed records r.reached (record_of.Cut t cover) r.replays may_cut;
    opening_is = r.opening_is;
    same_kept = permuted_filter (λ x. not (hits_of c cover x.meta)) r.reached.kept s.kept r.same_kept;
    listed = still_listed;
    accounted = all_push (IsAccounted cuts book) r.reached.cuts newest
        (all_weaker (λ k. IsAccounted r.reached.cuts s.book k × (k.number < t)) (IsAccounted cuts book) still_accounted r.reached.cuts
        (all_both (IsAccounted r.reached.cuts s.book) (λ k. k.number < t) r.reached.cuts r.accounted below))
        (inl (Contains-push (remaining (Some cover) least s.book.cuts) newest));
    given = all_push (IsBefore o (past ++ newest ∷ [])) r.reached.cuts newest (all_weaker (IsBefore o past) (IsBefore o (past ++ newest ∷ [])) before_more r.reached.cuts r.given) (inl (Contains-push past newest));
    floor_of = floor_still;
    floor_before = let f = r.floor_before in let up = floor_up in omega (arith, f, up);
  }

-- THE COMMAND

pub cuts_recorded : (s new : State) (records : List (Option Record)) (cover : Cover) (t : ℕ) → IsKnown s → IsRecordedIn s records → IsCoverOf s.catalogue cover → Cuts s cover (reply.Done t) new
    → IsRecordedIn new (records ++ Some (record_of.Cut t cover) ∷ [])
cuts_recorded s new records cover t k r of row =
    let next = next_is s.opening (now s) t row.0 in
    subst (λ (x : State). IsRecordedIn x (records ++ Some (record_of.Cut t cover) ∷ [])) (sym row.2)
    (recorded_more s (entry.Cut t cover) (with_cut s t cover).blobs (records ++ Some (record_of.Cut t cover) ∷ [])
    (cut_recorded s.catalogue s.opening (cuts_of s.history) (now s) records t cover (least_of (numbers (now s).out (now s).kept)) (stands_in s k) (recorded_of s records r) of next.number next.left))
