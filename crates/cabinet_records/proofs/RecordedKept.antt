-- A record that stores, drops or counts does to what the records come to what its command does to what is kept.
use Rattle.std.proofs.Common.{ℕ, ◌≡◌, ◌≢◌, ◌+◌, ◌<◌, ◌≤◌, Bool, true, false, cond, not, List, [], ◌∷◌, ◌++◌, map, find, length, Option, Some, None, IsTrue, refl, sym, ap, subst, ◌∙◌, inl, inr, arith, length-append}
use Rattle.std.specs.List.{AllByRecursion}
use Rattle.std.specs.List.Sorted.{IsPermutation}
use Rattle.std.proofs.lemmas.List.Sorted.{IsPermutation-append_left, IsPermutation-map, IsPermutation-sym, length_permutation}
use Rattle.catalog.specs.declared.catalogue.Catalogue.{Catalogue}
use Rattle.metatile_locks.specs.declared.render.Render.{Render}
use Rattle.metatile_locks.specs.Running.{is_render_of}
use Rattle.metatile_locks.specs.Tickets.{Ticketed}
use Rattle.metatile_locks.proofs.Lists.{all_weaker, found, none_passes}
use Rattle.metatile_plan.specs.declared.metatile.MetaKey.{MetaKey}
use Rattle.metatile_plan.proofs.Same.{same_meta_is}
use Rattle.raster_field.specs.Blocks.{IsMeta, blob_size}
use Rattle.record_text.specs.declared.entries.Record.{Record}
use Rattle.record_text.specs.declared.entries.Record.TheVariants as record_of
use Rattle.truncation_list.specs.declared.book.Book.{Book}
use Rattle.truncation_list.specs.declared.book.Cut.{Cut}
use Rattle.extent_map.specs.Parts.{AreApart}
use Rattle.cabinet.specs.declared.entry.HistoryEntry.TheVariants as entry
use Rattle.cabinet.specs.declared.kept.Kept.{Kept}
use Rattle.cabinet.specs.declared.replies.Expired.TheVariants as expired
use Rattle.cabinet.specs.declared.replies.Finished.TheVariants as finished
use Rattle.cabinet.specs.declared.replies.Saved.TheVariants as saved
use Rattle.cabinet.specs.Commands.{Expires, Finishes, Saves, kept_at}
use Rattle.cabinet.specs.Counted.{uses}
use Rattle.cabinet.specs.Fresh.{ApartBy, HoldsOfKept, IsNewer, IsOfLength, cuts_of}
use Rattle.cabinet.specs.Gaps.{AreDisjoint, region}
use Rattle.cabinet.specs.History.{CabinetOpening, CabinetStanding, after, but, first_front, is_of, kept_of, stored_entry, with_uses}
use Rattle.cabinet.specs.Hits.{hits_of}
use Rattle.cabinet_records.specs.Recorded.{IsRecordedIn, stored_record}
use Rattle.cabinet_records.specs.Replay.{IsKeptUnder, MayStore, opening_of, replayed, unplayed}
use Rattle.cabinet.specs.State.{IsKnown, State, now, with_blob, with_counted, with_dropped}
use Rattle.cabinet.proofs.Holding.{kept_has}
use Rattle.cabinet.proofs.Lists.{all_contained, all_found, all_right}
use Rattle.cabinet.proofs.Once.{apart_around}
use Rattle.cabinet_records.proofs.RecordedOrders.{permuted_all, permuted_filter}
use Rattle.cabinet_records.proofs.RecordedStanding.{IsBefore, IsRecorded, Stands, given_by, number_is, recorded_more, recorded_of, replays_one, stands_in, stands_more}
use Rattle.cabinet.proofs.Rows.{finishes_known}

-- A NUMBER ABOVE ALL CUTS THAT HIT

-- one that was given since the opening is above each cut that hits its metatile where it is above those of the history
above_each : (c : Catalogue) (o : CabinetOpening) (past : List Cut) (n : ℕ) (m : MetaKey) → first_front o < n → IsNewer c past n m → (k : Cut) → IsBefore o past k → IsTrue (hits_of c k.cover m) → k.number < n
above_each c o past n m since newer k (inl has) hit = all_contained (λ (x : Cut). IsTrue (hits_of c x.cover m) → x.number < n) past k newer has hit
above_each c o past n m since newer k (inr low) hit = omega arith

pub newer_of : (c : Catalogue) (o : CabinetOpening) (past : List Cut) (n : ℕ) (m : MetaKey) (cuts : List Cut) → first_front o < n → IsNewer c past n m → AllByRecursion (IsBefore o past) cuts → IsNewer c cuts n m
newer_of c o past n m cuts since newer before =
    all_weaker (IsBefore o past) (λ k. IsTrue (hits_of c k.cover m) → k.number < n) (above_each c o past n m since newer) cuts before

-- STORED

-- the last region is apart from each of the others
apart_last : (ts : List Kept) (t : Kept) → AreDisjoint (ts ++ t ∷ []) → AllByRecursion (λ u. AreApart (region t) (region u)) ts
apart_last [] t a = tt
apart_last (u ∷ us) t a = (other_side (all_right (λ x. AreApart (region u) (region x)) us (t ∷ []) a.0).0, apart_last us t a.1)
  where
    other_side : AreApart (region u) (region t) → AreApart (region t) (region u)
    other_side (inl h) = inr h
    other_side (inr h) = inl h

module _ (c : Catalogue) (o : CabinetOpening) (past : List Cut) (old : List Kept) (book : Book) (records : List (Option Record)) (r : IsRecorded c o past old book records) where
  -- what stands when one is kept says that its record may follow
  may_store : (new : CabinetStanding) (t : Kept) → Stands c o past new → new.kept ≡ but t.meta old ++ t ∷ [] → new.book ≡ book → first_front o < t.number → MayStore c r.reached t
  may_store new t s is same since =
      let others = but t.meta r.reached.kept in
      let order : IsPermutation (but t.meta old) others = IsPermutation-sym others (but t.meta old) (permuted_filter (λ x. not (is_of t.meta x)) r.reached.kept old r.same_kept) in
      let last : (P : Kept → Type 0) → AllByRecursion P new.kept → P t = λ P a. (all_right P (but t.meta old) (t ∷ []) (subst (AllByRecursion P) is a)).0 in
      let holds : HoldsOfKept c past new.front new.book.floor t = last (HoldsOfKept c past new.front new.book.floor) s.holds.kept in
      let low = r.floor_before in
      let above : new.book.floor < t.number = holds.above_floor in
      let floor : new.book.floor ≡ book.floor = ap (λ (b : Book). b.floor) same in
      let most : t.number ≤ new.front = holds.given in
      let top = s.top in
      let long : length new.kept ≡ length (but t.meta old) + 1 = ap length is ∙ length-append (but t.meta old) (t ∷ []) in
      let few = s.few in
      let alike : length others ≡ length (but t.meta old) = length_permutation (but t.meta old) others order in
      record {
        meta = last (λ x. IsMeta c x.meta) s.metas;
        size = last (IsOfLength c) s.lengths;
        within = last (λ x. x.place + x.length ≤ c.blob_bytes) s.regions.within;
        apart = permuted_all (λ u. AreApart (region t) (region u)) (but t.meta old) others order (apart_last (but t.meta old) t (subst AreDisjoint is s.regions.disjoint));
        given = subst (λ (e : ℕ). opening_of t.number ≤ e) (sym (number_is r.reached o r.opening_is)) (given_by o t.number (omega arith));
        above_floor = omega arith;
        own = permuted_all (λ u. t.number ≢ u.number) (but t.meta old) others order
            (apart_around (λ (x : Kept). x.number) (but t.meta old) t [] (subst (ApartBy (λ x. x.number)) is s.differ.kept)).0;
        newer = newer_of c o past t.number t.meta r.reached.cuts since holds.newer r.given;
        few = omega arith;
      }

  pub kept_recorded : (new : CabinetStanding) (t : Kept) → Stands c o past new → new.kept ≡ but t.meta old ++ t ∷ [] → new.book ≡ book → first_front o < t.number → IsRecorded c o past (but t.meta old ++ t ∷ []) book (records ++ Some (stored_record t) ∷ [])
  kept_recorded new t s is same since = record {
    reached = replayed c r.reached (stored_record t);
    replays = replays_one c unplayed records r.reached (stored_record t) r.replays (may_store new t s is same since);
    opening_is = r.opening_is;
    same_kept = IsPermutation-append_left (t ∷ []) (but t.meta r.reached.kept) (but t.meta old) (permuted_filter (λ x. not (is_of t.meta x)) r.reached.kept old r.same_kept);
    listed = r.listed;
    accounted = r.accounted;
    given = r.given;
    floor_of = r.floor_of;
    floor_before = r.floor_before;
  }

-- ONE OF A METATILE, in another order

only_one : (m : MetaKey) (t : Kept) (ts : List Kept) → ApartBy (λ t. t.meta) ts → find (is_of m) ts ≡ Some t → AllByRecursion (λ u. is_of m u ≡ true → u ≡ t) ts
only_one m t [] a e = tt
only_one m t (x ∷ xs) a e = chosen (is_of m x) refl e (only_one m t xs a.1)
  where
    chosen : (v : Bool) → is_of m x ≡ v → cond v (Some x) (find (is_of m) xs) ≡ Some t → (find (is_of m) xs ≡ Some t → AllByRecursion (λ u. is_of m u ≡ true → u ≡ t) xs) → AllByRecursion (λ u. is_of m u ≡ true → u ≡ t) (x ∷ xs)
    chosen true is e ih =
        let same : x ≡ t = cc in (
          λ on. same,
          all_weaker (λ (u : Kept). x.meta ≢ u.meta) (λ u. is_of m u ≡ true → u ≡ t) (λ u off on. absurd (off (same_meta_is x.meta m is ∙ sym (same_meta_is u.meta m on)))) xs a.0,
        )
    chosen false is e ih = (λ on. absurd (let f : true ≡ false = sym on ∙ is in cc), ih e)

same_found : (m : MetaKey) (t : Kept) (xs ts : List Kept) → IsPermutation xs ts → ApartBy (λ t. t.meta) ts → find (is_of m) ts ≡ Some t → find (is_of m) xs ≡ Some t
same_found m t xs ts p a e = chosen (find (is_of m) xs) refl
  where
    chosen : (w : Option Kept) → find (is_of m) xs ≡ w → w ≡ Some t
    chosen None none =
        let off = permuted_all (λ u. is_of m u ≡ false) xs ts p (none_passes (is_of m) xs none) in
        let f = found (is_of m) (λ u. is_of m u ≡ false) ts t off e in
        absurd (let g : true ≡ false = sym f.0 ∙ f.1 in cc)
    chosen (Some u) at =
        let only = permuted_all (λ u. is_of m u ≡ true → u ≡ t) ts xs (IsPermutation-sym xs ts p) (only_one m t ts a e) in
        let f = found (is_of m) (λ u. is_of m u ≡ true → u ≡ t) xs u only at in
        ap Some (f.1 f.0)

-- DROPPED, AND USES

module _ (c : Catalogue) (o : CabinetOpening) (past : List Cut) (s : CabinetStanding) (records : List (Option Record)) (known : Stands c o past s) (r : IsRecorded c o past s.kept s.book records) (m : MetaKey) (t : Kept) (is : kept_of m s ≡ Some t) where
  kept_under : IsKeptUnder c r.reached t.number m
  kept_under =
      let k = kept_has (λ x. IsMeta c x.meta) m s t known.metas is in
      (subst (IsMeta c) k.1 k.0, (t, same_found m t r.reached.kept s.kept r.same_kept known.once_kept is, refl))

  pub dropped_recorded : IsRecorded c o past (but m s.kept) s.book (records ++ Some (record_of.Dropped t.number m) ∷ [])
  dropped_recorded = record {
    reached = replayed c r.reached (record_of.Dropped t.number m);
    replays = replays_one c unplayed records r.reached (record_of.Dropped t.number m) r.replays kept_under;
    opening_is = r.opening_is;
    same_kept = permuted_filter (λ x. not (is_of m x)) r.reached.kept s.kept r.same_kept;
    listed = r.listed;
    accounted = r.accounted;
    given = r.given;
    floor_of = r.floor_of;
    floor_before = r.floor_before;
  }

  pub saved_recorded : (n : ℕ) → IsRecorded c o past (map (with_uses m n) s.kept) s.book (records ++ Some (record_of.Uses t.number m n) ∷ [])
  saved_recorded n = record {
    reached = replayed c r.reached (record_of.Uses t.number m n);
    replays = replays_one c unplayed records r.reached (record_of.Uses t.number m n) r.replays kept_under;
    opening_is = r.opening_is;
    same_kept = IsPermutation-map (with_uses m n) r.reached.kept s.kept r.same_kept;
    listed = r.listed;
    accounted = r.accounted;
    given = r.given;
    floor_of = r.floor_of;
    floor_before = r.floor_before;
  }

-- COMMANDS

pub finish_recorded : (s new : State) (records : List (Option Record)) (t : Ticketed) (blob : List ℕ) → IsKnown s → IsRecordedIn s records → length blob ≡ blob_size s.catalogue t.meta → (finishes : Finishes s t blob finished.Kept new)
    → IsRecordedIn new (records ++ Some (stored_record (kept_at t finishes.0 finishes.3.0 (length blob))) ∷ [])
finish_recorded s new records t blob k r long row =
    let kept : Kept = kept_at t row.0 row.3.0 (length blob) in
    let known = (finishes_known s new t blob finished.Kept k long row).known in
    let stands = stands_more s (stored_entry kept) (with_blob s kept blob).blobs (subst IsKnown row.3.2 known) refl in
    let since : first_front s.opening < t.number = all_found (λ (x : Render). first_front s.opening < x.number) (is_render_of t) (now s).out (record { number = t.number; meta = t.meta; moment = row.0; mark = None }) (stands_in s k).out row.1 in
    subst (λ (x : State). IsRecordedIn x (records ++ Some (stored_record kept) ∷ [])) (sym row.3.2)
    (recorded_more s (stored_entry kept) (with_blob s kept blob).blobs (records ++ Some (stored_record kept) ∷ [])
    (kept_recorded s.catalogue s.opening (cuts_of s.history) (now s).kept (now s).book records (recorded_of s records r) (after s.catalogue (now s) (stored_entry kept)) kept stands refl refl since))

pub drop_recorded : (s new : State) (records : List (Option Record)) (m : MetaKey) (t : Kept) → IsKnown s → IsRecordedIn s records → kept_of m (now s) ≡ Some t → Expires s (expired.Dropped m) new
    → IsRecordedIn new (records ++ Some (record_of.Dropped t.number m) ∷ [])
drop_recorded s new records m t k r is row =
    subst (λ (x : State). IsRecordedIn x (records ++ Some (record_of.Dropped t.number m) ∷ [])) (sym row.3)
    (recorded_more s (entry.Dropped m) (with_dropped s m).blobs (records ++ Some (record_of.Dropped t.number m) ∷ [])
    (dropped_recorded s.catalogue s.opening (cuts_of s.history) (now s) records (stands_in s k) (recorded_of s records r) m t is))

pub save_recorded : (s new : State) (records : List (Option Record)) (m : MetaKey) (t : Kept) → IsKnown s → IsRecordedIn s records → kept_of m (now s) ≡ Some t → Saves s (saved.Done m) new
    → IsRecordedIn new (records ++ Some (record_of.Uses t.number m (uses s.history m)) ∷ [])
save_recorded s new records m t k r is row =
    let n = uses s.history m in
    subst (λ (x : State). IsRecordedIn x (records ++ Some (record_of.Uses t.number m n) ∷ [])) (sym row.1)
    (recorded_more s (entry.Counted m n) (with_counted s m n).blobs (records ++ Some (record_of.Uses t.number m n) ∷ [])
    (saved_recorded s.catalogue s.opening (cuts_of s.history) (now s) records (stands_in s k) (recorded_of s records r) m t is n))
