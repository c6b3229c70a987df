-- What an opening and a compaction leave: the records behind them say what is kept.
use Rattle.std.proofs.Common.{ℕ, ◌≡◌, ◌≢◌, ◌+◌, ◌*◌, ◌/◌, ◌^◌, ◌<◌, ◌≤◌, false, List, [], ◌∷◌, ◌++◌, map, length, Option, Some, None, IsTrue, refl, sym, ap, subst, inl, inr, arith, length-append, append_assoc, append-nil}
use Rattle.std.specs.Prelude.{IfSome}
use Rattle.std.specs.List.{AllByRecursion, Contains}
use Rattle.std.specs.List.Sorted.{IsPermutation}
use Rattle.std.specs.Option.{option_map_or}
use Rattle.std.proofs.Math.Nat.{lt-div-mul-add, mul-le-mul}
use Rattle.std.proofs.lemmas.List.{map-append}
use Rattle.std.proofs.lemmas.List.Elements.{All-from_recursion, recursion_from_All}
use Rattle.std.proofs.lemmas.List.Sorted.{IsPermutation-refl, IsPermutation-sym, length_permutation}
use Rattle.catalog.specs.declared.catalogue.Catalogue.{Catalogue}
use Rattle.catalog.specs.Valid.{IsValid}
use Rattle.extent_map.specs.Parts.{AreApart}
use Rattle.metatile_locks.proofs.Lists.{all_weaker}
use Rattle.raster_field.specs.Blocks.{IsMeta}
use Rattle.record_text.specs.declared.entries.Record.{Record}
use Rattle.record_text.specs.declared.entries.Record.TheVariants as record_of
use Rattle.served_covers.specs.OfCatalogue.{IsCoverOf}
use Rattle.truncation_list.specs.declared.book.Cut.{Cut}
use Rattle.truncation_list.specs.Purge.{IsByNumber, is_old}
use Rattle.truncation_list.proofs.Remaining.{all_remaining, floor_rises}
use Rattle.cabinet.specs.declared.kept.Kept.{Kept}
use Rattle.cabinet.specs.Fresh.{ApartBy, HoldsOfKept, IsNewer, IsOfLength, MayBeginWith, cuts_of}
use Rattle.cabinet.specs.Gaps.{AreDisjoint, region}
use Rattle.cabinet.specs.Hits.{hits_of}
use Rattle.cabinet.specs.History.{CabinetOpening, CabinetStanding, History, but, first, first_front, is_of, least_of, standing}
use Rattle.cabinet_records.specs.Recorded.{IsAccounted, IsRecordedIn, compacted, stored_record}
use Rattle.cabinet_records.specs.Replay.{MayOpen, Replayed, Replays, book_after, opening_after, opening_number, opening_of, replayed, unplayed}
use Rattle.cabinet.specs.State.{IsKnown, State, now}
use Rattle.cabinet.proofs.Lists.{all_both, all_contained, all_of, all_push}
use Rattle.cabinet.proofs.Once.{but_none, off_of}
use Rattle.cabinet_records.proofs.RecordedCuts.{old_below, stays_or_goes}
use Rattle.cabinet_records.proofs.RecordedOrders.{AnyTwo, permuted_all, permuted_two, to_earlier}
use Rattle.cabinet_records.proofs.RecordedStanding.{IsBefore, IsRecorded, Stands, given_by, given_up_to, recorded_in, replays_more, replays_one, stands_in}
use Rattle.cabinet_records.proofs.Replaying.{IsSound, sound_is}

-- AN OPENING

-- a number that was given up to the opening e is below those of the next one
given_before : (n e d : ℕ) → 1 ≤ d → n / d ≤ e → n ≤ (e + 1) * d
given_before n e d some given =
    let high : n < n / d * d + d = lt-div-mul-add some in
    let most : n / d * d ≤ e * d = mul-le-mul given (omega arith) in
    omega (arith, high, most)

-- and one up to its beginning was given by then
given_at : (n e d : ℕ) → 1 ≤ d → n ≤ e * d → n / d ≤ e
given_at n e d some most = given_up_to n e d some (omega arith)

later_than : (o : Option ℕ) → IfSome o (λ before. before < option_map_or (λ e. e) o 0 + 1)
later_than None = tt
later_than (Some e) = omega arith

module _ (c : Catalogue) (past : List Cut) (records : List (Option Record)) (r : Replayed) (valid : IsValid c) (h : Replays c unplayed records r) (opens : MayBeginWith c (opening_after r)) where
  sound : IsSound c r
  sound = sound_is c records r valid h

  abbrev least : Option ℕ
  least = least_of (map (λ (t : Kept). t.number) r.kept)

  may_open : MayOpen r (opening_number r + 1) (book_after r).floor
  may_open = record {
    later = later_than r.opening;
    given = given_at (book_after r).floor (opening_number r + 1) (2 ^ 40) (omega arith) opens.holds.floor_given;
    below = all_weaker (HoldsOfKept c (book_after r).cuts (first_front (opening_after r)) (book_after r).floor) (λ t. (book_after r).floor < t.number) (λ t k. k.above_floor) r.kept opens.holds.kept;
  }

  -- each cut is listed, or the purge took it out
  listed_or_gone : (k : Cut) → Contains r.cuts k → IsAccounted r.cuts (book_after r) k
  listed_or_gone k has = elim (stays_or_goes None least r.cuts k sound.order.by_number has) [
    | inl stays ↦ inl stays
    | inr (inl within) ↦ absurd (cc)
    | inr (inr (inl old)) ↦ inr (inr (all_contained (λ (x : Cut). IsTrue (is_old least x) → x.number ≤ (book_after r).floor) r.cuts k (old_below least r.floor r.cuts) has old))
    | inr (inr (inr out)) ↦ inr (inl out)
  ]

  rises : r.floor ≤ (book_after r).floor
  rises = floor_rises least r.cuts r.floor

  opening_recorded : IsRecorded c (opening_after r) past r.kept (book_after r) (records ++ Some (record_of.Opened (opening_number r + 1) (book_after r).floor) ∷ [])
  opening_recorded = record {
    reached = replayed c r (record_of.Opened (opening_number r + 1) (book_after r).floor);
    replays = replays_one c unplayed records r (record_of.Opened (opening_number r + 1) (book_after r).floor) h may_open;
    opening_is = refl;
    same_kept = IsPermutation-refl r.kept;
    listed = recursion_from_All (Contains r.cuts) (book_after r).cuts
        (all_remaining (Contains r.cuts) None least r.cuts (All-from_recursion (Contains r.cuts) r.cuts (all_of (Contains r.cuts) r.cuts (λ k has. has))));
    accounted = all_of (IsAccounted r.cuts (book_after r)) r.cuts listed_or_gone;
    given = all_weaker (λ (k : Cut). opening_of k.number ≤ opening_number r) (IsBefore (opening_after r) past)
        (λ k given. inr (given_before k.number (opening_number r) (2 ^ 40) (omega arith) given)) r.cuts sound.cuts_given;
    floor_of = inl (omega arith);
    floor_before = let up = rises in omega (arith, up);
  }

pub opened_recorded : (s : State) (r : Replayed) (records : List (Option Record)) → IsKnown s → Replays s.catalogue unplayed records r → s.opening ≡ opening_after r → s.since ≡ []
    → IsRecordedIn s (records ++ Some (record_of.Opened s.opening.number s.opening.book.floor) ∷ [])
opened_recorded s r records k h is none =
    let c = s.catalogue in
    let past = cuts_of s.history in
    let new : CabinetOpening → List (Option Record) = λ o. records ++ Some (record_of.Opened o.number o.book.floor) ∷ [] in
    recorded_in s (new s.opening)
    (subst (λ (es : History). IsRecorded c s.opening past (standing c (first s.opening) es).kept (standing c (first s.opening) es).book (new s.opening)) (sym none)
    (subst (λ (o : CabinetOpening). IsRecorded c o past o.kept o.book (new o)) (sym is)
    (opening_recorded c past records r k.valid h (subst (MayBeginWith c) is k.possible.opens))))

-- A COMPACTION: the cuts

-- the cuts one by one, each above those before it
cuts_replay : (c : Catalogue) (e floor : ℕ) (done left : List Cut) → IsByNumber left → AllByRecursion (λ k. AllByRecursion (λ x. k.number < x.number) left) done → AllByRecursion (λ k. IsCoverOf c k.cover × (opening_of k.number ≤ e)) left
    → Replays c (record { opening = Some e; floor = floor; kept = []; cuts = done }) (map (λ r. Some r) (map (λ (k : Cut). record_of.Cut k.number k.cover) left)) (record { opening = Some e; floor = floor; kept = []; cuts = done ++ left })
cuts_replay c e floor done [] order above each = ap (λ (ks : List Cut). record { opening = Some e; floor = floor; kept = []; cuts = ks }) (append-nil done)
cuts_replay c e floor done (k ∷ ks) order above each =
    let behind = recursion_from_All (λ (x : Cut). k.number < x.number) ks order.0 in
    let rest = cuts_replay c e floor (done ++ k ∷ []) ks order.1
    (all_push (λ (x : Cut). AllByRecursion (λ y. x.number < y.number) ks) done k (all_weaker (λ (x : Cut). AllByRecursion (λ y. x.number < y.number) (k ∷ ks)) (λ x. AllByRecursion (λ y. x.number < y.number) ks) (λ x a. a.1) done above) behind) each.1 in (
      record { cover_of = each.0.0; given = each.0.1; above = all_weaker (λ (x : Cut). AllByRecursion (λ y. x.number < y.number) (k ∷ ks)) (λ x. x.number < k.number) (λ x a. a.0) done above },
      subst (λ (xs : List Cut). Replays c (record { opening = Some e; floor = floor; kept = []; cuts = done ++ k ∷ [] }) (map (λ r. Some r) (map (λ (k : Cut). record_of.Cut k.number k.cover) ks)) (record { opening = Some e; floor = floor; kept = []; cuts = xs }))
          (append_assoc done (k ∷ []) ks) rest,
    )

-- A COMPACTION: what is kept

-- two that are kept differ in number and metatile, and their regions are apart
record AreTwo (t u : Kept) : Type 0 where
  pub numbers : t.number ≢ u.number
  pub metas : t.meta ≢ u.meta
  pub regions : AreApart (region t) (region u)

two_back : (t u : Kept) → AreTwo t u → AreTwo u t
two_back t u h = record { numbers = λ e. h.numbers (sym e); metas = λ e. h.metas (sym e); regions = other_side h.regions }
  where
    other_side : AreApart (region t) (region u) → AreApart (region u) (region t)
    other_side (inl a) = inr a
    other_side (inr b) = inl b

all_two : (ts : List Kept) → ApartBy (λ t. t.number) ts → ApartBy (λ t. t.meta) ts → AreDisjoint ts → AnyTwo AreTwo ts
all_two [] n m d = tt
all_two (t ∷ ts) n m d = (
  all_weaker (λ (u : Kept). ((t.number ≢ u.number) × (t.meta ≢ u.meta)) × AreApart (region t) (region u)) (AreTwo t) (λ u h. record { numbers = h.0.0; metas = h.0.1; regions = h.1 }) ts
      (all_both (λ (u : Kept). (t.number ≢ u.number) × (t.meta ≢ u.meta)) (λ u. AreApart (region t) (region u)) ts
      (all_both (λ (u : Kept). t.number ≢ u.number) (λ u. t.meta ≢ u.meta) ts n.0 m.0) d.0),
  all_two ts n.1 m.1 d.1,
)

-- what each that is stored keeps to by itself
record IsGood (c : Catalogue) (e floor : ℕ) (cuts : List Cut) (t : Kept) : Type 0 where
  pub meta : IsMeta c t.meta
  pub size : IsOfLength c t
  pub within : t.place + t.length ≤ c.blob_bytes
  pub given : opening_of t.number ≤ e
  pub above_floor : floor < t.number
  pub newer : IsNewer c cuts t.number t.meta

kept_replay : (c : Catalogue) (e floor : ℕ) (cuts : List Cut) (done left : List Kept) → AllByRecursion (IsGood c e floor cuts) left → AnyTwo AreTwo (done ++ left) → length (done ++ left) ≤ c.kept_limit
    → Replays c (record { opening = Some e; floor = floor; kept = done; cuts = cuts }) (map (λ r. Some r) (map stored_record left)) (record { opening = Some e; floor = floor; kept = done ++ left; cuts = cuts })
kept_replay c e floor cuts done [] good two few = ap (λ (ts : List Kept). record { opening = Some e; floor = floor; kept = ts; cuts = cuts }) (append-nil done)
kept_replay c e floor cuts done (t ∷ ts) good two few =
    let earlier = all_weaker (λ (u : Kept). AreTwo u t) (AreTwo t) (λ u h. two_back u t h) done (to_earlier AreTwo done t ts two) in
    let others : but t.meta done ≡ done = but_none t.meta done (all_weaker (AreTwo t) (λ u. is_of t.meta u ≡ false) (λ u h. off_of t.meta u.meta h.metas) done earlier) in
    let along : (done ++ t ∷ []) ++ ts ≡ done ++ (t ∷ ts) = append_assoc done (t ∷ []) ts in
    let long = length-append done (t ∷ ts) in
    let g = good.0 in
    let now : Replayed = record { opening = Some e; floor = floor; kept = done; cuts = cuts } in
    let rest = kept_replay c e floor cuts (done ++ t ∷ []) ts good.1 (subst (AnyTwo AreTwo) (sym along) two) (subst (λ (us : List Kept). length us ≤ c.kept_limit) (sym along) few) in (
      record {
        meta = g.meta;
        size = g.size;
        within = g.within;
        apart = subst (AllByRecursion (λ (u : Kept). AreApart (region t) (region u))) (sym others) (all_weaker (AreTwo t) (λ u. AreApart (region t) (region u)) (λ u h. h.regions) done earlier);
        given = g.given;
        above_floor = g.above_floor;
        own = subst (AllByRecursion (λ (u : Kept). t.number ≢ u.number)) (sym others) (all_weaker (AreTwo t) (λ u. t.number ≢ u.number) (λ u h. h.numbers) done earlier);
        newer = g.newer;
        few = subst (λ (us : List Kept). length us < c.kept_limit) (sym others) (omega arith);
      },
      subst (λ (us : List Kept). Replays c (record { opening = Some e; floor = floor; kept = us ++ t ∷ []; cuts = cuts }) (map (λ r. Some r) (map stored_record ts)) (record { opening = Some e; floor = floor; kept = done ++ (t ∷ ts); cuts = cuts })) (sym others)
          (subst (λ (us : List Kept). Replays c (record { opening = Some e; floor = floor; kept = done ++ t ∷ []; cuts = cuts }) (map (λ r. Some r) (map stored_record ts)) (record { opening = Some e; floor = floor; kept = us; cuts = cuts })) along rest),
    )

-- A COMPACTION

module _ (c : Catalogue) (o : CabinetOpening) (past : List Cut) (s : CabinetStanding) (kept : List Kept) (known : Stands c o past s) (order : IsPermutation kept s.kept) where
  abbrev cuts : List Cut
  cuts = s.book.cuts

  back : IsPermutation s.kept kept
  back = IsPermutation-sym kept s.kept order

  good : (t : Kept) → ((HoldsOfKept c past s.front s.book.floor t × IsMeta c t.meta) × IsOfLength c t) × (t.place + t.length ≤ c.blob_bytes) → IsGood c o.number s.book.floor cuts t
  good t h = record {
    meta = h.0.0.1;
    size = h.0.1;
    within = h.1;
    given = given_by o t.number (let a = h.0.0.0.given in let b = known.top in omega arith);
    above_floor = h.0.0.0.above_floor;
    newer = all_weaker (Contains past) (λ (k : Cut). IsTrue (hits_of c k.cover t.meta) → k.number < t.number)
        (λ k has hit. all_contained (λ (x : Cut). IsTrue (hits_of c x.cover t.meta) → x.number < t.number) past k h.0.0.0.newer has hit) cuts known.holds.listed;
  }

  all_good : AllByRecursion (IsGood c o.number s.book.floor cuts) kept
  all_good =
      permuted_all (IsGood c o.number s.book.floor cuts) s.kept kept back
      (all_weaker (λ (t : Kept). ((HoldsOfKept c past s.front s.book.floor t × IsMeta c t.meta) × IsOfLength c t) × (t.place + t.length ≤ c.blob_bytes)) (IsGood c o.number s.book.floor cuts) good s.kept
      (all_both (λ (t : Kept). (HoldsOfKept c past s.front s.book.floor t × IsMeta c t.meta) × IsOfLength c t) (λ t. t.place + t.length ≤ c.blob_bytes) s.kept
      (all_both (λ (t : Kept). HoldsOfKept c past s.front s.book.floor t × IsMeta c t.meta) (IsOfLength c) s.kept
      (all_both (HoldsOfKept c past s.front s.book.floor) (λ t. IsMeta c t.meta) s.kept known.holds.kept known.metas) known.lengths) known.regions.within))

  listed_good : AllByRecursion (λ k. IsCoverOf c k.cover × (opening_of k.number ≤ o.number)) cuts
  listed_good =
      all_both (λ (k : Cut). IsCoverOf c k.cover) (λ k. opening_of k.number ≤ o.number) cuts known.covers
      (all_weaker (Contains past) (λ (k : Cut). opening_of k.number ≤ o.number)
      (λ k has. given_by o k.number (let a : k.number ≤ s.front = all_contained (λ (x : Cut). x.number ≤ s.front) past k known.holds.given has in let b = known.top in omega arith)) cuts known.holds.listed)

  abbrev opened : Replayed
  opened = record { opening = Some o.number; floor = s.book.floor; kept = []; cuts = [] }

  abbrev with_cuts : Replayed
  with_cuts = record { opening = Some o.number; floor = s.book.floor; kept = []; cuts = cuts }

  abbrev with_all : Replayed
  with_all = record { opening = Some o.number; floor = s.book.floor; kept = kept; cuts = cuts }

  may_begin : MayOpen unplayed o.number s.book.floor
  may_begin = record { later = tt; given = given_by o s.book.floor (let a = known.holds.floor_given in let b = known.top in omega arith); below = tt }

  -- the records after the first one
  behind : Replays c opened (map (λ r. Some r) (map (λ (k : Cut). record_of.Cut k.number k.cover) cuts ++ map stored_record kept)) with_all
  behind =
      let long : length kept ≤ c.kept_limit = let a = length_permutation s.kept kept back in let b = known.few in omega (arith, a, b) in
      subst (λ (rs : List (Option Record)). Replays c opened rs with_all) (sym (map-append (λ (r : Record). Some r) (map (λ (k : Cut). record_of.Cut k.number k.cover) cuts) (map stored_record kept)))
      (replays_more c opened (map (λ r. Some r) (map (λ (k : Cut). record_of.Cut k.number k.cover) cuts)) with_cuts (map (λ r. Some r) (map stored_record kept)) with_all
      (cuts_replay c o.number s.book.floor [] cuts known.holds.order.by_number tt listed_good)
      (kept_replay c o.number s.book.floor cuts [] kept all_good
      (permuted_two AreTwo two_back s.kept kept back (all_two s.kept known.differ.kept known.once_kept known.regions.disjoint)) long))

  compaction_recorded : IsRecorded c o past s.kept s.book (map (λ r. Some r) (compacted o.number s.book kept))
  compaction_recorded = record {
    reached = with_all;
    replays = (may_begin, subst (λ (n : ℕ). Replays c (record { opening = Some o.number; floor = n; kept = []; cuts = [] }) (map (λ r. Some r) (map (λ (k : Cut). record_of.Cut k.number k.cover) cuts ++ map stored_record kept)) with_all) (omega arith) behind);
    opening_is = refl;
    same_kept = order;
    listed = all_of (Contains cuts) cuts (λ k has. has);
    accounted = all_of (IsAccounted cuts s.book) cuts (λ k has. inl has);
    given = all_weaker (Contains past) (IsBefore o past) (λ k has. inl has) cuts known.holds.listed;
    floor_of = inl (omega arith);
    floor_before = omega arith;
  }

pub compacts_recorded : (s : State) (kept : List Kept) → IsKnown s → IsPermutation kept (now s).kept → IsRecordedIn s (map (λ r. Some r) (compacted s.opening.number (now s).book kept))
compacts_recorded s kept k order = recorded_in s (map (λ r. Some r) (compacted s.opening.number (now s).book kept)) (compaction_recorded s.catalogue s.opening (cuts_of s.history) (now s) kept (stands_in s k) order)
