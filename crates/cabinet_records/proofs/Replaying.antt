-- What the records of a journal come to keeps, record by record, to what an opening keeps to.
use Rattle.std.proofs.Common.{ℕ, ◌≡◌, ◌≢◌, ◌+◌, ◌<◌, ◌≤◌, max, Bool, true, false, cond, not, List, [], ◌∷◌, ◌++◌, filter, map, length, Option, Some, None, IsTrue, refl, sym, ap, subst, ◌∙◌, inl, inr, arith, length-append}
use Rattle.std.specs.Prelude.{IfSome}
use Rattle.std.specs.List.{AllByRecursion}
use Rattle.std.specs.Option.{option_map_or}
use Rattle.std.proofs.lemmas.Bool.{cases_lt}
use Rattle.std.proofs.lemmas.List.{length-map}
use Rattle.std.proofs.lemmas.List.Elements.{All-from_recursion, All-nil}
use Rattle.catalog.specs.declared.catalogue.Catalogue.{Catalogue}
use Rattle.catalog.specs.Valid.{IsValid}
use Rattle.extent_map.specs.declared.part.Extent.{Extent}
use Rattle.extent_map.specs.Parts.{AreApart}
use Rattle.metatile_locks.proofs.Lists.{all_filter, all_map, all_passed, all_weaker, few}
use Rattle.metatile_plan.specs.declared.metatile.MetaKey.{MetaKey}
use Rattle.raster_field.specs.Blocks.{IsMeta}
use Rattle.record_text.specs.declared.entries.Record.{Record}
use Rattle.record_text.specs.declared.entries.Record.TheVariants as record_of
use Rattle.served_covers.specs.OfCatalogue.{IsCoverOf}
use Rattle.truncation_list.specs.declared.book.Cut.{Cut}
use Rattle.truncation_list.specs.declared.cover.Cover.{Cover}
use Rattle.truncation_list.specs.Covers.{IsWithinReach}
use Rattle.truncation_list.specs.Purge.{IsAbove, IsInOrder}
use Rattle.truncation_list.proofs.Remaining.{in_order_with}
use Rattle.cabinet.specs.declared.kept.Kept.{Kept}
use Rattle.cabinet.specs.Fresh.{ApartBy, IsNewer, IsOfLength}
use Rattle.cabinet.specs.Gaps.{AreDisjoint, region}
use Rattle.cabinet.specs.History.{but, is_of, with_uses}
use Rattle.cabinet.specs.Hits.{hits_of}
use Rattle.cabinet_records.specs.Replay.{MayCut, MayFollow, MayOpen, MayStore, Replayed, Replays, opening_number, opening_of, replayed, unplayed}
use Rattle.cabinet.proofs.Disjoint.{blob_some}
use Rattle.cabinet.proofs.Lists.{all_both, all_push}
use Rattle.cabinet.proofs.Numbers.{apart_filter, apart_push}
use Rattle.cabinet.proofs.Once.{but_apart}

-- WHAT IS KEPT TO

-- one that is kept: its number was given by the opening e, and is above the floor and each cut that hits it; it is of the catalogue, and
-- its region of its blob's length, of at least one byte, lies within the blobs' bytes
pub record IsSoundKept (c : Catalogue) (cuts : List Cut) (e floor : ℕ) (t : Kept) : Type 0 where
  pub given : opening_of t.number ≤ e
  pub above_floor : floor < t.number
  pub newer : IsNewer c cuts t.number t.meta
  pub meta : IsMeta c t.meta
  pub long : IsOfLength c t
  pub some : 1 ≤ t.length
  pub within : t.place + t.length ≤ c.blob_bytes

-- one that is kept after these records
abbrev pub IsSoundIn : Catalogue → Replayed → Kept → Type 0
IsSoundIn c r t = IsSoundKept c r.cuts (opening_number r) r.floor t

-- any two that are kept: they differ in number and metatile, and no byte lies in the regions of both
pub record AreDistinct (kept : List Kept) : Type 0 where
  pub numbers : ApartBy (λ t. t.number) kept
  pub once : ApartBy (λ t. t.meta) kept
  pub disjoint : AreDisjoint kept

-- all of it: the floor and the cuts too were given by the last opening, the cuts stand in order and are of the catalogue, and no more are kept
-- than may be
pub record IsSound (c : Catalogue) (r : Replayed) : Type 0 where
  pub floor_given : opening_of r.floor ≤ opening_number r
  pub cuts_given : AllByRecursion (λ k. opening_of k.number ≤ opening_number r) r.cuts
  pub order : IsInOrder r.cuts
  pub covers : AllByRecursion (λ k. IsCoverOf c k.cover) r.cuts
  pub kept : AllByRecursion (IsSoundIn c r) r.kept
  pub distinct : AreDistinct r.kept
  pub few : length r.kept ≤ c.kept_limit

-- before the first record
nothing_yet : (c : Catalogue) → IsSound c unplayed
nothing_yet c = record {
  floor_given = omega arith;
  cuts_given = tt;
  order = record { by_number = tt; within_reach = All-nil (λ (k : Cut). IsWithinReach k.cover) };
  covers = tt;
  kept = tt;
  distinct = record { numbers = tt; once = tt; disjoint = tt };
  few = omega arith;
}

-- FEWER, ONE MORE, AND THE SAME

disjoint_filter : (p : Kept → Bool) (ts : List Kept) → AreDisjoint ts → AreDisjoint (filter p ts)
disjoint_filter p [] a = tt
disjoint_filter p (t ∷ ts) a = chosen (p t) (disjoint_filter p ts a.1)
  where
    chosen : (v : Bool) → AreDisjoint (filter p ts) → AreDisjoint (cond v (t ∷ filter p ts) (filter p ts))
    chosen true rest = (all_filter (λ u. AreApart (region t) (region u)) p ts a.0, rest)
    chosen false rest = rest

disjoint_push : (ts : List Kept) (u : Kept) → AreDisjoint ts → AllByRecursion (λ t. AreApart (region t) (region u)) ts → AreDisjoint (ts ++ u ∷ [])
disjoint_push [] u a b = (tt, tt)
disjoint_push (t ∷ ts) u a b = (all_push (λ x. AreApart (region t) (region x)) ts u a.0 b.0, disjoint_push ts u a.1 b.1)

other_side : (p q : Extent) → AreApart p q → AreApart q p
other_side p q (inl a) = inr a
other_side p q (inr b) = inl b

distinct_filter : (p : Kept → Bool) (ts : List Kept) → AreDistinct ts → AreDistinct (filter p ts)
distinct_filter p ts a = record {
  numbers = apart_filter (λ (x : Kept). x.number) p ts a.numbers;
  once = apart_filter (λ (x : Kept). x.meta) p ts a.once;
  disjoint = disjoint_filter p ts a.disjoint;
}

-- a map that leaves as it is what is told apart
apart_same : {Y : Type 0} (h : Kept → Y) (f : Kept → Kept) → ((t : Kept) → h (f t) ≡ h t) → (ts : List Kept) → ApartBy h ts → ApartBy h (map f ts)
apart_same h f same [] a = tt
apart_same h f same (t ∷ ts) a = (
  all_map f (λ y. h (f t) ≢ h y) ts (all_weaker (λ y. h t ≢ h y) (λ y. h (f t) ≢ h (f y)) (λ y off e. off (sym (same t) ∙ e ∙ same y)) ts a.0),
  apart_same h f same ts a.1,
)

disjoint_same : (f : Kept → Kept) → ((t : Kept) → region (f t) ≡ region t) → (ts : List Kept) → AreDisjoint ts → AreDisjoint (map f ts)
disjoint_same f same [] a = tt
disjoint_same f same (t ∷ ts) a = (
  all_map f (λ y. AreApart (region (f t)) (region y)) ts
      (all_weaker (λ y. AreApart (region t) (region y)) (λ y. AreApart (region (f t)) (region (f y)))
      (λ y h. subst (λ (p : Extent). AreApart p (region (f y))) (sym (same t)) (subst (λ (q : Extent). AreApart (region t) q) (sym (same y)) h)) ts a.0),
  disjoint_same f same ts a.1,
)

-- OPENED

-- the greater of two numbers has what both have
greater_has : (P : ℕ → Type 0) (a b : ℕ) → P a → P b → P (max a b)
greater_has P a b h k = elim (cases_lt a b) [
  | inl under ↦ let e : b ≡ max a b = omega arith in subst P e k
  | inr over ↦ let e : a ≡ max a b = omega arith in subst P e h
]

-- opening numbers rise
risen : (o : Option ℕ) (e : ℕ) → IfSome o (λ before. before < e) → option_map_or (λ n. n) o 0 ≤ e
risen None e h = omega arith
risen (Some n) e h = omega arith

given_still : (n before e : ℕ) → before ≤ e → n ≤ before → n ≤ e
given_still n before e up given = omega arith

opened : (c : Catalogue) (r : Replayed) (e floor : ℕ) → IsSound c r → MayOpen r e floor → IsSound c (replayed c r (record_of.Opened e floor))
opened c r e floor s may =
    let up = risen r.opening e may.later in
    record {
      floor_given = greater_has (λ n. opening_of n ≤ e) r.floor floor (given_still (opening_of r.floor) (opening_number r) e up s.floor_given) may.given;
      cuts_given = all_weaker (λ (k : Cut). opening_of k.number ≤ opening_number r) (λ k. opening_of k.number ≤ e)
          (λ k given. given_still (opening_of k.number) (opening_number r) e up given) r.cuts s.cuts_given;
      order = s.order;
      covers = s.covers;
      kept = all_weaker (λ t. IsSoundIn c r t × (floor < t.number)) (IsSoundKept c r.cuts e (max r.floor floor))
          (λ t h. record {
            given = given_still (opening_of t.number) (opening_number r) e up h.0.given;
            above_floor = greater_has (λ n. n < t.number) r.floor floor h.0.above_floor h.1;
            newer = h.0.newer;
            meta = h.0.meta;
            long = h.0.long;
            some = h.0.some;
            within = h.0.within;
          }) r.kept (all_both (IsSoundIn c r) (λ t. floor < t.number) r.kept s.kept may.below);
      distinct = s.distinct;
      few = s.few;
    }

-- STORED, DROPPED

stored : (c : Catalogue) (r : Replayed) (t : Kept) → IsValid c → IsSound c r → MayStore c r t → IsSound c (replayed c r (record_of.Stored t.number t.meta t.place t.length t.moment t.uses))
stored c r t valid s may =
    let rest = distinct_filter (λ x. not (is_of t.meta x)) r.kept s.distinct in
    let long = length-append (but t.meta r.kept) (t ∷ []) in
    let room = may.few in
    record {
      floor_given = s.floor_given;
      cuts_given = s.cuts_given;
      order = s.order;
      covers = s.covers;
      kept = all_push (IsSoundIn c r) (but t.meta r.kept) t (all_filter (IsSoundIn c r) (λ x. not (is_of t.meta x)) r.kept s.kept) (record {
        given = may.given;
        above_floor = may.above_floor;
        newer = may.newer;
        meta = may.meta;
        long = may.size;
        some = subst (λ (n : ℕ). 1 ≤ n) (sym may.size) (blob_some c t.meta valid may.meta);
        within = may.within;
      });
      distinct = record {
        numbers = apart_push (λ (x : Kept). x.number) (but t.meta r.kept) t rest.numbers
            (all_weaker (λ (x : Kept). t.number ≢ x.number) (λ x. x.number ≢ t.number) (λ x off e. off (sym e)) (but t.meta r.kept) may.own);
        once = apart_push (λ (x : Kept). x.meta) (but t.meta r.kept) t rest.once (but_apart t.meta r.kept);
        disjoint = disjoint_push (but t.meta r.kept) t rest.disjoint
            (all_weaker (λ (x : Kept). AreApart (region t) (region x)) (λ x. AreApart (region x) (region t)) (λ x apart. other_side (region t) (region x) apart) (but t.meta r.kept) may.apart);
      };
      few = omega arith;
    }

dropped : (c : Catalogue) (r : Replayed) (k : ℕ) (m : MetaKey) → IsSound c r → IsSound c (replayed c r (record_of.Dropped k m))
dropped c r k m s =
    let fewer = few (λ (x : Kept). not (is_of m x)) r.kept in
    let room = s.few in
    record {
      floor_given = s.floor_given;
      cuts_given = s.cuts_given;
      order = s.order;
      covers = s.covers;
      kept = all_filter (IsSoundIn c r) (λ x. not (is_of m x)) r.kept s.kept;
      distinct = distinct_filter (λ x. not (is_of m x)) r.kept s.distinct;
      few = omega arith;
    }

-- CUT

-- one that the cut doesn't hit
missed : (c : Catalogue) (cuts : List Cut) (e floor : ℕ) (new : Cut) (t : Kept) → not (hits_of c new.cover t.meta) ≡ true → IsSoundKept c cuts e floor t → IsSoundKept c (cuts ++ new ∷ []) e floor t
missed c cuts e floor new t miss h = record {
  given = h.given;
  above_floor = h.above_floor;
  newer = all_push (λ (k : Cut). IsTrue (hits_of c k.cover t.meta) → k.number < t.number) cuts new h.newer (λ hit. absurd (let f : not (hits_of c new.cover t.meta) ≡ not true = ap not hit in cc));
  meta = h.meta;
  long = h.long;
  some = h.some;
  within = h.within;
}

cut : (c : Catalogue) (r : Replayed) (t : ℕ) (cover : Cover) → IsSound c r → MayCut c r t cover → IsSound c (replayed c r (record_of.Cut t cover))
cut c r t cover s may =
    let new : Cut = record { number = t; cover = cover } in
    let above : IsAbove t r.cuts = All-from_recursion (λ (k : Cut). k.number < t) r.cuts may.above in
    let fewer = few (λ (x : Kept). not (hits_of c cover x.meta)) r.kept in
    let room = s.few in
    record {
      floor_given = s.floor_given;
      cuts_given = all_push (λ (k : Cut). opening_of k.number ≤ opening_number r) r.cuts new s.cuts_given may.given;
      order = in_order_with r.cuts new s.order above may.cover_of.reach;
      covers = all_push (λ (k : Cut). IsCoverOf c k.cover) r.cuts new s.covers may.cover_of;
      kept = all_passed (IsSoundIn c r) (IsSoundKept c (r.cuts ++ new ∷ []) (opening_number r) r.floor) (λ x. not (hits_of c cover x.meta))
          (missed c r.cuts (opening_number r) r.floor new) r.kept s.kept;
      distinct = distinct_filter (λ x. not (hits_of c cover x.meta)) r.kept s.distinct;
      few = omega arith;
    }

-- USES

abbrev counted : ℕ → Kept → Kept
counted n t = record { number = t.number; meta = t.meta; place = t.place; length = t.length; moment = t.moment; uses = n }

-- one of which the uses are set has what it has whatever its uses are, and what is the same at any uses stays
set_has : (P : Kept → Type 0) (m : MetaKey) (n : ℕ) → ((t : Kept) → P t → P (counted n t)) → (t : Kept) → P t → P (with_uses m n t)
set_has P m n f t h = chosen (is_of m t)
  where
    chosen : (v : Bool) → P (cond v (counted n t) t)
    chosen true = f t h
    chosen false = h

set_same : {Y : Type 0} (h : Kept → Y) (m : MetaKey) (n : ℕ) → ((t : Kept) → h (counted n t) ≡ h t) → (t : Kept) → h (with_uses m n t) ≡ h t
set_same h m n f t = chosen (is_of m t)
  where
    chosen : (v : Bool) → h (cond v (counted n t) t) ≡ h t
    chosen true = f t
    chosen false = refl

set_sound : (c : Catalogue) (cuts : List Cut) (e floor n : ℕ) (t : Kept) → IsSoundKept c cuts e floor t → IsSoundKept c cuts e floor (counted n t)
set_sound c cuts e floor n t h = record { given = h.given; above_floor = h.above_floor; newer = h.newer; meta = h.meta; long = h.long; some = h.some; within = h.within }

uses_set : (c : Catalogue) (r : Replayed) (k : ℕ) (m : MetaKey) (n : ℕ) → IsSound c r → IsSound c (replayed c r (record_of.Uses k m n))
uses_set c r k m n s =
    let same = length-map r.kept (with_uses m n) in
    let room = s.few in
    record {
      floor_given = s.floor_given;
      cuts_given = s.cuts_given;
      order = s.order;
      covers = s.covers;
      kept = all_map (with_uses m n) (IsSoundIn c r) r.kept
          (all_weaker (IsSoundIn c r) (λ t. IsSoundIn c r (with_uses m n t))
          (set_has (IsSoundIn c r) m n (set_sound c r.cuts (opening_number r) r.floor n)) r.kept s.kept);
      distinct = record {
        numbers = apart_same (λ (t : Kept). t.number) (with_uses m n) (set_same (λ (t : Kept). t.number) m n (λ t. refl)) r.kept s.distinct.numbers;
        once = apart_same (λ (t : Kept). t.meta) (with_uses m n) (set_same (λ (t : Kept). t.meta) m n (λ t. refl)) r.kept s.distinct.once;
        disjoint = disjoint_same (with_uses m n) (set_same region m n (λ t. refl)) r.kept s.distinct.disjoint;
      };
      few = omega arith;
    }

-- ALL RECORDS

sound_step : (c : Catalogue) (r : Replayed) (x : Record) → IsValid c → IsSound c r → MayFollow c r x → IsSound c (replayed c r x)
sound_step c r (record_of.Opened e floor) valid s may = opened c r e floor s may
sound_step c r (record_of.Stored k m place length moment uses) valid s may = stored c r (record { number = k; meta = m; place = place; length = length; moment = moment; uses = uses }) valid s may
sound_step c r (record_of.Dropped k m) valid s may = dropped c r k m s
sound_step c r (record_of.Cut t cover) valid s may = cut c r t cover s may
sound_step c r (record_of.Uses k m uses) valid s may = uses_set c r k m uses s

sound_run : (c : Catalogue) (r : Replayed) (records : List (Option Record)) (t : Replayed) → IsValid c → IsSound c r → Replays c r records t → IsSound c t
sound_run c r [] t valid s h = subst (IsSound c) (sym h) s
sound_run c r (None ∷ records) t valid s h = absurd h
sound_run c r (Some x ∷ records) t valid s h = sound_run c (replayed c r x) records t valid (sound_step c r x valid s h.0) h.1

pub sound_is : (c : Catalogue) (records : List (Option Record)) (r : Replayed) → IsValid c → Replays c unplayed records r → IsSound c r
sound_is c records r valid h = sound_run c unplayed records r valid (nothing_yet c) h
