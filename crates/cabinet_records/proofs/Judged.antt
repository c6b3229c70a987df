-- What is known of records once one more is shown, and what it says of the records of a version.
use Rattle.std.proofs.Common.{ℕ, zero, suc, ◌≡◌, ◌+◌, ◌<◌, ◌≤◌, ◌==◌, Bool, true, false, cond, not, ◌&&◌, List, [], ◌∷◌, ◌++◌, map, length, drop, Option, Some, None, refl, sym, ap, subst, ◌∙◌, arith, length-append}
use Rattle.std.specs.Prelude.{IsSomeAnd, IsTrue, nat_lt, slice_get}
use Rattle.std.specs.List.{AllByRecursion}
use Rattle.std.proofs.Math.ListN.{drop_of_length-le}
use Rattle.std.proofs.lemmas.Bool.Decides.{nat_tests}
use Rattle.std.proofs.lemmas.List.{drop-append-le}
use Rattle.std.proofs.lemmas.Option.{slice_get_within}
use Rattle.catalog.specs.declared.catalogue.Catalogue.{Catalogue}
use Rattle.record_text.specs.declared.entries.Record.{Record}
use Rattle.record_text.specs.declared.entries.Record.TheVariants as record_of
use Rattle.record_text.specs.Fits.{Fits}
use Rattle.record_text.specs.Old.{IsOld}
use Rattle.record_text.specs.Reading.{entry_of}
use Rattle.record_text.specs.Spelling.{spelling}
use Rattle.record_text.proofs.Back.{entry_back}
use Rattle.record_text.proofs.Decoded.{same_entry}
use Rattle.cabinet_records.specs.Played.{IsPlayed, replayed_of}
use Rattle.cabinet_records.specs.Replay.{AreRecordsOf, IsBadAt, IsLastCut, IsRecordOf, MayFollow, Replayed, Replays, is_cut, replayed, unplayed}
use Rattle.cabinet_records.specs.Shows.{IsCutAt, IsFirstLate, IsLateAt, StandsAt, early_only, first_bad, first_of, is_late, of_version}
use Rattle.cabinet_records.specs.declared.replay.progress.ReplayProgress.{ReplayProgress}
use Rattle.cabinet.proofs.Lists.{all_push}

abbrev Records : Type 0
Records = List (Option Record)

-- ONE MORE THAT MAY BE LATE

pub late_here : (records : Records) (x : Option Record) → AllByRecursion (λ r. is_late r ≡ false) records → is_late x ≡ true → IsFirstLate (records ++ x ∷ []) (length records)
late_here [] x a l = l
late_here (r ∷ rs) x a l = (a.0, late_here rs x a.1 l)

pub late_more : (records : Records) (x : Option Record) (slot : ℕ) → IsFirstLate records slot → IsFirstLate (records ++ x ∷ []) slot
late_more [] x slot h = absurd h
late_more (r ∷ rs) x zero h = h
late_more (r ∷ rs) x (suc slot) h = (h.0, late_more rs x slot h.1)

-- ONE MORE THAT A CACHE MAY NOT HAVE

pub bad_more : (c : Catalogue) (r : Replayed) (records : Records) (x : Option Record) (slot : ℕ) → IsBadAt c r records slot → IsBadAt c r (records ++ x ∷ []) slot
bad_more c r [] x slot h = absurd h
bad_more c r (None ∷ rs) x slot h = h
bad_more c r (Some y ∷ rs) x zero h = h
bad_more c r (Some y ∷ rs) x (suc slot) h = (h.0, bad_more c (replayed c r y) rs x slot h.1)

pub bad_none : (c : Catalogue) (r : Replayed) (records : Records) (t : Replayed) → Replays c r records t → IsBadAt c r (records ++ None ∷ []) (length records)
bad_none c r [] t h = refl
bad_none c r (None ∷ rs) t h = absurd h
bad_none c r (Some y ∷ rs) t h = (h.0, bad_none c (replayed c r y) rs t h.1)

pub bad_here : (c : Catalogue) (r : Replayed) (records : Records) (t : Replayed) (x : Record) → Replays c r records t → (MayFollow c t x → ⊥) → IsBadAt c r (records ++ Some x ∷ []) (length records)
bad_here c r [] t x h off = λ may. off (subst (λ (u : Replayed). MayFollow c u x) (sym h) may)
bad_here c r (None ∷ rs) t x h off = absurd h
bad_here c r (Some y ∷ rs) t x h off = (h.0, bad_here c (replayed c r y) rs t x h.1 off)

-- ONE MORE THAT MAY BE A CUT

got_here : (records : Records) (x : Option Record) → slice_get (records ++ x ∷ []) (length records) ≡ Some x
got_here [] x = refl
got_here (r ∷ rs) x = got_here rs x

got_more : (records : Records) (x : Option Record) (slot : ℕ) (y : Option Record) → slice_get records slot ≡ Some y → slice_get (records ++ x ∷ []) slot ≡ Some y
got_more [] x slot y e = absurd (cc)
got_more (r ∷ rs) x zero y e = e
got_more (r ∷ rs) x (suc slot) y e = got_more rs x slot y e

pub cut_here : (records : Records) (x : Option Record) → is_cut x ≡ true → IsLastCut (records ++ x ∷ []) (length records)
cut_here records x is = record {
  there = subst (λ (o : Option (Option Record)). IsSomeAnd o (λ r. IsTrue (is_cut r))) (sym (got_here records x)) is;
  last = subst (AllByRecursion (λ r. is_cut r ≡ false)) (sym (drop_of_length-le (records ++ x ∷ []) (let n = length-append records (x ∷ []) in omega arith))) tt;
}

pub cut_more : (records : Records) (x : Option Record) (slot : ℕ) → is_cut x ≡ false → IsLastCut records slot → IsLastCut (records ++ x ∷ []) slot
cut_more records x slot off h = chosen (slice_get records slot) refl h.there
  where
    chosen : (o : Option (Option Record)) → slice_get records slot ≡ o → IsSomeAnd o (λ r. IsTrue (is_cut r)) → IsLastCut (records ++ x ∷ []) slot
    chosen None e some = absurd some
    chosen (Some y) e some =
        let l : slot < length records = slice_get_within records slot y e in
        record {
          there = subst (λ (o : Option (Option Record)). IsSomeAnd o (λ r. IsTrue (is_cut r))) (sym (got_more records x slot y e)) some;
          last = subst (AllByRecursion (λ r. is_cut r ≡ false)) (sym (drop-append-le (slot + 1) records (x ∷ []) (omega arith))) (all_push (λ (r : Option Record). is_cut r ≡ false) (drop (slot + 1) records) x h.last off);
        }

pub none_cut : (records : Records) (x : Option Record) (last : Option ℕ) → is_cut x ≡ false → IsCutAt records last → IsCutAt (records ++ x ∷ []) last
none_cut records x None off h = all_push (λ (r : Option Record). is_cut r ≡ false) records x h off
none_cut records x (Some slot) off h = cut_more records x slot off h

-- without a cut none is listed
pub no_cuts : (c : Catalogue) (r : Replayed) (records : Records) (t : Replayed) → Replays c r records t → AllByRecursion (λ x. is_cut x ≡ false) records → t.cuts ≡ r.cuts
no_cuts c r [] t h a = ap (λ (u : Replayed). u.cuts) h
no_cuts c r (None ∷ rs) t h a = absurd h
no_cuts c r (Some x ∷ rs) t h a = no_cuts c (replayed c r x) rs t h.1 a.1 ∙ same x a.0
  where
    same : (x : Record) → is_cut (Some x) ≡ false → (replayed c r x).cuts ≡ r.cuts
    same (record_of.Opened e floor) off = refl
    same (record_of.Stored k m place length moment uses) off = refl
    same (record_of.Dropped k m) off = refl
    same (record_of.Cut t cover) off = absurd (cc)
    same (record_of.Uses k m uses) off = refl

-- BODIES

pub records_push : (version : ℕ) (bodies : List (List ℕ)) (records : Records) (body : List ℕ) (x : Option Record) → AreRecordsOf version bodies records → IsRecordOf version body x → AreRecordsOf version (bodies ++ body ∷ []) (records ++ x ∷ [])
records_push version [] [] body x h r = (r, tt)
records_push version [] (y ∷ ys) body x h r = absurd h
records_push version (b ∷ bs) [] body x h r = absurd h
records_push version (b ∷ bs) (y ∷ ys) body x h r = (h.0, records_push version bs ys body x h.1 r)

-- what is read from a body is its record in version 2
pub read_record : (body : List ℕ) (x : Option Record) → ((r : Record) → (x ≡ Some r → Fits r × (spelling r ≡ body)) × (Fits r × (spelling r ≡ body) → x ≡ Some r)) → IsRecordOf 2 body x
read_record body None is = λ r fits same _. let e = (is r).1 (fits, same) in cc
read_record body (Some x) is = let h = (is x).0 refl in (h.0, h.1, λ e. absurd (omega arith))

-- VERSIONS

old_of : (x : Record) → is_late (Some x) ≡ false → IsOld x
old_of (record_of.Opened e floor) h = tt
old_of (record_of.Stored k m place length moment uses) h = chosen (moment == 0) (uses == 0) refl refl h
  where
    chosen : (v w : Bool) → (moment == 0) ≡ v → (uses == 0) ≡ w → not (v && w) ≡ false → (moment ≡ 0) × (uses ≡ 0)
    chosen true true a b h = (grind (arith, nat_tests), grind (arith, nat_tests))
    chosen true false a b h = absurd (cc)
    chosen false w a b h = absurd (cc)
old_of (record_of.Dropped k m) h = tt
old_of (record_of.Cut t cover) h = tt
old_of (record_of.Uses k m uses) h = absurd (cc)

late_not_old : (x : Record) → is_late (Some x) ≡ true → IsOld x → ⊥
late_not_old (record_of.Opened e floor) h old = cc
late_not_old (record_of.Stored k m place length moment uses) h old =
    let a : (moment == 0) ≡ true = let e = old.0 in grind (arith, nat_tests) in
    let b : (uses == 0) ≡ true = let e = old.1 in grind (arith, nat_tests) in
    let f : not (true && true) ≡ true = subst (λ (v : Bool). not (v && true) ≡ true) a (subst (λ (v : Bool). not ((moment == 0) && v) ≡ true) b h) in
    cc
late_not_old (record_of.Dropped k m) h old = cc
late_not_old (record_of.Cut t cover) h old = cc
late_not_old (record_of.Uses k m uses) h old = old

alone : (a b : Record) → Fits a → Fits b → spelling a ≡ spelling b → a ≡ b
alone a b fits_a fits_b same = same_entry a b (sym (entry_back a fits_a) ∙ ap entry_of same ∙ entry_back b fits_b)

one_at : (body : List ℕ) (x : Option Record) → IsRecordOf 2 body x → IsRecordOf 1 body (early_only x)
one_at body None h = λ r fits same _. h r fits same (λ e. absurd (omega arith))
one_at body (Some x) h = chosen (is_late (Some x)) refl
  where
    chosen : (v : Bool) → is_late (Some x) ≡ v → IsRecordOf 1 body (cond v None (Some x))
    chosen true is = λ r fits same old. let e : r ≡ x = alone r x fits h.0 (same ∙ sym h.1) in late_not_old x is (subst IsOld e (old refl))
    chosen false is = (h.0, h.1, λ e. old_of x is)

all_one : (bodies : List (List ℕ)) (records : Records) → AreRecordsOf 2 bodies records → AreRecordsOf 1 bodies (map early_only records)
all_one [] [] h = tt
all_one [] (y ∷ ys) h = absurd h
all_one (b ∷ bs) [] h = absurd h
all_one (b ∷ bs) (y ∷ ys) h = (one_at b y h.0, all_one bs ys h.1)

other_at : (version : ℕ) (body : List ℕ) (x : Option Record) → (version ≡ 1 → ⊥) → IsRecordOf 2 body x → IsRecordOf version body x
other_at version body None off h = λ r fits same old. h r fits same (λ e. absurd (omega arith))
other_at version body (Some x) off h = (h.0, h.1, λ e. absurd (off e))

all_other : (version : ℕ) (bodies : List (List ℕ)) (records : Records) → (version ≡ 1 → ⊥) → AreRecordsOf 2 bodies records → AreRecordsOf version bodies records
all_other version [] [] off h = tt
all_other version [] (y ∷ ys) off h = absurd h
all_other version (b ∷ bs) [] off h = absurd h
all_other version (b ∷ bs) (y ∷ ys) off h = (other_at version b y off h.0, all_other version bs ys off h.1)

pub of_bodies : (version : ℕ) (bodies : List (List ℕ)) (records : Records) → AreRecordsOf 2 bodies records → AreRecordsOf version bodies (of_version version records)
of_bodies version bodies records h = chosen (version == 1) refl
  where
    chosen : (v : Bool) → (version == 1) ≡ v → AreRecordsOf version bodies (cond v (map early_only records) records)
    chosen true is = let e : version ≡ 1 = grind (arith, nat_tests) in subst (λ (n : ℕ). AreRecordsOf n bodies (map early_only records)) (sym e) (all_one bodies records h)
    chosen false is = all_other version bodies records (λ e. let f : (version == 1) ≡ true = grind (arith, nat_tests) in cc) h

-- THE FIRST THAT NO CACHE HAS IN A VERSION

early : (x : Option Record) → is_late x ≡ false → early_only x ≡ x
early x off = ap (λ (v : Bool). cond v None x) off

gone : (x : Option Record) → is_late x ≡ true → early_only x ≡ None
gone x is = ap (λ (v : Bool). cond v None x) is

all_early : (records : Records) → AllByRecursion (λ r. is_late r ≡ false) records → map early_only records ≡ records
all_early [] a = refl
all_early (r ∷ rs) a = λ i. early r a.0 i ∷ all_early rs a.1 i

module _ (c : Catalogue) where
  gone_bad : (r : Replayed) (x : Option Record) (rest : Records) → is_late x ≡ true → IsBadAt c r (early_only x ∷ rest) 0
  gone_bad r x rest is = subst (λ (y : Option Record). IsBadAt c r (y ∷ rest) 0) (sym (gone x is)) refl

  late_bad : (r : Replayed) (records : Records) (slot : ℕ) (t : Replayed) → IsFirstLate records slot → Replays c r records t → IsBadAt c r (map early_only records) slot
  late_bad r [] slot t l h = absurd l
  late_bad r (x ∷ rs) zero t l h = gone_bad r x (map early_only rs) l
  late_bad r (None ∷ rs) (suc slot) t l h = absurd h
  late_bad r (Some x ∷ rs) (suc slot) t l h =
      subst (λ (y : Option Record). IsBadAt c r (y ∷ map early_only rs) (suc slot)) (sym (early (Some x) l.0)) (h.0, late_bad (replayed c r x) rs slot t l.1 h.1)

  late_first : (r : Replayed) (records : Records) (slot bad : ℕ) → IsFirstLate records slot → IsBadAt c r records bad → slot < bad → IsBadAt c r (map early_only records) slot
  late_first r [] slot bad l h less = absurd l
  late_first r (x ∷ rs) zero bad l h less = gone_bad r x (map early_only rs) l
  late_first r (None ∷ rs) (suc slot) bad l h less = absurd (let f = l.0 in cc)
  late_first r (Some x ∷ rs) (suc slot) zero l h less = absurd (omega arith)
  late_first r (Some x ∷ rs) (suc slot) (suc bad) l h less =
      subst (λ (y : Option Record). IsBadAt c r (y ∷ map early_only rs) (suc slot)) (sym (early (Some x) l.0)) (h.0, late_first (replayed c r x) rs slot bad l.1 h.1 (omega arith))

  bad_first : (r : Replayed) (records : Records) (slot bad : ℕ) → IsFirstLate records slot → IsBadAt c r records bad → bad ≤ slot → IsBadAt c r (map early_only records) bad
  bad_first r [] slot bad l h less = absurd l
  bad_first r (None ∷ rs) slot bad l h less = h
  bad_first r (Some x ∷ rs) slot zero l h less = chosen (is_late (Some x))
    where
      chosen : (v : Bool) → IsBadAt c r (cond v None (Some x) ∷ map early_only rs) 0
      chosen true = refl
      chosen false = h
  bad_first r (Some x ∷ rs) zero (suc bad) l h less = absurd (omega arith)
  bad_first r (Some x ∷ rs) (suc slot) (suc bad) l h less =
      subst (λ (y : Option Record). IsBadAt c r (y ∷ map early_only rs) (suc bad)) (sym (early (Some x) l.0)) (h.0, bad_first (replayed c r x) rs slot bad l.1 h.1 (omega arith))

  both_bad : (records : Records) (slot bad s : ℕ) → IsFirstLate records slot → IsBadAt c unplayed records bad → (v : Bool) → nat_lt slot bad ≡ v → cond v (Some slot) (Some bad) ≡ Some s → IsBadAt c unplayed (map early_only records) s
  both_bad records slot bad s l h true is e = let d : slot ≡ s = cc in subst (IsBadAt c unplayed (map early_only records)) d (late_first unplayed records slot bad l h (grind (arith, nat_tests)))
  both_bad records slot bad s l h false is e = let d : bad ≡ s = cc in subst (IsBadAt c unplayed (map early_only records)) d (bad_first unplayed records slot bad l h (grind (arith, nat_tests)))

  -- in version 1
  first_is : (records : Records) (p : ReplayProgress) (bad later : Option ℕ) (s : ℕ) → StandsAt c records p bad → IsLateAt records later → first_of bad later ≡ Some s → IsBadAt c unplayed (map early_only records) s
  first_is records p None None s st l e = absurd (cc)
  first_is records p None (Some slot) s st l e = let d : slot ≡ s = cc in subst (IsBadAt c unplayed (map early_only records)) d (late_bad unplayed records slot (replayed_of p) l st.0)
  first_is records p (Some bad) None s st l e = let d : bad ≡ s = cc in subst (λ (rs : Records). IsBadAt c unplayed rs s) (sym (all_early records l)) (subst (IsBadAt c unplayed records) d st)
  first_is records p (Some bad) (Some slot) s st l e = both_bad records slot bad s l st (nat_lt slot bad) refl e

  as_it_is : (records : Records) (p : ReplayProgress) (bad : Option ℕ) (s : ℕ) → StandsAt c records p bad → bad ≡ Some s → IsBadAt c unplayed records s
  as_it_is records p None s st e = absurd (cc)
  as_it_is records p (Some bad) s st e = let d : bad ≡ s = cc in subst (IsBadAt c unplayed records) d st

  pub is_first_bad : (version : ℕ) (records : Records) (p : ReplayProgress) (bad later : Option ℕ) (s : ℕ) → StandsAt c records p bad → IsLateAt records later → first_bad version bad later ≡ Some s → IsBadAt c unplayed (of_version version records) s
  is_first_bad version records p bad later s st l e = chosen (version == 1) e
    where
      chosen : (v : Bool) → cond v (first_of bad later) bad ≡ Some s → IsBadAt c unplayed (cond v (map early_only records) records) s
      chosen true e = first_is records p bad later s st l e
      chosen false e = as_it_is records p bad s st e

  -- where there is none, all are of the version, and they come to what is held
  pub record IsWhole (version : ℕ) (records : Records) (p : ReplayProgress) : Type 0 where
    pub version_is : of_version version records ≡ records
    pub replays : Replays c unplayed records (replayed_of p)
    pub played : IsPlayed c (length records) p

  none_in : (records : Records) (p : ReplayProgress) (bad later : Option ℕ) → StandsAt c records p bad → IsLateAt records later → first_of bad later ≡ None → (bad ≡ None) × (map early_only records ≡ records)
  none_in records p None None st l e = (refl, all_early records l)
  none_in records p None (Some slot) st l e = absurd (cc)
  none_in records p (Some bad) None st l e = absurd (cc)
  none_in records p (Some bad) (Some slot) st l e = absurd (chosen (nat_lt slot bad) e)
    where
      chosen : (v : Bool) → ◌≡◌ {A = Option ℕ} (cond v (Some slot) (Some bad)) None → ⊥
      chosen true e = cc
      chosen false e = cc

  stands_none : (records : Records) (p : ReplayProgress) (bad : Option ℕ) → StandsAt c records p bad → bad ≡ None → Replays c unplayed records (replayed_of p) × IsPlayed c (length records) p
  stands_none records p bad st e = subst (StandsAt c records p) e st

  pub none_bad : (version : ℕ) (records : Records) (p : ReplayProgress) (bad later : Option ℕ) → StandsAt c records p bad → IsLateAt records later → first_bad version bad later ≡ None → IsWhole version records p
  none_bad version records p bad later st l e = chosen (version == 1) refl e
    where
      chosen : (v : Bool) → (version == 1) ≡ v → cond v (first_of bad later) bad ≡ None → IsWhole version records p
      chosen true is e =
          let n = none_in records p bad later st l e in
          let s = stands_none records p bad st n.0 in
          record { version_is = ap (λ (v : Bool). cond v (map early_only records) records) is ∙ n.1; replays = s.0; played = s.1 }
      chosen false is e =
          let s = stands_none records p bad st e in
          record { version_is = ap (λ (v : Bool). cond v (map early_only records) records) is; replays = s.0; played = s.1 }
