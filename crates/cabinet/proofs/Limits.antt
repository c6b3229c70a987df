-- What is kept has its lengths, the listed covers are of the catalogue, and there are no more of either than may be.
use Rattle.std.proofs.Common.{ℕ, ◌≡◌, ◌≤◌, Bool, true, false, cond, not, List, [], ◌∷◌, filter, length, Option, Some, refl, arith, length-append}
use Rattle.std.specs.List.{AllByRecursion}
use Rattle.std.proofs.lemmas.List.{length-map}
use Rattle.catalog.specs.declared.catalogue.Catalogue.{Catalogue}
use Rattle.served_covers.specs.OfCatalogue.{IsCoverOf}
use Rattle.truncation_list.specs.declared.book.Cut.{Cut}
use Rattle.truncation_list.specs.declared.cover.Cover.{Cover}
use Rattle.truncation_list.specs.Purge.{goes, purged, remaining}
use Rattle.metatile_locks.proofs.Lists.{all_filter, few}
use Rattle.cabinet.specs.declared.entry.HistoryEntry.{HistoryEntry}
use Rattle.cabinet.specs.declared.entry.HistoryEntry.TheVariants as entry
use Rattle.cabinet.specs.declared.kept.Kept.{Kept}
use Rattle.cabinet.specs.Hits.{hits_of}
use Rattle.cabinet.specs.History.{CabinetOpening, CabinetStanding, History, after, but, first, is_of, least_of, numbers, standing, with_uses}
use Rattle.cabinet.specs.Fresh.{Follows, IsOfLength, May, Possible}
use Rattle.cabinet.proofs.Lists.{all_push}
use Rattle.cabinet.proofs.WithUses.{all_set}

-- what remains after a purge passes what all cuts pass
all_remaining : (P : Cut → Type 0) (cover : Option Cover) (least : Option ℕ) (cuts : List Cut) → AllByRecursion P cuts → AllByRecursion P (remaining cover least cuts)
all_remaining P cover least [] a = tt
all_remaining P cover least (cut ∷ later) a = chosen (goes cover least later cut) (all_remaining P cover least later a.1)
  where
    chosen : (v : Bool) → AllByRecursion P (remaining cover least later) → AllByRecursion P (cond v (remaining cover least later) (cut ∷ remaining cover least later))
    chosen true rest = rest
    chosen false rest = (a.0, rest)

-- what each standing keeps to
record IsLimited (c : Catalogue) (s : CabinetStanding) : Type 0 where
  pub lengths : AllByRecursion (IsOfLength c) s.kept
  pub few : length s.kept ≤ c.kept_limit
  pub covers : AllByRecursion (λ k. IsCoverOf c k.cover) s.book.cuts
  pub few_cuts : length s.book.cuts ≤ c.cut_limit

-- what is kept, and no more of it
fewer : (c : Catalogue) (s t : CabinetStanding) (p : Kept → Bool) → t.kept ≡ filter p s.kept → t.book ≡ s.book → IsLimited c s → IsLimited c t
fewer c s t p kept book l =
    let n = few p s.kept in
    let m = l.few in
    rw (kept, book) (record { lengths = all_filter (IsOfLength c) p s.kept l.lengths; few = omega arith; covers = l.covers; few_cuts = l.few_cuts })

limited_after : (c : Catalogue) (s : CabinetStanding) (e : HistoryEntry) → May c s e → IsLimited c s → IsLimited c (after c s e)
limited_after c s (entry.At n) may l = record { lengths = l.lengths; few = l.few; covers = l.covers; few_cuts = l.few_cuts }
limited_after c s (entry.Started k m) may l = record { lengths = l.lengths; few = l.few; covers = l.covers; few_cuts = l.few_cuts }
limited_after c s (entry.Cut t cover) may l =
    let least = least_of (numbers s.out s.kept) in
    let left = purged (Some cover) least s.book in
    let n = few (λ (x : Kept). not (hits_of c cover x.meta)) s.kept in
    let m = l.few in
    let long = length-append left.cuts (record { number = t; cover = cover } ∷ []) in
    let room = may.2 in
    record {
      lengths = all_filter (IsOfLength c) (λ x. not (hits_of c cover x.meta)) s.kept l.lengths;
      few = omega arith;
      covers = all_push (λ (k : Cut). IsCoverOf c k.cover) left.cuts (record { number = t; cover = cover }) (all_remaining (λ k. IsCoverOf c k.cover) (Some cover) least s.book.cuts l.covers) may.1;
      few_cuts = omega arith;
    }
limited_after c s (entry.Missed t) may l = record { lengths = l.lengths; few = l.few; covers = l.covers; few_cuts = l.few_cuts }
limited_after c s (entry.Stored k m place size n uses) may l =
    let new : Kept = record { number = k; meta = m; place = place; length = size; moment = n; uses = uses } in
    let long = length-append (but m s.kept) (new ∷ []) in
    let room = may.3 in
    record {
      lengths = all_push (IsOfLength c) (but m s.kept) new (all_filter (IsOfLength c) (λ x. not (is_of m x)) s.kept l.lengths) may.1;
      few = omega arith;
      covers = l.covers;
      few_cuts = l.few_cuts;
    }
limited_after c s (entry.Counted m u) may l =
    let same = length-map s.kept (with_uses m u) in
    let room = l.few in
    record { lengths = all_set m u (IsOfLength c) (λ t h. h) s.kept l.lengths; few = omega arith; covers = l.covers; few_cuts = l.few_cuts }
limited_after c s (entry.Ended k) may l = record { lengths = l.lengths; few = l.few; covers = l.covers; few_cuts = l.few_cuts }
limited_after c s (entry.Used m) may l = l
limited_after c s (entry.Dropped m) may l = fewer c s (after c s (entry.Dropped m)) (λ x. not (is_of m x)) refl refl l

limited_run : (c : Catalogue) (s : CabinetStanding) (h : History) → Follows c s h → IsLimited c s → IsLimited c (standing c s h)
limited_run c s [] may l = l
limited_run c s (e ∷ es) may l = limited_run c (after c s e) es may.1 (limited_after c s e may.0 l)

module _ (c : Catalogue) (o : CabinetOpening) (h : History) (p : Possible c o h) where
  limited : IsLimited c (standing c (first o) h)
  limited = limited_run c (first o) h p.follows (record { lengths = p.opens.lengths; few = p.opens.few; covers = p.opens.covers; few_cuts = p.opens.few_cuts })

  pub lengths_are : AllByRecursion (IsOfLength c) (standing c (first o) h).kept
  lengths_are = limited.lengths

  pub few_kept : length (standing c (first o) h).kept ≤ c.kept_limit
  few_kept = limited.few

  pub covers_are : AllByRecursion (λ k. IsCoverOf c k.cover) (standing c (first o) h).book.cuts
  covers_are = limited.covers

  pub few_cuts : length (standing c (first o) h).book.cuts ≤ c.cut_limit
  few_cuts = limited.few_cuts
