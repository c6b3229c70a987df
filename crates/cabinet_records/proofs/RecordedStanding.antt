-- What records say of what stands, and what is known of that.
use Rattle.std.proofs.Common.{ℕ, ◌≡◌, ◌+◌, ◌-◌, ◌*◌, ◌/◌, ◌^◌, ◌<◌, ◌≤◌, ◌⊎◌, not, List, [], ◌∷◌, ◌++◌, length, Option, Some, None, refl, sym, ap, subst, inl, inr, arith}
use Rattle.std.specs.List.{AllByRecursion, Contains}
use Rattle.std.specs.List.Sorted.{IsPermutation}
use Rattle.std.specs.Option.{option_map_or}
use Rattle.std.proofs.Math.Nat.{div-mul-le_self, mul-le-mul}
use Rattle.std.proofs.lemmas.Bool.{cases_lt}
use Rattle.std.proofs.lemmas.Grind.{fold-append}
use Rattle.catalog.specs.declared.catalogue.Catalogue.{Catalogue}
use Rattle.catalog.specs.Valid.{IsValid}
use Rattle.metatile_locks.specs.declared.render.Render.{Render}
use Rattle.metatile_locks.specs.Running.{has_number, marked, unmarked}
use Rattle.metatile_locks.proofs.Lists.{all_filter, all_map, all_weaker}
use Rattle.metatile_locks.proofs.Runs.{marked_is}
use Rattle.raster_field.specs.Blocks.{IsMeta}
use Rattle.record_text.specs.declared.entries.Record.{Record}
use Rattle.served_covers.specs.OfCatalogue.{IsCoverOf}
use Rattle.truncation_list.specs.declared.book.Book.{Book}
use Rattle.truncation_list.specs.declared.book.Cut.{Cut}
use Rattle.cabinet.specs.declared.entry.HistoryEntry.{HistoryEntry}
use Rattle.cabinet.specs.declared.entry.HistoryEntry.TheVariants as entry
use Rattle.cabinet.specs.declared.kept.Kept.{Kept}
use Rattle.cabinet.specs.declared.kept.KeptBlob.{KeptBlob}
use Rattle.cabinet.specs.Fresh.{ApartBy, Differ, Follows, HoldsAfterCuts, IsOfLength, May, cuts_after, cuts_of}
use Rattle.cabinet.specs.Gaps.{HaveRegions}
use Rattle.cabinet.specs.History.{CabinetOpening, CabinetStanding, History, after, first, first_front, last_number, standing}
use Rattle.cabinet.specs.Hits.{hits_of}
use Rattle.cabinet_records.specs.Recorded.{IsAccounted, IsFloorOf, IsRecordedIn}
use Rattle.cabinet_records.specs.Replay.{MayFollow, Replayed, Replays, opening_number, opening_of, replayed, unplayed}
use Rattle.cabinet.specs.State.{IsKnown, State, grown, now}
use Rattle.cabinet.proofs.Disjoint.{regions_are}
use Rattle.cabinet.proofs.Holding.{holds_of}
use Rattle.cabinet.proofs.Limits.{covers_are, few_cuts, few_kept, lengths_are}
use Rattle.cabinet.proofs.Lists.{all_push}
use Rattle.cabinet.proofs.Numbers.{differ_is}
use Rattle.cabinet.proofs.Once.{once}
use Rattle.cabinet.proofs.Rooted.{metas_of}
use Rattle.cabinet.proofs.Rows.{now_more}

-- WHAT RECORDS SAY

-- the cut is of the history, or its number was given before the opening
abbrev pub IsBefore : CabinetOpening → List Cut → Cut → Type 0
IsBefore o past k = Contains past k ⊎ (k.number ≤ first_front o)

-- of a catalogue, an opening, the cuts of a history, what is kept and a book
pub record IsRecorded (c : Catalogue) (o : CabinetOpening) (past : List Cut) (kept : List Kept) (book : Book) (records : List (Option Record)) : Type 0 where
  pub reached : Replayed
  pub replays : Replays c unplayed records reached
  pub opening_is : reached.opening ≡ Some o.number
  pub same_kept : IsPermutation reached.kept kept
  pub listed : AllByRecursion (Contains reached.cuts) book.cuts
  pub accounted : AllByRecursion (IsAccounted reached.cuts book) reached.cuts
  pub given : AllByRecursion (IsBefore o past) reached.cuts
  pub floor_of : IsFloorOf reached book.floor
  pub floor_before : reached.floor ≤ book.floor

pub recorded_of : (s : State) (records : List (Option Record)) → IsRecordedIn s records → IsRecorded s.catalogue s.opening (cuts_of s.history) (now s).kept (now s).book records
recorded_of s records r = record {
  reached = r.replayed;
  replays = r.replays;
  opening_is = r.opening;
  same_kept = r.kept;
  listed = r.listed;
  accounted = r.accounted;
  given = r.past;
  floor_of = r.floor;
  floor_before = r.floor_before;
}

pub recorded_in : (s : State) (records : List (Option Record)) → IsRecorded s.catalogue s.opening (cuts_of s.history) (now s).kept (now s).book records → IsRecordedIn s records
recorded_in s records r = record {
  replayed = r.reached;
  replays = r.replays;
  opening = r.opening_is;
  kept = r.same_kept;
  listed = r.listed;
  accounted = r.accounted;
  past = r.given;
  floor = r.floor_of;
  floor_before = r.floor_before;
}

-- nothing of it changes
pub recorded_alike : (s new : State) (records : List (Option Record)) → IsRecordedIn s records → new.catalogue ≡ s.catalogue → new.opening ≡ s.opening → (now new).kept ≡ (now s).kept → (now new).book ≡ (now s).book → cuts_of new.history ≡ cuts_of s.history
    → IsRecordedIn new records
recorded_alike s new records r catalogue opening kept book past =
    recorded_in new records
    (subst (λ (c : Catalogue). IsRecorded c new.opening (cuts_of new.history) (now new).kept (now new).book records) (sym catalogue)
    (subst (λ (o : CabinetOpening). IsRecorded s.catalogue o (cuts_of new.history) (now new).kept (now new).book records) (sym opening)
    (subst (λ (ks : List Cut). IsRecorded s.catalogue s.opening ks (now new).kept (now new).book records) (sym past)
    (subst (λ (ts : List Kept). IsRecorded s.catalogue s.opening (cuts_of s.history) ts (now new).book records) (sym kept)
    (subst (λ (b : Book). IsRecorded s.catalogue s.opening (cuts_of s.history) (now s).kept b records) (sym book) (recorded_of s records r))))))

-- a cabinet after one more entry
pub recorded_more : (s : State) (e : HistoryEntry) (blobs : Option (List KeptBlob)) (records : List (Option Record))
    → IsRecorded s.catalogue s.opening (cuts_after (cuts_of s.history) e) (after s.catalogue (now s) e).kept (after s.catalogue (now s) e).book records → IsRecordedIn (grown s e blobs) records
recorded_more s e blobs records r =
    let past : cuts_of (s.history ++ e ∷ []) ≡ cuts_after (cuts_of s.history) e = rw fold-append refl in
    recorded_in (grown s e blobs) records
    (subst (λ (ks : List Cut). IsRecorded s.catalogue s.opening ks (now (grown s e blobs)).kept (now (grown s e blobs)).book records) (sym past)
    (subst (λ (x : CabinetStanding). IsRecorded s.catalogue s.opening (cuts_after (cuts_of s.history) e) x.kept x.book records) (sym (now_more s e blobs)) r))

-- ONE MORE RECORD, AND MORE OF THEM

pub replays_one : (c : Catalogue) (r : Replayed) (records : List (Option Record)) (t : Replayed) (x : Record) → Replays c r records t → MayFollow c t x → Replays c r (records ++ Some x ∷ []) (replayed c t x)
replays_one c r [] t x h may = (subst (λ (y : Replayed). MayFollow c y x) h may, ap (λ (y : Replayed). replayed c y x) h)
replays_one c r (None ∷ records) t x h may = absurd h
replays_one c r (Some y ∷ records) t x h may = (h.0, replays_one c (replayed c r y) records t x h.1 may)

pub replays_more : (c : Catalogue) (r : Replayed) (xs : List (Option Record)) (t : Replayed) (ys : List (Option Record)) (u : Replayed) → Replays c r xs t → Replays c t ys u → Replays c r (xs ++ ys) u
replays_more c r [] t ys u h k = subst (λ (y : Replayed). Replays c y ys u) h k
replays_more c r (None ∷ xs) t ys u h k = absurd h
replays_more c r (Some x ∷ xs) t ys u h k = (h.0, replays_more c (replayed c r x) xs t ys u h.1 k)

-- NUMBERS OF AN OPENING

-- a number up to the last one of an opening was given by then
pub given_up_to : (n e d : ℕ) → 1 ≤ d → n ≤ e * d + (d - 1) → n / d ≤ e
given_up_to n e d some most = elim (cases_lt e (n / d)) [
  | inl under ↦
      let low : n / d * d ≤ n = div-mul-le_self n d in
      let high : (e + 1) * d ≤ n / d * d = mul-le-mul (omega arith) (omega arith) in
      absurd (omega (arith, low, high))
  | inr over ↦ over
]

pub given_by : (o : CabinetOpening) (n : ℕ) → n ≤ last_number o → opening_of n ≤ o.number
given_by o n most = given_up_to n o.number (2 ^ 40) (omega arith) most

pub number_is : (r : Replayed) (o : CabinetOpening) → r.opening ≡ Some o.number → opening_number r ≡ o.number
number_is r o e = ap (λ (x : Option ℕ). option_map_or (λ n. n) x 0) e

-- EACH RUNNING RENDER WAS BEGUN SINCE THE OPENING

record IsSince (n : ℕ) (s : CabinetStanding) : Type 0 where
  pub front : n ≤ s.front
  pub out : AllByRecursion (λ r. n < r.number) s.out

since_after : (n : ℕ) (c : Catalogue) (s : CabinetStanding) (e : HistoryEntry) → May c s e → IsSince n s → IsSince n (after c s e)
since_after n c s (entry.At m) may h = record { front = h.front; out = h.out }
since_after n c s (entry.Started k m) may h =
    let f = h.front in
    let is = may.0 in
    record { front = omega arith; out = all_push (λ (r : Render). n < r.number) s.out (unmarked k m s.moment) h.out (omega arith) }
since_after n c s (entry.Cut t cover) may h = record {
  front = let f = h.front in omega arith;
  out = all_map (marked (hits_of c cover) t) (λ (r : Render). n < r.number) s.out
      (all_weaker (λ (r : Render). n < r.number) (λ r. n < (marked (hits_of c cover) t r).number) (λ r l. subst (λ (k : ℕ). n < k) (sym (marked_is (hits_of c cover) t r).number) l) s.out h.out);
}
since_after n c s (entry.Missed t) may h = record { front = let f = h.front in omega arith; out = h.out }
since_after n c s (entry.Stored k m place size b uses) may h = record { front = h.front; out = all_filter (λ (r : Render). n < r.number) (λ r. not (has_number k r)) s.out h.out }
since_after n c s (entry.Counted m u) may h = record { front = h.front; out = h.out }
since_after n c s (entry.Ended k) may h = record { front = h.front; out = all_filter (λ (r : Render). n < r.number) (λ r. not (has_number k r)) s.out h.out }
since_after n c s (entry.Used m) may h = h
since_after n c s (entry.Dropped m) may h = record { front = h.front; out = h.out }

since_run : (n : ℕ) (c : Catalogue) (s : CabinetStanding) (h : History) → Follows c s h → IsSince n s → IsSince n (standing c s h)
since_run n c s [] may h = h
since_run n c s (e ∷ es) may h = since_run n c (after c s e) es may.1 (since_after n c s e may.0 h)

-- WHAT IS KNOWN OF WHAT STANDS

pub record Stands (c : Catalogue) (o : CabinetOpening) (past : List Cut) (s : CabinetStanding) : Type 0 where
  pub valid : IsValid c
  pub holds : HoldsAfterCuts c past s
  pub differ : Differ s
  pub front : first_front o ≤ s.front
  pub top : s.front ≤ last_number o
  pub out : AllByRecursion (λ r. first_front o < r.number) s.out
  pub once_kept : ApartBy (λ t. t.meta) s.kept
  pub metas : AllByRecursion (λ t. IsMeta c t.meta) s.kept
  pub regions : HaveRegions c.blob_bytes s.kept
  pub lengths : AllByRecursion (IsOfLength c) s.kept
  pub few : length s.kept ≤ c.kept_limit
  pub covers : AllByRecursion (λ k. IsCoverOf c k.cover) s.book.cuts
  pub few_listed : length s.book.cuts ≤ c.cut_limit

pub stands_in : (s : State) → IsKnown s → Stands s.catalogue s.opening (cuts_of s.history) (now s)
stands_in s k =
    let c = s.catalogue in
    let since = since_run (first_front s.opening) c (first s.opening) s.since k.possible.follows (record { front = omega arith; out = tt }) in
    record {
      valid = k.valid;
      holds = subst (λ (h : History). HoldsAfterCuts c (cuts_of h) (now s)) (sym k.whole) (holds_of c s.opening s.since k.possible);
      differ = differ_is c s.opening s.since k.possible;
      front = since.front;
      top = k.left;
      out = since.out;
      once_kept = once c s.opening s.since k.possible.opens;
      metas = (metas_of c s.opening s.since k.possible).kept;
      regions = regions_are c s.opening s.since k.valid k.possible;
      lengths = lengths_are c s.opening s.since k.possible;
      few = few_kept c s.opening s.since k.possible;
      covers = covers_are c s.opening s.since k.possible;
      few_listed = few_cuts c s.opening s.since k.possible;
    }

-- after one more entry that is no cut
pub stands_more : (s : State) (e : HistoryEntry) (blobs : Option (List KeptBlob)) → IsKnown (grown s e blobs) → cuts_after (cuts_of s.history) e ≡ cuts_of s.history → Stands s.catalogue s.opening (cuts_of s.history) (after s.catalogue (now s) e)
stands_more s e blobs k none =
    let past : cuts_of (s.history ++ e ∷ []) ≡ cuts_of s.history = rw fold-append none in
    subst (λ (x : CabinetStanding). Stands s.catalogue s.opening (cuts_of s.history) x) (now_more s e blobs)
    (subst (λ (ks : List Cut). Stands s.catalogue s.opening ks (now (grown s e blobs))) past (stands_in (grown s e blobs) k))
