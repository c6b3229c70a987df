-- The images of a new disk once what is taken over was written down.
use Rattle.std.proofs.Common.{ℕ, ◌≡◌, ◌+◌, ◌<◌, ◌≤◌, ◌^◌, List, [], ◌∷◌, length, length-append, map, Option, Some, None, refl, ap, subst, ◌∙◌, arith}
use Rattle.std.specs.List.{AllByRecursion}
use Rattle.std.proofs.lemmas.List.Sorted.{IsPermutation-refl}
use Rattle.base.specs.Readings.{Readings, unread}
use Rattle.cabinet.specs.declared.kept.Kept.{Kept}
use Rattle.cabinet.specs.Fresh.{HoldsOfKept, IsOfLength, MayBeginWith}
use Rattle.cabinet.specs.History.{CabinetOpening, first_front, whole}
use Rattle.cabinet.specs.State.{IsKnown, State}
use Rattle.cabinet_records.specs.Recorded.{compacted, stored_record}
use Rattle.cabinet_records.specs.Replay.{AreRecordsOf, Replays, unplayed}
use Rattle.cabinet_records.proofs.RecordedOpening.{compacts_recorded}
use Rattle.cache_file.specs.File.{Anywhere, HasBlobAt, HasHeld, held, opens_to}
use Rattle.catalog.specs.declared.catalogue.Catalogue.{Catalogue}
use Rattle.catalog.specs.Valid.{IsValid}
use Rattle.disk_model.specs.Content.{Content, bytes_at}
use Rattle.disk_model.specs.Images.{DiskState, Every}
use Rattle.disk_model.proofs.Reading.{length-bytes_at}
use Rattle.durable_cabinet.specs.Drafts.{cut_record}
use Rattle.metatile_locks.proofs.Lists.{all_weaker}
use Rattle.raster_field.specs.Blocks.{IsMeta}
use Rattle.std.proofs.lemmas.List.{length-map}
use Rattle.durable_cabinet.specs.Filed.{IsOpeningOf}
use Rattle.durable_cabinet.specs.Images.{HasIn, blob_on, blobs_start, slots_for}
use Rattle.durable_cabinet.proofs.Tying.{restored}
use Rattle.gate_journal.specs.declared.journal.Journal.{Journal}
use Rattle.gate_journal.specs.Opened.{opened, records}
use Rattle.gate_journal.specs.Sound.{digest_of, slots_of}
use Rattle.record_text.specs.declared.entries.Record.{Record}
use Rattle.record_text.specs.Fits.{Fits}
use Rattle.record_text.specs.Spelling.{spelling}
use Rattle.carry_over.specs.Chosen.{IsPartOf}
use Rattle.carry_over.specs.Copied.{IsCopyOn}
use Rattle.carry_over.specs.Taken.{HasTaken}
use Rattle.carry_over.proofs.Entries.{one_list}
use Rattle.carry_over.proofs.Ordered.{same_order}
use Rattle.carry_over.proofs.Parts.{part_all, part_apart, part_disjoint, part_long}

-- a cabinet without modelled blobs that begins with an opening
abbrev begun : Catalogue → CabinetOpening → Readings → State
begun d o clock = record { catalogue = d; opening = o; history = whole o []; since = []; blobs = None; clock = clock }

known : (d : Catalogue) (o : CabinetOpening) → IsValid d → o.number < 2 ^ 24 → MayBeginWith d o → IsKnown (begun d o unread)
known d o valid number opens = record {
  valid = valid;
  number = number;
  whole = refl;
  possible = record { opens = opens; follows = tt };
  blobs = tt;
  lengths = tt;
  left = omega arith;
}

spelled_all : (rs : List Record) → AllByRecursion Fits rs → AreRecordsOf 2 (map spelling rs) (map (λ r. Some r) rs)
spelled_all [] fit = tt
spelled_all (r ∷ rs) fit = ((fit.0, refl, λ one. absurd (omega (arith, one))), spelled_all rs fit.1)

abbrev pub bodies_for : CabinetOpening → List (List ℕ)
bodies_for o = map spelling (compacted o.number o.book o.kept)

written : (d : Catalogue) (o : CabinetOpening) → IsKnown (begun d o unread) → AllByRecursion Fits (compacted o.number o.book o.kept) → IsOpeningOf (begun d o unread) (records 2 (bodies_for o))
written d o k fits = record {
  version = 2;
  bodies = bodies_for o;
  entries = map (λ r. Some r) (compacted o.number o.book o.kept);
  opens = refl;
  are = spelled_all (compacted o.number o.book o.kept) fits;
  recorded = compacts_recorded (begun d o unread) o.kept k (IsPermutation-refl o.kept);
}

-- a disk that reads as an image
abbrev reading_as : Content → DiskState
reading_as image = record { seen = image; may_leave = λ c. ⊥; moment = 0; left_since = λ t c. ⊥ }

module _ (d : Catalogue) (from : ℕ) (seen image : Content) where
  abbrev pub HasCopy : Kept → Type 0
  HasCopy t = HasBlobAt (blobs_start d + t.place) (bytes_at seen (from + t.place) t.length) image

  has_own : (t : Kept) → HasCopy t → HasIn d image (blob_on d image t)
  has_own t h =
      let at = blobs_start d + t.place in
      let long = length-bytes_at image at t.length in
      let was = length-bytes_at seen (from + t.place) t.length in
      record { bytes = ap (bytes_at image at) long; within = λ some. let end = h.within (omega (arith, some, long, was)) in omega (arith, end, long, was) }

  all_own : (ts : List Kept) → AllByRecursion HasCopy ts → AllByRecursion (HasIn d image) (map (blob_on d image) ts)
  all_own [] h = tt
  all_own (t ∷ ts) h = (has_own t h.0, all_own ts h.1)

  pub taken_image : (o : CabinetOpening) (j : Journal) → IsValid d → o.number < 2 ^ 24 → MayBeginWith d o → AllByRecursion Fits (compacted o.number o.book o.kept) → digest_of j ≡ d.digest → slots_of j ≡ slots_for d
      → opens_to j image ≡ records 2 (bodies_for o) → AllByRecursion HasCopy o.kept → blobs_start d ≤ length image → HasTaken d o from seen image
  taken_image o j valid number opens fits digest slots there has whole =
      let k = known d o valid number opens in
      let r = restored (begun d o unread) j (records 2 (bodies_for o)) (reading_as image) image k digest slots (written d o k fits) there (all_own o.kept has) whole in
      let is : opened d.digest (slots_for d) image ≡ records 2 (bodies_for o) =
      subst (λ (n : ℕ). opened d.digest n image ≡ records 2 (bodies_for o)) slots (subst (λ (x : List ℕ). opened x (slots_of j) image ≡ records 2 (bodies_for o)) digest there) in
      let rs = compacted o.number o.book o.kept in
      let entries = one_list (opened d.digest (slots_for d) image) r.opens.version 2 r.opens.bodies (bodies_for o) r.opens.entries (map (λ (x : Record). Some x) rs) r.opens.opens is r.opens.are (spelled_all rs fits) in
      record {
        replayed = r.replayed;
        opens = r.opens;
        opening = r.opening;
        kept = same_order d o r.replayed opens.once (subst (λ (es : List (Option Record)). Replays d unplayed es r.replayed) entries r.opens.replays);
        answers = r.answers;
        has = has;
        ours = r.ours;
      }

-- a part of what an opening keeps, with the rest of it, is an opening
pub part_begins : (d : Catalogue) (o : CabinetOpening) (kept : List Kept) → MayBeginWith d o → IsPartOf kept o.kept → MayBeginWith d (record { number = o.number; kept = kept; book = o.book })
part_begins d o kept opens part = record {
  holds = record {
    given = opens.holds.given;
    floor_given = opens.holds.floor_given;
    listed = opens.holds.listed;
    order = opens.holds.order;
    answers = opens.holds.answers;
    kept = part_all (HoldsOfKept d o.book.cuts (first_front o) o.book.floor) kept o.kept part opens.holds.kept;
    out = tt;
  };
  numbers = part_apart (λ (t : Kept). t.number) kept o.kept part opens.numbers;
  once = part_apart (λ (t : Kept). t.meta) kept o.kept part opens.once;
  metas = part_all (λ (t : Kept). IsMeta d t.meta) kept o.kept part opens.metas;
  regions = record {
    some = part_all (λ (t : Kept). 1 ≤ t.length) kept o.kept part opens.regions.some;
    within = part_all (λ (t : Kept). t.place + t.length ≤ d.blob_bytes) kept o.kept part opens.regions.within;
    disjoint = part_disjoint kept o.kept part opens.regions.disjoint;
  };
  lengths = part_all (IsOfLength d) kept o.kept part opens.lengths;
  covers = opens.covers;
  few = let less = part_long kept o.kept part in let most = opens.few in omega (arith, less, most);
  few_cuts = opens.few_cuts;
}

copies_in : (from : ℕ) (seen : Content) (start : ℕ) (mid : DiskState) (image : Content) → HasHeld start Anywhere mid image → (us : List Kept) → AllByRecursion (IsCopyOn from seen start mid) us
    → AllByRecursion (λ t. HasBlobAt (start + t.place) (bytes_at seen (from + t.place) t.length) image) us
copies_in from seen start mid image held [] h = tt
copies_in from seen start mid image held (u ∷ us) h = (held.blobs u.place (bytes_at seen (from + u.place) u.length) tt h.0, copies_in from seen start mid image held us h.1)

-- what is written down is what each image opens to
pub images_taken : (d : Catalogue) (o : CabinetOpening) (from : ℕ) (seen : Content) (start : ℕ) (j : Journal) (mid new : DiskState) (bodies : List (List ℕ))
    → IsValid d → o.number < 2 ^ 24 → MayBeginWith d o → AllByRecursion Fits (compacted o.number o.book o.kept) → bodies ≡ bodies_for o → digest_of j ≡ d.digest → slots_of j ≡ slots_for d → start ≡ blobs_start d
    → held j new ≡ records 2 bodies → Every new.may_leave (λ image. opens_to j image ≡ held j new) → Every new.may_leave (HasHeld start Anywhere mid) → AllByRecursion (IsCopyOn from seen start mid) o.kept
    → Every new.may_leave (HasTaken d o from seen)
images_taken d o from seen start j mid new bodies valid number opens fits are digest slots start_is written there keeps copies image left =
    let has = copies_in from seen start mid image (keeps image left) o.kept copies in
    taken_image d from seen image o j valid number opens fits digest slots (there image left ∙ (written ∙ ap (records 2) are))
    (subst (λ (n : ℕ). AllByRecursion (λ t. HasBlobAt (n + t.place) (bytes_at seen (from + t.place) t.length) image) o.kept) start_is has)
    (subst (λ (n : ℕ). n ≤ length image) start_is (keeps image left).whole)

-- the journal is not long
pub start_small : (c : Catalogue) → IsValid c → blobs_start c ≤ 2 ^ 60
start_small c valid = let a = valid.kept_limit_most in let b = valid.cut_limit_most in omega (arith, a, b)

-- nor are the blobs
pub ends_small : (d : Catalogue) (o : CabinetOpening) → IsValid d → MayBeginWith d o → AllByRecursion (λ t. t.place + t.length ≤ 2 ^ 60) o.kept
ends_small d o valid opens = let most = valid.blob_bytes_most in all_weaker (λ (t : Kept). t.place + t.length ≤ d.blob_bytes) (λ t. t.place + t.length ≤ 2 ^ 60) (λ t h. omega (arith, h, most)) o.kept opens.regions.within

-- how many bodies there are
pub bodies_few : (d : Catalogue) (o : CabinetOpening) (bodies : List (List ℕ)) (slots : ℕ) → MayBeginWith d o → bodies ≡ bodies_for o → slots ≡ slots_for d → length bodies ≤ slots
bodies_few d o bodies slots opens are is =
    let cs = map cut_record o.book.cuts in
    let ks = map stored_record o.kept in
    let a = ap (λ (l : List (List ℕ)). length l) are in
    let b = length-map (compacted o.number o.book o.kept) spelling in
    let e = length-append cs ks in
    let f = length-map o.book.cuts cut_record in
    let g = length-map o.kept stored_record in
    let h = opens.few in
    let i = opens.few_cuts in
    omega (arith, a, b, e, f, g, h, i, is)
