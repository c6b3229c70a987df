-- A cabinet whose opening was written down is tied to its file, and each image opens to what it was opened with.
use Rattle.std.proofs.Common.{ℕ, ◌≡◌, ◌⊎◌, ◌+◌, ◌≤◌, Bool, IsTrue, List, [], ◌∷◌, length, map, Some, Result, refl, sym, ap, subst, ◌∙◌, inl, inr}
use Rattle.std.specs.List.{AllByRecursion}
use Rattle.std.specs.List.Sorted.{IsPermutation}
use Rattle.std.proofs.lemmas.List.Sorted.{IsPermutation-refl}
use Rattle.cabinet.specs.declared.kept.Kept.{Kept}
use Rattle.cabinet.specs.History.{CabinetOpening as Begun, CabinetStanding, first}
use Rattle.cabinet.specs.State.{IsKnown, State, now}
use Rattle.cabinet_records.specs.Replay.{Replayed, book_after, opening_after, opening_number, unplayed}
use Rattle.cabinet_records.proofs.RecordedRestored.{records_restore}
use Rattle.durable_cabinet.proofs.Once.{replays_once}
use Rattle.cache_file.specs.File.{Anywhere, Brings, HasHeld, HoldsBlob, IsAmong, held, opens_to}
use Rattle.cache_file.proofs.Sparing.{settled_sure}
use Rattle.catalog.specs.declared.catalogue.Catalogue.{Catalogue}
use Rattle.disk_model.specs.Content.{Content, bytes_at}
use Rattle.disk_model.specs.Images.{DiskState, Every, IsLawful, Leaves}
use Rattle.disk_model.specs.Moments.{leaves_as}
use Rattle.disk_model.proofs.Reading.{length-bytes_at}
use Rattle.gate_journal.specs.declared.journal.Journal.{Journal}
use Rattle.gate_journal.specs.Opened.{Opening, opened}
use Rattle.gate_journal.specs.Sound.{IsAlike, IsSettled, kept, version_of}
use Rattle.truncation_list.specs.Books.{AnswersForBook}
use Rattle.truncation_list.proofs.Answering.{answers_itself}
use Rattle.durable_cabinet.specs.Filed.{IsFiled, IsHeldOn, IsKeptOn, IsOpeningOf}
use Rattle.durable_cabinet.specs.Images.{HasIn, IsBeside, OpensTo, blob_on, blobs_start, slots_for}
use Rattle.durable_cabinet.specs.Openings.{EntersOpening, IsOpeningBegun, OpensWith}
use Rattle.durable_cabinet.proofs.Blobs.{all_same, has_all}
use Rattle.durable_cabinet.proofs.Owning.{each_has, ours_of}
use Rattle.durable_cabinet.proofs.OpeningWritten.{now_opened}
use Rattle.durable_cabinet.proofs.Tying.{anywhere}

-- BLOBS that are held stay held

one_held : (c : Catalogue) (old new : DiskState) (t : Kept) → new.may_leave new.seen → Every new.may_leave (HasHeld (blobs_start c) Anywhere old) → IsHeldOn c old t → IsHeldOn c new t
one_held c old new t reads keeps holds =
    let at = blobs_start c + t.place in
    let blob = bytes_at old.seen at t.length in
    let each : HoldsBlob (blobs_start c) t.place blob new = λ image is. (keeps image is).blobs t.place blob tt holds in
    let same : bytes_at new.seen at t.length ≡ blob = subst (λ (n : ℕ). bytes_at new.seen at n ≡ blob) (length-bytes_at old.seen at t.length) (each new.seen reads).bytes in
    subst (λ (b : List ℕ). HoldsBlob (blobs_start c) t.place b new) (sym same) each

all_held : (c : Catalogue) (old new : DiskState) (ts : List Kept) → new.may_leave new.seen
    → Every new.may_leave (HasHeld (blobs_start c) Anywhere old) → AllByRecursion (IsHeldOn c old) ts → AllByRecursion (IsHeldOn c new) ts
all_held c old new [] reads keeps holds = tt
all_held c old new (t ∷ ts) reads keeps holds = (one_held c old new t reads keeps holds.0, all_held c old new ts reads keeps holds.1)

-- THE TIE

beside_itself : (s : State) → IsBeside s s
beside_itself s = record { same_catalogue = refl; same_opening = refl; kept = inl refl; answers = answers_itself (now s).book }

kept_on : (s : State) (o : Opening) (j : Journal) (old new : DiskState) {T E : Type 0} (result : Result T E) (start : ℕ) (j0 : Journal)
    → start ≡ blobs_start s.catalogue → IsKnown s → IsSettled j → new.may_leave new.seen → held j new ≡ o → IsOpeningOf s o
    → AllByRecursion (IsHeldOn s.catalogue old) (now s).kept → Brings result o start j0 j old new → IsKeptOn s j new
kept_on s o j old new result start j0 start_is known settled reads done is holds brings =
    let unsure_is = subst (IsOpeningOf s) (sym (settled_sure j new settled ∙ done)) is in
    let after = all_held s.catalogue old new (now s).kept reads (subst (λ (n : ℕ). Every new.may_leave (HasHeld n Anywhere old)) start_is brings.keeps) holds in
    record {
      sound = brings.sound;
      recorded = subst (IsOpeningOf s) (sym done) is;
      holds = after;
      beside = record { beside = s; known = known; is_beside = beside_itself s; recorded = unsure_is; holds = after; missed = inl unsure_is };
    }

pub filed_now : (s : State) (told told' : Bool) (start start' : ℕ) (j j' : Journal) (old new : DiskState) {T E : Type 0} (result : Result T E)
    → IsKnown s → IsOpeningBegun told s old start j → told' ≡ told → start' ≡ start → IsAlike j j' → version_of j' ≡ 2 → IsSettled j'
    → (IsTrue told' → IsLawful new) → (entered : IsTrue told → EntersOpening s result start j j' old new) → ((is : IsTrue told) → held j' new ≡ (entered is).written) → IsFiled s told' start' j' new
filed_now s told told' start start' j j' old new result known b same_told same_start alike version settled lawful entered done = record {
  digest = alike.same_digest ∙ b.same_digest;
  slots = alike.same_slots ∙ b.same_slots;
  version = version;
  start_is = same_start ∙ b.start_is;
  on = λ told_now. let is = subst IsTrue same_told told_now in
      kept_on s (entered is).written j' old new result start j b.start_is known settled (lawful told_now).reads_as (done is) (entered is).recorded (b.holds is) (entered is).brings;
}

-- WHAT AN IMAGE OPENS TO

module _ (told : Bool) (s : State) (start : ℕ) (j : Journal) (old : DiskState) (known : IsKnown s) (b : IsOpeningBegun told s old start j) (is : IsTrue told) where
  by_own : (image : Content) (o : Opening) → opens_to j image ≡ o → opened s.catalogue.digest (slots_for s.catalogue) image ≡ o
  by_own image o e = (λ k. opened (sym b.same_digest k) (sym b.same_slots k) image) ∙ e

  -- the blobs of what it was opened with
  has_blobs : (image : Content) → HasHeld start Anywhere old image → AllByRecursion (HasIn s.catalogue image) (map (blob_on s.catalogue old.seen) (now s).kept)
  has_blobs image has = has_all s.catalogue old Anywhere (now s).kept image (subst (λ (n : ℕ). HasHeld n Anywhere old image) b.start_is has) (anywhere (now s).kept) (b.holds is)

  with_blobs : (image : Content) (r : Replayed) → HasHeld start Anywhere old image → OpensTo s.catalogue image r → (opening_number r + 1 ≡ s.opening.number) ⊎ (r.opening ≡ Some s.opening.number) → IsPermutation r.kept (now s).kept → AnswersForBook (book_after r) (now s).book
      → OpensWith s old.seen image
  with_blobs image r has to number order answers =
      let stands = now_opened s b.since in
      record {
        replayed = r;
        opens = to;
        opening = number;
        kept = subst (λ (x : CabinetStanding). IsPermutation r.kept x.kept) stands order;
        answers = subst (λ (x : CabinetStanding). AnswersForBook (book_after r) x.book) stands answers;
        has = subst (λ (x : CabinetStanding). AllByRecursion (λ t. HasIn s.catalogue image (blob_on s.catalogue old.seen t)) x.kept) stands (each_has s.catalogue old.seen image (now s).kept (has_blobs image has));
        ours = ours_of s known old.seen image r to order (has_blobs image has) (subst (λ (n : ℕ). n ≤ length image) b.start_is has.whole);
      }

  opens_before : (image : Content) → HasHeld start Anywhere old image → opens_to j image ≡ held j old → OpensWith s old.seen image
  opens_before image has e =
      let to : OpensTo s.catalogue image b.replayed = record {
        version = version_of j;
        bodies = kept j old.seen;
        entries = b.entries;
        opens = by_own image (held j old) e;
        are = b.are is;
        replays = b.replays;
        few_cuts = subst (λ (o : Begun). length o.book.cuts ≤ s.catalogue.cut_limit) b.opening known.possible.opens.few_cuts;
      } in
      let stood : first (opening_after b.replayed) ≡ now s = ap first (sym b.opening) ∙ sym (now_opened s b.since) in
      with_blobs image b.replayed has to (inl (sym (ap (λ (o : Begun). o.number) b.opening))) (subst (λ (x : CabinetStanding). IsPermutation b.replayed.kept x.kept) stood (IsPermutation-refl b.replayed.kept))
      (subst (λ (x : CabinetStanding). AnswersForBook (book_after b.replayed) x.book) stood (answers_itself (book_after b.replayed)))

  opens_after : (image : Content) (o : Opening) → HasHeld start Anywhere old image → IsOpeningOf s o → opens_to j image ≡ o → OpensWith s old.seen image
  opens_after image o has w e =
      let r = records_restore s w.entries known w.recorded in
      let to : OpensTo s.catalogue image r.0 = record { version = w.version; bodies = w.bodies; entries = w.entries; opens = by_own image o e ∙ w.opens; are = w.are; replays = r.1; few_cuts = r.3 } in
      let same : r.0 ≡ w.recorded.replayed = replays_once s.catalogue unplayed w.entries r.0 w.recorded.replayed r.1 w.recorded.replays in
      with_blobs image r.0 has to (inr (ap (λ (x : Replayed). x.opening) same ∙ w.recorded.opening)) r.2 r.4

  pub images_with : {T E : Type 0} (result : Result T E) (j' : Journal) (new : DiskState) → EntersOpening s result start j j' old new → Leaves old new (OpensWith s old.seen)
  images_with result j' new e = leaves_as old new (λ c. IsAmong j old e.written (opens_to j c) × HasHeld start Anywhere old c) (OpensWith s old.seen) e.brings.any_moment by_moment
    where
      among : (c : Content) → HasHeld start Anywhere old c → IsAmong j old e.written (opens_to j c) → OpensWith s old.seen c
      among c has (inl before) = opens_before c has before
      among c has (inr (inl was)) = opens_before c has (was ∙ settled_sure j old b.settled)
      among c has (inr (inr after)) = opens_after c e.written has e.recorded after

      by_moment : (c : Content) → IsAmong j old e.written (opens_to j c) × HasHeld start Anywhere old c → OpensWith s old.seen c
      by_moment c h = among c h.1 h.0

  -- its blobs read as before
  pub seen_same : {T E : Type 0} (result : Result T E) (j' : Journal) (new : DiskState) → EntersOpening s result start j j' old new → new.may_leave new.seen → map (blob_on s.catalogue new.seen) (now s).kept ≡ map (blob_on s.catalogue old.seen) (now s).kept
  seen_same result j' new e reads =
      all_same s.catalogue old new Anywhere (subst (λ (n : ℕ). Every new.may_leave (HasHeld n Anywhere old)) b.start_is e.brings.keeps) reads (now s).kept (anywhere (now s).kept) (b.holds is)
