-- What the steps of a command leave of the tie between a cabinet and its file.
use Rattle.std.proofs.Common.{ℕ, zero, suc, ◌≡◌, ◌⊎◌, ◌+◌, ◌<◌, Bool, IsTrue, List, [], ◌∷◌, ◌++◌, length, map, Some, refl, sym, ap, subst, ◌∙◌, inl, inr, Result, Ok, Err, OnOk, OnErr, arith, length-append}
use Rattle.std.specs.List.{AllByRecursion}
use Rattle.std.proofs.lemmas.Result.{on_ok_weaker}
use Rattle.std.proofs.lemmas.List.Sorted.{length_permutation}
use Rattle.std.proofs.lemmas.List.{length-map}
use Rattle.cabinet.proofs.Limits.{few_cuts, few_kept}
use Rattle.cabinet.proofs.Lists.{all_contained}
use Rattle.metatile_locks.proofs.Lists.{all_weaker}
use Rattle.record_text.specs.declared.entries.Record.TheVariants as record_of
use Rattle.disk_model.specs.Content.{Content, bytes_at}
use Rattle.disk_model.specs.Images.{DiskState, Every, Leaves}
use Rattle.disk_model.specs.Moments.{leaves_as, leaves_then}
use Rattle.gate_journal.specs.declared.journal.Journal.{Journal}
use Rattle.gate_journal.specs.Opened.{Opening, records}
use Rattle.gate_journal.specs.Sound.{IsAlike, IsSettled, kept, room_of, version_of}
use Rattle.record_text.specs.declared.entries.Record.{Record}
use Rattle.record_text.specs.Fits.{Fits}
use Rattle.record_text.specs.Spelling.{spelling}
use Rattle.cabinet.specs.State.{IsKnown, State, now}
use Rattle.cabinet_records.specs.Recorded.{compacted, stored_record}
use Rattle.cabinet_records.specs.Replay.{AreRecordsOf}
use Rattle.cabinet_records.proofs.RecordedOpening.{compacts_recorded}
use Rattle.catalog.specs.declared.catalogue.Catalogue.{Catalogue}
use Rattle.cabinet.specs.declared.kept.Kept.{Kept}
use Rattle.cache_file.specs.File.{Anywhere, Brings, HasHeld, HoldsBlob, held, readied}
use Rattle.durable_cabinet.specs.Backing.{AreRegionsOf, Enters, IsRegionIn, IsWritten, RecordLeads, Rests, WritesRecord}
use Rattle.durable_cabinet.specs.Alike.{IsAlikeTo}
use Rattle.durable_cabinet.specs.Drafts.{IsCompactionOf}
use Rattle.durable_cabinet.specs.Filed.{IsFiled, IsHeldOn, IsKeptOn, IsOpeningOf, on_disk}
use Rattle.durable_cabinet.specs.Images.{IsBeside, IsLeft, Restores, blob_on, blobs_start, slots_for}
use Rattle.durable_cabinet.specs.Missed.{HasMissed}
use Rattle.durable_cabinet.proofs.Blobs.{AreHeld, all_same, same_on}
use Rattle.durable_cabinet.proofs.Calling.{call_moment, kept_done, kept_failed, sure_moment}
use Rattle.durable_cabinet.proofs.Forcing.{filed_alike}
use Rattle.durable_cabinet.proofs.Missing.{alike_itself, missed_now}
use Rattle.durable_cabinet.proofs.Tying.{anywhere, beside_itself, recorded_one, shown}

-- A COMPACTION

all_records : (rs : List Record) → AllByRecursion Fits rs → AreRecordsOf 2 (map spelling rs) (map (λ r. Some r) rs)
all_records [] fits = tt
all_records (r ∷ rs) fits = ((fits.0, refl, λ one. absurd (omega (arith, one))), all_records rs fits.1)

compaction_record : (s : State) → IsKnown s → (bodies : List (List ℕ)) → IsCompactionOf s bodies → IsOpeningOf s (records 2 bodies)
compaction_record s known bodies c =
    let rs = compacted s.opening.number (now s).book c.kept in
    record {
      version = 2;
      bodies = bodies;
      entries = map (λ r. Some r) rs;
      opens = refl;
      are = subst (λ (b : List (List ℕ)). AreRecordsOf 2 b (map (λ r. Some r) rs)) (sym c.bodies_are) (all_records rs c.fits);
      recorded = compacts_recorded s c.kept known c.order;
    }

pub readied_record : (s : State) → IsKnown s → (room : ℕ) (before : Opening) (bodies : List (List ℕ)) → (room ≡ 0 → IsCompactionOf s bodies) → IsOpeningOf s before → IsOpeningOf s (readied room before bodies)
readied_record s known zero before bodies compacts r = compaction_record s known bodies (compacts refl)
readied_record s known (suc room) before bodies compacts r = r

-- CALLS on the records, of a file that is tied to a cabinet, towards another cabinet or itself

module _ {T E : Type 0} (told : Bool) (s u : State) (known : IsKnown s) (start : ℕ) (j : Journal) (old : DiskState) (filed : IsFiled s told start j old) (start' : ℕ) (j' : Journal) (new : DiskState) (same_start : start' ≡ start)
    (alike : IsAlike j j') (version : version_of j ≡ 2 → version_of j' ≡ 2) (lead_known : IsKnown u) (is_beside : IsBeside s u) (after : Opening) (leads : IsTrue told → IsOpeningOf u after)
    (missed : State) (like : IsAlikeTo s missed) (misses : IsTrue told → IsOpeningOf missed after ⊎ HasMissed (shown missed old) (shown u old)) (holds : IsTrue told → AreHeld s.catalogue old (now u).kept) (result : Result T E) (brings : IsTrue told → Brings result after start j j' old new) (settled : OnOk result (IsSettled j')) (reads : IsTrue told → new.may_leave new.seen) where
  call : IsTrue told → Brings result after (blobs_start s.catalogue) j j' old new
  call is = subst (λ (n : ℕ). Brings result after n j j' old new) filed.start_is (brings is)

  same_of : (t : State) → t.catalogue ≡ s.catalogue → (IsTrue told → AreHeld s.catalogue old (now t).kept) → on_disk told new.seen t ≡ on_disk told old.seen t
  same_of t same h = same_on told t old.seen new.seen (λ is.
      subst (λ (c : Catalogue). map (blob_on c new.seen) (now t).kept ≡ map (blob_on c old.seen) (now t).kept) (sym same)
      (all_same s.catalogue old new Anywhere (call is).keeps (reads is) (now t).kept (anywhere (now t).kept) (h is)))

  filed_as : (t : State) → t.catalogue ≡ s.catalogue → (IsTrue told → IsKeptOn t j' new) → IsFiled t told start' j' new
  filed_as t same on = record {
    digest = alike.same_digest ∙ filed.digest ∙ ap (λ (c : Catalogue). c.digest) (sym same);
    slots = alike.same_slots ∙ filed.slots ∙ ap slots_for (sym same);
    version = version filed.version;
    start_is = same_start ∙ filed.start_is ∙ ap blobs_start (sym same);
    on = on;
  }

  on_done : {T' E' : Type 0} (r : Result T' E') → (IsTrue told → Brings r after (blobs_start s.catalogue) j j' old new) → OnOk r (IsSettled j') → OnOk r (IsFiled u told start' j' new)
  on_done (Ok value) b is = filed_as u is_beside.same_catalogue (λ t. kept_done s u known lead_known is_beside j j' old new filed.digest filed.slots (filed.on t) after (leads t) (holds t) missed like (misses t) (Ok value) (b t) (reads t) (b t).done is)
  on_done (Err fault) b is = tt

  on_failed : {T' E' : Type 0} (r : Result T' E') → (IsTrue told → Brings r after (blobs_start s.catalogue) j j' old new) → OnErr r (IsFiled missed told start' j' new)
  on_failed (Ok value) b = tt
  on_failed (Err fault) b = filed_as missed like.catalogue (λ t. kept_failed s u known lead_known is_beside j j' old new filed.digest filed.slots (filed.on t) after (leads t) (holds t) missed like (misses t) (Err fault) (b t) (reads t) (b t).failed)

  pub written : IsWritten result told s missed u start' j' old new
  written = record {
    ok = on_done result call settled;
    err = on_failed result call;
    same = same_of s refl (λ is. (filed.on is).holds);
    same_next = same_of u is_beside.same_catalogue holds;
  }

  pub call_images : IsTrue told → Leaves old new (λ image. IsLeft (on_disk told old.seen s) j old image ⊎ Restores (on_disk told old.seen u) image)
  call_images is =
      subst (λ (b : Bool). Leaves old new (λ image. IsLeft (on_disk b old.seen s) j old image ⊎ Restores (on_disk b old.seen u) image)) (sym is)
      (leaves_as old new _ (λ image. IsLeft (shown s old) j old image ⊎ Restores (shown u old) image) (call is).any_moment
      (call_moment s u known lead_known is_beside j j' old new filed.digest filed.slots (filed.on is) after (leads is) (holds is) missed like (misses is) result (call is) (reads is)))

  pub sure_images : IsSettled j → IsTrue told → Leaves old new (λ image. Restores (on_disk told old.seen s) image ⊎ Restores (on_disk told old.seen u) image)
  sure_images sure is =
      subst (λ (b : Bool). Leaves old new (λ image. Restores (on_disk b old.seen s) image ⊎ Restores (on_disk b old.seen u) image)) (sym is)
      (leaves_as old new _ (λ image. Restores (shown s old) image ⊎ Restores (shown u old) image) (call is).any_moment
      (sure_moment s u known lead_known is_beside j j' old new filed.digest filed.slots (filed.on is) after (leads is) (holds is) missed like (misses is) result (call is) (reads is) sure))

  pub call_keeps : IsTrue told → Every new.may_leave (HasHeld (blobs_start s.catalogue) Anywhere old)
  call_keeps is = (call is).keeps

-- a call towards the cabinet itself
rest_image : (told : Bool) (s : State) (j : Journal) (old : DiskState) (image : Content) → IsLeft (on_disk told old.seen s) j old image ⊎ Restores (on_disk told old.seen s) image → IsLeft (on_disk told old.seen s) j old image
rest_image told s j old image (inl left) = left
rest_image told s j old image (inr restores) = inl restores

rests_in : {T E : Type 0} (told : Bool) (s : State) (start : ℕ) (j' : Journal) (old new : DiskState) (result : Result T E) → IsWritten result told s s s start j' old new → IsFiled s told start j' new
rests_in told s start j' old new (Ok value) w = w.ok
rests_in told s start j' old new (Err fault) w = w.err

-- READY

pub ready_of : {T E : Type 0} (told : Bool) (s : State) (known : IsKnown s) (start : ℕ) (j : Journal) (old : DiskState) (filed : IsFiled s told start j old) (start' : ℕ) (j' : Journal) (new : DiskState) → start' ≡ start → IsAlike j j'
    → (version_of j ≡ 2 → version_of j' ≡ 2) → (bodies : List (List ℕ)) → (room_of j ≡ 0 → IsCompactionOf s bodies) → (result : Result T E) → OnOk result (IsSettled j' × (0 < room_of j'))
    → (IsTrue told → Brings result (readied (room_of j) (held j old) bodies) start j j' old new) → (IsTrue told → new.may_leave new.seen) → IsFiled s told start' j' new × Rests told s j old new
ready_of told s known start j old filed start' j' new same_start alike version bodies compacts result ok brings reads =
    let after = readied (room_of j) (held j old) bodies in
    let leads : IsTrue told → IsOpeningOf s after = λ is. readied_record s known (room_of j) (held j old) bodies compacts (filed.on is).recorded in
    let holds : IsTrue told → AreHeld s.catalogue old (now s).kept = λ is. (filed.on is).holds in
    let settled : OnOk result (IsSettled j') = on_ok_weaker result (λ done. done.0) ok in
    let own : IsTrue told → IsOpeningOf s after ⊎ HasMissed (shown s old) (shown s old) = λ is. inl (leads is) in
    let w = written told s s known start j old filed start' j' new same_start alike version known (beside_itself s) after leads s (alike_itself s) own holds result brings settled reads in
    let images = call_images told s s known start j old filed start' j' new same_start alike version known (beside_itself s) after leads s (alike_itself s) own holds result brings settled reads in
    let keeps = call_keeps told s s known start j old filed start' j' new same_start alike version known (beside_itself s) after leads s (alike_itself s) own holds result brings settled reads in
    (rests_in told s start' j' old new result w, record { same = w.same; keeps = keeps; images = λ is. leaves_as old new _ (IsLeft (on_disk told old.seen s) j old) (images is) (rest_image told s j old) })

-- the records of a compaction are fewer than a half of the journal has slots
pub compaction_few : (s : State) → IsKnown s → (bodies : List (List ℕ)) → IsCompactionOf s bodies → length bodies < slots_for s.catalogue
compaction_few s known bodies c =
    let book = (now s).book in
    let cuts = map (λ k. record_of.Cut k.number k.cover) book.cuts in
    let stored = map stored_record c.kept in
    let size : length bodies ≡ suc (length book.cuts + length c.kept) =
    ap length c.bodies_are ∙ length-map (compacted s.opening.number book c.kept) spelling ∙ ap suc (length-append cuts stored ∙ (λ k. length-map book.cuts (λ k. record_of.Cut k.number k.cover) k + length-map c.kept stored_record k)) in
    let many = length_permutation c.kept (now s).kept c.order in
    let few = few_kept s.catalogue s.opening s.since known.possible in
    let few_cut = few_cuts s.catalogue s.opening s.since known.possible in
    omega (arith, size, many, few, few_cut)

-- ENTER

pub enters_of : {T E : Type 0} (told : Bool) (s : State) (known : IsKnown s) (start : ℕ) (j : Journal) (old : DiskState) (filed : IsFiled s told start j old) (start' : ℕ) (j' : Journal) (new : DiskState) → start' ≡ start → IsAlike j j'
    → (version_of j ≡ 2 → version_of j' ≡ 2) → IsSettled j → (entry : Record) → Fits entry → (result : Result T E) → OnOk result (IsSettled j')
    → (IsTrue told → Brings result (records (version_of j) (kept j old.seen ++ spelling entry ∷ [])) start j j' old new) → (IsTrue told → new.may_leave new.seen)
    → (missed u : State) → RecordLeads s missed u entry → (IsTrue told → AreHeld s.catalogue old (now u).kept) → Enters result told s missed u start' j' old new
enters_of told s known start j old filed start' j' new same_start alike version sure entry fits result settled brings reads missed u leads holds =
    let after = records (version_of j) (kept j old.seen ++ spelling entry ∷ []) in
    let lead : IsTrue told → IsOpeningOf u after = λ is. recorded_one s u (version_of j) (kept j old.seen) entry filed.version fits leads.recorded (filed.on is).recorded in
    let misses : IsTrue told → IsOpeningOf missed after ⊎ HasMissed (shown missed old) (shown u old) = λ is. inr (missed_now old.seen s missed u leads.known (leads.misses old.seen)) in
    record {
      written = written told s u known start j old filed start' j' new same_start alike version leads.known leads.is_beside after lead missed leads.alike misses holds result brings settled reads;
      images = sure_images told s u known start j old filed start' j' new same_start alike version leads.known leads.is_beside after lead missed leads.alike misses holds result brings settled reads sure;
    }

-- WRITE

-- a region of another one's place and length is held where that is
region_held : (c : Catalogue) (disk : DiskState) (x t : Kept) → x.place ≡ t.place → x.length ≡ t.length → IsHeldOn c disk x → IsHeldOn c disk t
region_held c disk x t place long h =
    subst (λ (n : ℕ). HoldsBlob (blobs_start c) t.place (bytes_at disk.seen (blobs_start c + t.place) n) disk) long
    (subst (λ (p : ℕ). HoldsBlob (blobs_start c) p (bytes_at disk.seen (blobs_start c + p) x.length) disk) place h)

pub regions_held : (s u : State) (disk : DiskState) → AreRegionsOf s u → AreHeld s.catalogue disk (now s).kept → AreHeld s.catalogue disk (now u).kept
regions_held s u disk regions h =
    all_weaker (IsRegionIn (now s).kept) (IsHeldOn s.catalogue disk) (λ t r. region_held s.catalogue disk r.0 t r.2 r.3 (all_contained (IsHeldOn s.catalogue disk) (now s).kept r.0 h r.1)) (now u).kept regions

module _ (told : Bool) (s missed u : State) (entry : Record) (start : ℕ) (j : Journal) (old : DiskState) (filed : IsFiled s told start j old) (leads : RecordLeads s missed u entry) (regions : AreRegionsOf s u) (j1 : Journal) (mid : DiskState)
    (rests : Rests told s j old mid) (reads : IsTrue told → mid.may_leave mid.seen) where
  same_before : on_disk told mid.seen u ≡ on_disk told old.seen u
  same_before = same_on told u old.seen mid.seen (λ is.
      subst (λ (c : Catalogue). map (blob_on c mid.seen) (now u).kept ≡ map (blob_on c old.seen) (now u).kept) (sym leads.is_beside.same_catalogue)
      (all_same s.catalogue old mid Anywhere (rests.keeps is) (reads is) (now u).kept (anywhere (now u).kept) (regions_held s u old regions (filed.on is).holds)))

  pub writes_failed : {T E : Type 0} (start1 : ℕ) (fault : E) → IsFiled s told start1 j1 mid → WritesRecord {T = T} {E = E} (Err fault) told s missed u start1 j j1 old mid
  writes_failed start1 fault then = record {
    written = record { ok = tt; err = filed_alike told s missed start1 j1 mid leads.alike then; same = rests.same; same_next = same_before };
    images = λ is. leaves_as old mid (IsLeft (on_disk told old.seen s) j old) (λ image. IsLeft (on_disk told old.seen s) j old image ⊎ Restores (on_disk told old.seen u) image) (rests.images is) (λ image left. inl left);
  }

  pub writes_then : {T E : Type 0} (result : Result T E) (start2 : ℕ) (j2 : Journal) (new : DiskState) → Enters result told s missed u start2 j2 mid new → WritesRecord result told s missed u start2 j j2 old new
  writes_then result start2 j2 new e = record {
    written = record { ok = e.written.ok; err = e.written.err; same = e.written.same ∙ rests.same; same_next = e.written.same_next ∙ same_before };
    images = λ is. leaves_then old mid new (λ image. IsLeft (on_disk told old.seen s) j old image ⊎ Restores (on_disk told old.seen u) image)
        (leaves_as old mid (IsLeft (on_disk told old.seen s) j old) _ (rests.images is) (λ image left. inl left))
        (leaves_as mid new (λ image. Restores (on_disk told mid.seen s) image ⊎ Restores (on_disk told mid.seen u) image) _ (e.images is) (λ image. later image));
  }
    where
      later : (image : Content) → Restores (on_disk told mid.seen s) image ⊎ Restores (on_disk told mid.seen u) image → IsLeft (on_disk told old.seen s) j old image ⊎ Restores (on_disk told old.seen u) image
      later image (inl restores) = inl (inl (subst (λ (x : State). Restores x image) rests.same restores))
      later image (inr restores) = inr (subst (λ (x : State). Restores x image) same_before restores)
