-- A render that is finished, on a disk.
use Rattle.std.proofs.Common.{ℕ, ◌≡◌, ◌⊎◌, ◌+◌, ◌≤◌, Bool, true, false, not, ◌&&◌, ◌==◌, IsTrue, List, [], ◌∷◌, ◌++◌, length, filter, replicate, Some, None, refl, sym, ap, subst, ◌∙◌, inl, inr, Result, arith, length-append}
use Rattle.std.proofs.lemmas.List.{length-replicate}
use Rattle.std.specs.Option.{is_some, option_map}
use Rattle.base.specs.Causes.{Rose}
use Rattle.disk_model.specs.Content.{Content, bytes_at}
use Rattle.disk_model.proofs.Reading.{length-bytes_at}
use Rattle.disk_model.specs.Images.{DiskState}
use Rattle.disk_model.specs.Moments.{leaves_as}
use Rattle.gate_journal.specs.declared.journal.Journal.{Journal}
use Rattle.metatile_locks.specs.Running.{has_number, is_render_of}
use Rattle.metatile_locks.specs.Tickets.{Ticketed}
use Rattle.metatile_locks.proofs.Lists.{few, fewer}
use Rattle.raster_field.specs.Blocks.{blob_size}
use Rattle.cabinet.specs.declared.entry.HistoryEntry.TheVariants as entry
use Rattle.cabinet.specs.declared.judged.Judged.TheVariants as judged
use Rattle.cabinet.specs.declared.kept.Kept.{Kept}
use Rattle.cabinet.specs.declared.replies.Finished.TheVariants as finished
use Rattle.cabinet.specs.Commands.{Abandons, Finishes, kept_at, place_for}
use Rattle.cabinet.specs.History.{CabinetStanding, but, is_of, stored_entry}
use Rattle.cabinet.specs.State.{IsKnown, State, blobs_with, now, with_blob, with_entry}
use Rattle.cabinet.specs.Steps.{Judges}
use Rattle.cabinet.proofs.Rows.{finishes_known, now_more}
use Rattle.cabinet_records.specs.Recorded.{IsRecordedIn, stored_record}
use Rattle.cabinet_records.proofs.RecordedKept.{finish_recorded}
use Rattle.durable_cabinet.specs.Backing.{RecordLeads, StoresBlob, with_away}
use Rattle.durable_cabinet.specs.Drafts.{needed}
use Rattle.durable_cabinet.specs.Filed.{on_disk}
use Rattle.durable_cabinet.specs.Images.{IsLeft, Lasts, Restores, blobs_start}
use Rattle.durable_cabinet.specs.Missed.{Misses}
use Rattle.durable_cabinet.proofs.Forcing.{ended_alike}
use Rattle.durable_cabinet.proofs.Leading.{beside_of}
use Rattle.durable_cabinet.proofs.Moving.{blob_there, entered_on, kept_more}

both_true : (a b : Bool) → (a && b) ≡ true → a ≡ true
both_true true b e = refl
both_true false b e = e

module _ (s : State) (known : IsKnown s) (t : Ticketed) (x : Kept) (fits : Judges s t (judged.Fits x)) where
  abbrev zeros : List ℕ
  zeros = replicate x.length 0

  -- the blob of what is kept is as long as its metatile's
  abbrev long_is : x.length ≡ blob_size s.catalogue t.meta
  long_is = ap (λ (k : Kept). k.length) fits.4

  abbrev row_of : (blob : List ℕ) → length blob ≡ blob_size s.catalogue t.meta → Finishes s t blob finished.Kept (with_blob s x blob)
  row_of blob long =
      (fits.0, fits.1, fits.2, (x.place, subst (λ (n : ℕ). place_for s n ≡ Some x.place) (sym long) fits.3, ap (λ (k : Kept). with_blob s k blob) (fits.4 ∙ ap (λ (n : ℕ). kept_at t fits.0 x.place n) (sym long))))

  abbrev zeros_long : length zeros ≡ blob_size s.catalogue t.meta
  zeros_long = length-replicate x.length 0 ∙ long_is

  pub kept_on_disk : (told : Bool) (seen : Content) (blob : List ℕ) (u : State) → length blob ≡ blob_size s.catalogue t.meta → u ≡ with_blob (on_disk told seen s) x blob → Finishes (on_disk told seen s) t blob finished.Kept u
  kept_on_disk told seen blob u long is = (
    fits.0,
    fits.1,
    fits.2,
    (
      x.place,
      subst (λ (n : ℕ). place_for s n ≡ Some x.place) (sym long) fits.3,
      is ∙ ap (λ (k : Kept). with_blob (on_disk told seen s) k blob) (fits.4 ∙ ap (λ (n : ℕ). kept_at t fits.0 x.place n) (sym long)),
    ),
  )

  abbrev pub unkept : State
  unkept = with_entry s (entry.Ended t.number)

  -- what would be kept is the blob that a read of the disk gives
  misses : (seen : Content) → Misses (on_disk true seen s) (on_disk true seen (with_away s x)) (on_disk true seen unkept)
  misses seen =
      let at = blobs_start s.catalogue + x.place in
      let blob = bytes_at seen at x.length in
      inl (t, blob, kept_on_disk true seen blob (on_disk true seen (with_away s x)) (length-bytes_at seen at x.length ∙ long_is) (blob_there true seen s x zeros blob (λ is. refl)), entered_on true seen s (entry.Ended t.number) refl)

  pub finish_leads : RecordLeads s unkept (with_away s x) (stored_record x)
  finish_leads =
      let k = finishes_known s (with_away s x) t zeros finished.Kept known zeros_long (row_of zeros zeros_long) in
      let same : kept_at t fits.0 x.place (length zeros) ≡ x = sym (fits.4 ∙ ap (λ (n : ℕ). kept_at t fits.0 x.place n) (sym zeros_long)) in
      record {
        known = k.known;
        is_beside = beside_of s (with_away s x) k (inr (inl (x, kept_more s (stored_entry x) (option_map (blobs_with x zeros) s.blobs))));
        recorded = λ entries r. subst (λ (y : Kept). IsRecordedIn (with_away s x) (entries ++ Some (stored_record y) ∷ [])) same (finish_recorded s (with_away s x) entries t zeros known r zeros_long (row_of zeros zeros_long));
        alike = ended_alike s t.number;
        misses = misses;
      }

  -- a render that runs is ended so
  pub unkept_is : (u : State) → Abandons s t u → u ≡ unkept
  unkept_is u (inl a) = absurd (let e : None ≡ Some _ = sym a.0 ∙ fits.1 in cc)
  unkept_is u (inr a) = a.1

  -- the room that a compaction may come to need: what was running is kept
  pub needed_kept : needed (with_away s x) ≤ needed s
  needed_kept =
      let ks = (now s).kept in
      let number : x.number ≡ t.number = ap (λ (k : Kept). k.number) fits.4 in
      let gone : length (filter (λ r. not (has_number x.number r)) (now s).out) + 1 ≤ length (now s).out =
      subst (λ (n : ℕ). length (filter (λ r. not (has_number n r)) (now s).out) + 1 ≤ length (now s).out) (sym number)
      (fewer (is_render_of t) (λ r. not (has_number t.number r)) (λ r is. ap not (both_true (r.number == t.number) _ is)) (now s).out _ fits.1) in
      subst (λ (n : CabinetStanding). 1 + length n.book.cuts + length n.kept + length n.out ≤ needed s) (sym (now_more s (stored_entry x) (option_map (blobs_with x zeros) s.blobs)))
      (omega (arith, gone, length-append (but x.meta ks) (x ∷ []), few (λ y. not (is_of x.meta y)) ks))

  -- ON A DISK

  pub fault_on_disk : (told : Bool) (old new : Content) (blob : List ℕ) (u : State) (before after' : ℕ) → length blob ≡ blob_size s.catalogue t.meta → Rose before after' → Abandons s t u → on_disk told new s ≡ on_disk told old s
      → Finishes (on_disk told old s) t blob (finished.DiskFault before after') (on_disk told new u)
  fault_on_disk told old new blob u before after' long rose (inl a) same = absurd (let e : None ≡ Some _ = sym a.0 ∙ fits.1 in cc)
  fault_on_disk told old new blob u before after' long rose (inr a) same = (
    fits.0,
    fits.1,
    fits.2,
    ap is_some (subst (λ (n : ℕ). place_for s n ≡ Some x.place) (sym long) fits.3),
    rose,
    ap (on_disk told new) a.1 ∙ entered_on told new s (entry.Ended t.number) refl ∙ ap (λ (y : State). with_entry y (entry.Ended t.number)) same,
  )

  pub finish_images : {T E : Type 0} (told : Bool) (blob : List ℕ) (old new : DiskState) (result : Result T E) (start : ℕ) (j j' : Journal) → length blob ≡ blob_size s.catalogue t.meta → StoresBlob result told s unkept x blob start j j' old new → IsTrue told
      → Lasts (on_disk told old.seen s) (λ u. Finishes (on_disk told old.seen s) t blob finished.Kept u) j old new
  finish_images told blob old new result start j j' long w is =
      leaves_as old new (λ image. IsLeft (on_disk told old.seen s) j old image ⊎ Restores (with_blob (on_disk told old.seen s) x blob) image) _ (w.images is) (λ image left. moment image left)
    where
      moment : (image : Content) → IsLeft (on_disk told old.seen s) j old image ⊎ Restores (with_blob (on_disk told old.seen s) x blob) image
          → IsLeft (on_disk told old.seen s) j old image ⊎ ((u : State) × Finishes (on_disk told old.seen s) t blob finished.Kept u × Restores u image)
      moment image (inl left) = inl left
      moment image (inr restores) = inr (with_blob (on_disk told old.seen s) x blob, kept_on_disk told old.seen blob (with_blob (on_disk told old.seen s) x blob) long refl, restores)
