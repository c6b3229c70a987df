-- The blobs of what is kept, while calls of its file change the disk.
use Rattle.std.proofs.Common.{ℕ, ◌≡◌, ◌+◌, Bool, true, false, IsTrue, List, [], ◌∷◌, map, Some, refl, sym, ap, subst}
use Rattle.std.specs.List.{AllByRecursion}
use Rattle.disk_model.specs.Content.{Content, bytes_at}
use Rattle.disk_model.specs.Images.{DiskState, Every}
use Rattle.disk_model.proofs.Reading.{length-bytes_at}
use Rattle.catalog.specs.declared.catalogue.Catalogue.{Catalogue}
use Rattle.cabinet.specs.declared.kept.Kept.{Kept}
use Rattle.cabinet.specs.State.{State, now}
use Rattle.cache_file.specs.File.{HasBlobAt, HasHeld}
use Rattle.durable_cabinet.specs.Filed.{IsHeldOn, on_disk}
use Rattle.durable_cabinet.specs.Images.{HasIn, blob_on, blobs_start}

-- the regions of these are spared
abbrev pub AreSpared : (ℕ → ℕ → Type 0) → List Kept → Type 0
AreSpared spared ts = AllByRecursion (λ t. spared t.place t.length) ts

abbrev pub AreHeld : Catalogue → DiskState → List Kept → Type 0
AreHeld c disk ts = AllByRecursion (IsHeldOn c disk) ts

module _ (c : Catalogue) (old : DiskState) (spared : ℕ → ℕ → Type 0) where
  abbrev blob : Kept → List ℕ
  blob t = bytes_at old.seen (blobs_start c + t.place) t.length

  -- an image that has each spared blob has that of what is kept there
  pub has_blob : (t : Kept) (image : Content) → HasHeld (blobs_start c) spared old image → spared t.place t.length → IsHeldOn c old t → HasBlobAt (blobs_start c + t.place) (blob t) image
  has_blob t image has free holds = has.blobs t.place (blob t) (subst (spared t.place) (sym (length-bytes_at old.seen (blobs_start c + t.place) t.length)) free) holds

  pub has_all : (ts : List Kept) (image : Content) → HasHeld (blobs_start c) spared old image → AreSpared spared ts → AreHeld c old ts → AllByRecursion (HasIn c image) (map (blob_on c old.seen) ts)
  has_all [] image has free holds = tt
  has_all (t ∷ ts) image has free holds = (has_blob t image has free.0 holds.0, has_all ts image has free.1 holds.1)

module _ (c : Catalogue) (old new : DiskState) (spared : ℕ → ℕ → Type 0) (keeps : Every new.may_leave (HasHeld (blobs_start c) spared old)) (reads : new.may_leave new.seen) where
  -- it reads as before
  pub same_bytes : (t : Kept) → spared t.place t.length → IsHeldOn c old t → bytes_at new.seen (blobs_start c + t.place) t.length ≡ bytes_at old.seen (blobs_start c + t.place) t.length
  same_bytes t free holds =
      let at = blobs_start c + t.place in
      subst (λ n. bytes_at new.seen at n ≡ bytes_at old.seen at t.length) (length-bytes_at old.seen at t.length) (has_blob c old spared t new.seen (keeps new.seen reads) free holds).bytes

  pub still_held : (t : Kept) → spared t.place t.length → IsHeldOn c old t → IsHeldOn c new t
  still_held t free holds image now =
      subst (λ b. HasBlobAt (blobs_start c + t.place) b image) (sym (same_bytes t free holds)) (has_blob c old spared t image (keeps image now) free holds)

  pub all_same : (ts : List Kept) → AreSpared spared ts → AreHeld c old ts → map (blob_on c new.seen) ts ≡ map (blob_on c old.seen) ts
  all_same [] free holds = refl
  all_same (t ∷ ts) free holds = λ k. record { kept = t; text = same_bytes t free.0 holds.0 k } ∷ all_same ts free.1 holds.1 k

  pub all_still : (ts : List Kept) → AreSpared spared ts → AreHeld c old ts → AreHeld c new ts
  all_still [] free holds = tt
  all_still (t ∷ ts) free holds = (still_held t free.0 holds.0, all_still ts free.1 holds.1)

-- the cabinet on a disk that reads as before in what is kept
pub same_on : (told : Bool) (s : State) (old new : Content) → (IsTrue told → map (blob_on s.catalogue new) (now s).kept ≡ map (blob_on s.catalogue old) (now s).kept) → on_disk told new s ≡ on_disk told old s
same_on true s old new same = ap (λ b. record { catalogue = s.catalogue; opening = s.opening; history = s.history; since = s.since; blobs = Some b; clock = s.clock }) (same refl)
same_on false s old new same = refl
