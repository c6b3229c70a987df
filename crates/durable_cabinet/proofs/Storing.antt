-- A blob is put into its gap, and its record is entered.
use Rattle.std.proofs.Common.{ℕ, ◌≡◌, ◌⊎◌, ◌+◌, Bool, IsTrue, List, [], ◌∷◌, length, not, replicate, sym, ap, subst, ◌∙◌, inl, inr, Result, Ok, Err, OnOk}
use Rattle.disk_model.specs.Content.{Content, bytes_at}
use Rattle.disk_model.specs.Images.{DiskState, Leaves}
use Rattle.disk_model.specs.Moments.{leaves_as, leaves_then}
use Rattle.gate_journal.specs.declared.journal.Journal.{Journal}
use Rattle.gate_journal.specs.Sound.{IsSettled}
use Rattle.metatile_locks.proofs.Lists.{all_filter, all_joined}
use Rattle.cabinet.specs.declared.kept.Kept.{Kept}
use Rattle.cabinet.specs.History.{but, is_of, stored_entry}
use Rattle.cabinet.specs.State.{IsKnown, State, blobs_with, now, with_blob}
use Rattle.cache_file.specs.File.{HoldsBlob, Stays}
use Rattle.durable_cabinet.specs.Alike.{IsAlikeTo}
use Rattle.durable_cabinet.specs.Backing.{Enters, Rests, StoresBlob, with_away}
use Rattle.durable_cabinet.specs.Filed.{IsFiled, IsHeldOn, on_disk}
use Rattle.durable_cabinet.specs.Images.{IsLeft, Restores, blobs_start}
use Rattle.std.specs.Option.{option_map}
use Rattle.durable_cabinet.proofs.Blobs.{AreHeld, AreSpared, all_same, same_on}
use Rattle.durable_cabinet.proofs.Calling.{kept_settled, kept_stays, settled_moment}
use Rattle.durable_cabinet.proofs.Forcing.{filed_alike}
use Rattle.durable_cabinet.proofs.Moving.{blob_there, kept_more}

-- THE PUT

module _ (told : Bool) (s : State) (known : IsKnown s) (start : ℕ) (j : Journal) (old : DiskState) (filed : IsFiled s told start j old) (settled : IsSettled j) (spared : ℕ → ℕ → Type 0) (free : AreSpared spared (now s).kept)
    (new : DiskState) (stays : IsTrue told → Stays start spared j old new) (reads : IsTrue told → new.may_leave new.seen) where
  call : IsTrue told → Stays (blobs_start s.catalogue) spared j old new
  call is = subst (λ (n : ℕ). Stays n spared j old new) filed.start_is (stays is)

  pub put_filed : (start' : ℕ) (j' : Journal) → start' ≡ start → j' ≡ j → IsFiled s told start' j' new
  put_filed start' j' same_start same_journal =
      subst (λ (n : ℕ). IsFiled s told n j' new) (sym same_start) (subst (λ (x : Journal). IsFiled s told start x new) (sym same_journal)
      (record {
        digest = filed.digest;
        slots = filed.slots;
        version = filed.version;
        start_is = filed.start_is;
        on = λ is. kept_stays s known j old filed.digest filed.slots (kept_settled s j old known settled (filed.on is)) spared free new free (call is) (reads is);
      }))

  pub put_same : on_disk told new.seen s ≡ on_disk told old.seen s
  put_same = same_on told s old.seen new.seen (λ is. all_same s.catalogue old new spared (call is).keeps (reads is) (now s).kept free (filed.on is).holds)

  pub put_images : IsTrue told → Leaves old new (Restores (on_disk told old.seen s))
  put_images is =
      subst (λ (b : Bool). Leaves old new (Restores (on_disk b old.seen s))) (sym is)
      (leaves_as old new _ _ (call is).any_moment (λ image. settled_moment s known j old filed.digest filed.slots (filed.on is) spared free settled image))

-- THE WHOLE

on_ok_any : {T E : Type 0} (P : Type 0) (result : Result T E) → P → OnOk result P
on_ok_any P (Ok value) p = p
on_ok_any P (Err fault) p = tt

-- the blob stands where it was put
pub stands_at : (s : State) (t : Kept) (blob : List ℕ) (start : ℕ) (disk : DiskState) → start ≡ blobs_start s.catalogue → length blob ≡ t.length → HoldsBlob start t.place blob disk → disk.may_leave disk.seen
    → bytes_at disk.seen (blobs_start s.catalogue + t.place) t.length ≡ blob
stands_at s t blob start disk same long holds reads =
    subst (λ (n : ℕ). bytes_at disk.seen (blobs_start s.catalogue + t.place) n ≡ blob) long (subst (λ (n : ℕ). bytes_at disk.seen (n + t.place) (length blob) ≡ blob) same (holds disk.seen reads).bytes)

pub away_held : (s : State) (t : Kept) (blob : List ℕ) (start : ℕ) (disk : DiskState) → start ≡ blobs_start s.catalogue → length blob ≡ t.length → HoldsBlob start t.place blob disk → disk.may_leave disk.seen
    → AreHeld s.catalogue disk (now s).kept → AreHeld s.catalogue disk (now (with_away s t)).kept
away_held s t blob start disk same long holds reads h =
    let c = s.catalogue in
    let own : IsHeldOn c disk t = subst (λ (b : List ℕ). HoldsBlob (blobs_start c) t.place b disk) (sym (stands_at s t blob start disk same long holds reads)) (subst (λ (n : ℕ). HoldsBlob n t.place blob disk) same holds) in
    subst (AreHeld c disk) (sym (kept_more s (stored_entry t) (option_map (blobs_with t (replicate t.length 0)) s.blobs)))
    (all_joined (IsHeldOn c disk) (but t.meta (now s).kept) (t ∷ []) (all_filter (IsHeldOn c disk) (λ x. not (is_of t.meta x)) (now s).kept h) (own, tt))

module _ (told : Bool) (s missed : State) (alike : IsAlikeTo s missed) (t : Kept) (blob : List ℕ) (j0 : Journal) (d0 d1 d2 : DiskState) (rests : Rests told s j0 d0 d1) (same_put : on_disk told d2.seen s ≡ on_disk told d1.seen s)
    (images_put : IsTrue told → Leaves d1 d2 (Restores (on_disk told d1.seen s))) where
  abbrev AtStore : Content → Type 0
  AtStore image = IsLeft (on_disk told d0.seen s) j0 d0 image ⊎ Restores (with_blob (on_disk told d0.seen s) t blob) image

  images_before : IsTrue told → Leaves d0 d2 AtStore
  images_before is = leaves_then d0 d1 d2 AtStore
      (leaves_as d0 d1 (IsLeft (on_disk told d0.seen s) j0 d0) AtStore (rests.images is) (λ image left. inl left))
      (leaves_as d1 d2 (Restores (on_disk told d1.seen s)) AtStore (images_put is) (λ image restores. inl (inl (subst (λ (x : State). Restores x image) rests.same restores))))

  pub stores_failed : {T E : Type 0} (start : ℕ) (j : Journal) (fault : E) → IsFiled s told start j d2 → StoresBlob {T = T} {E = E} (Err fault) told s missed t blob start j0 j d0 d2
  stores_failed start j fault then = record { ok = tt; err = filed_alike told s missed start j d2 alike then; same = same_put ∙ rests.same; there = tt; images = images_before }

  pub stores_then : {T E : Type 0} (result : Result T E) (start : ℕ) (j : Journal) (d3 : DiskState) → (IsTrue told → bytes_at d2.seen (blobs_start s.catalogue + t.place) t.length ≡ blob) → Enters result told s missed (with_away s t) start j d2 d3
      → StoresBlob result told s missed t blob start j0 j d0 d3
  stores_then result start j d3 stands e = record {
    ok = e.written.ok;
    err = e.written.err;
    same = e.written.same ∙ same_put ∙ rests.same;
    there = on_ok_any (on_disk told d3.seen (with_away s t) ≡ with_blob (on_disk told d0.seen s) t blob) result (e.written.same_next ∙ then_there);
    images = λ is. leaves_then d0 d2 d3 AtStore (images_before is) (leaves_as d2 d3 (λ image. Restores (on_disk told d2.seen s) image ⊎ Restores (on_disk told d2.seen (with_away s t)) image) AtStore (e.images is) (λ image. later image));
  }
    where
      then_there : on_disk told d2.seen (with_away s t) ≡ with_blob (on_disk told d0.seen s) t blob
      then_there = blob_there told d2.seen s t (replicate t.length 0) blob stands ∙ ap (λ (x : State). with_blob x t blob) (same_put ∙ rests.same)

      later : (image : Content) → Restores (on_disk told d2.seen s) image ⊎ Restores (on_disk told d2.seen (with_away s t)) image → AtStore image
      later image (inl restores) = inl (inl (subst (λ (x : State). Restores x image) (same_put ∙ rests.same) restores))
      later image (inr restores) = inr (subst (λ (x : State). Restores x image) then_there restores)

-- a file that isn't ready
pub stores_unready : {T E : Type 0} (told : Bool) (s missed : State) (t : Kept) (blob : List ℕ) (start : ℕ) (j0 j : Journal) (d0 d1 : DiskState) (fault : E) → IsAlikeTo s missed → Rests told s j0 d0 d1 → IsFiled s told start j d1 → StoresBlob {T = T} {E = E} (Err fault) told s missed t blob start j0 j d0 d1
stores_unready told s missed t blob start j0 j d0 d1 fault alike rests then = record {
  ok = tt;
  err = filed_alike told s missed start j d1 alike then;
  same = rests.same;
  there = tt;
  images = λ is. leaves_as d0 d1 (IsLeft (on_disk told d0.seen s) j0 d0) _ (rests.images is) (λ image left. inl left);
}
