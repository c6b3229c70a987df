-- A blob that was written, and its parts.
use Rattle.std.proofs.Common.{◌≡◌, ℕ, ◌+◌, ◌≤◌, List, length, take, drop, refl, sym, ◌∙◌, ap, subst, arith, length-drop, Result, Ok, Err, OnOk}
use Rattle.std.proofs.lemmas.List.{length-take, get_or-take, get_or-drop}
use Rattle.disk_model.specs.Content.{Content, byte_at, bytes_at, written}
use Rattle.disk_model.specs.Images.{Every, Only}
use Rattle.disk_model.specs.Writes.{length-written, torn_written, written_others, written_within}
use Rattle.disk_model.proofs.Reading.{byte-bytes_at, is_bytes_at}
use Rattle.blob_store.specs.Blob.{HasBlob}

blob_written : (place : ℕ) (blob : List ℕ) (before : Content) → HasBlob place blob before (written place blob before)
blob_written place blob before = record {
  held = sym (is_bytes_at (written place blob before) place (length blob) blob refl (λ i lt. sym (written_within place blob before i lt)));
  within = λ some. omega (arith, length-written place blob before some);
  no_shorter = (torn_written place blob before).no_shorter;
  others = written_others place blob before;
}

-- once the write is on the disk, each image has the blob
pub blob_kept : (place : ℕ) (blob : List ℕ) (before after : Content) (images : Content → Type 0) → after ≡ written place blob before → Only after images → Every images (HasBlob place blob before)
blob_kept place blob before after images is only c now = subst (HasBlob place blob before) (sym (only c now ∙ is)) (blob_written place blob before)

-- a part of the blob that stands at a place
pub part_of_blob : (c : Content) (place start size : ℕ) (blob : List ℕ) → bytes_at c place (length blob) ≡ blob → start + size ≤ length blob → bytes_at c (place + start) size ≡ take size (drop start blob)
part_of_blob c place start size blob held fits =
    sym (is_bytes_at c (place + start) size (take size (drop start blob)) (omega (arith, length-take size (drop start blob), length-drop start blob)) (λ i lt.
    let e : place + (start + i) ≡ place + start + i = omega arith in
    get_or-take size (drop start blob) i 0 lt ∙ get_or-drop start blob i 0 ∙ ap (λ (l : List ℕ). byte_at l (start + i)) (sym held) ∙ byte-bytes_at c place (length blob) (start + i) (omega arith) ∙ ap (byte_at c) e))

-- two facts for a result, and what follows from both
pub on_ok_both : {T E A B C : Type 0} (result : Result T E) → OnOk result A → OnOk result B → (A → B → C) → OnOk result C
on_ok_both (Ok value) a b both = both a b
on_ok_both (Err fault) a b both = tt
