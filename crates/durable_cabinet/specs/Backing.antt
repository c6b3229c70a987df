-- What the steps of a command on the file of a cabinet come to: making it ready, and writing a record.
use Rattle.std.specs.Prelude.{ℕ, ◌≡◌, ◌⊎◌, ◌∷◌, [], ◌++◌, Bool, true, IsTrue, List, Option, Some, Result, OnOk, OnErr, Contains, replicate}
use Rattle.std.specs.List.{AllByRecursion}
use Rattle.disk_model.specs.Content.{Content}
use Rattle.disk_model.specs.Images.{DiskState, Every, Leaves}
use Rattle.gate_journal.specs.declared.journal.Journal.{Journal}
use Rattle.record_text.specs.declared.entries.Record.{Record}
use Rattle.cabinet.specs.declared.kept.Kept.{Kept}
use Rattle.cabinet.specs.State.{IsKnown, State, now, with_blob}
use Rattle.cabinet_records.specs.Recorded.{IsRecordedIn}
use Rattle.durable_cabinet.specs.Alike.{IsAlikeTo}
use Rattle.durable_cabinet.specs.Missed.{Misses}
use Rattle.durable_cabinet.specs.Filed.{IsFiled, on_disk}
use Rattle.durable_cabinet.specs.Images.{IsBeside, IsLeft, Restores, blobs_start}
use Rattle.cache_file.specs.File.{Anywhere, HasHeld}

-- the blobs read as before, each blob is still held, and each moment leaves what could be left before
pub record Rests (told : Bool) (s : State) (j : Journal) (old new : DiskState) : Type 0 where
  pub same : on_disk told new.seen s ≡ on_disk told old.seen s
  pub keeps : IsTrue told → Every new.may_leave (HasHeld (blobs_start s.catalogue) Anywhere old)
  pub images : IsTrue told → Leaves old new (IsLeft (on_disk told old.seen s) j old)

-- a record leads from one cabinet to another, and where the disk fails its command leads to a third
pub record RecordLeads (s missed u : State) (entry : Record) : Type 0 where
  pub known : IsKnown u
  pub is_beside : IsBeside s u
  pub recorded : (entries : List (Option Record)) → IsRecordedIn s entries → IsRecordedIn u (entries ++ Some entry ∷ [])
  pub alike : IsAlikeTo s missed
  pub misses : (seen : Content) → Misses (on_disk true seen s) (on_disk true seen u) (on_disk true seen missed)

-- each region of the second is one of the first
abbrev pub IsRegionIn : List Kept → Kept → Type 0
IsRegionIn kept t = (x : Kept) × Contains kept x × (x.place ≡ t.place) × (x.length ≡ t.length)

abbrev pub AreRegionsOf : State → State → Type 0
AreRegionsOf s u = AllByRecursion (IsRegionIn (now s).kept) (now u).kept

-- where the disk failed the cabinet that this leads to is tied to its file, else the one that the record leads to; the blobs read as before
pub record IsWritten {T E : Type 0} (result : Result T E) (told : Bool) (s missed u : State) (start : ℕ) (j : Journal) (old new : DiskState) : Type 0 where
  pub ok : OnOk result (IsFiled u told start j new)
  pub err : OnErr result (IsFiled missed told start j new)
  pub same : on_disk told new.seen s ≡ on_disk told old.seen s
  pub same_next : on_disk told new.seen u ≡ on_disk told old.seen u

-- A record was written in a file that was ready, or the disk failed.
pub record Enters {T E : Type 0} (result : Result T E) (told : Bool) (s missed u : State) (start : ℕ) (j : Journal) (old new : DiskState) : Type 0 where
  pub written : IsWritten result told s missed u start j old new
  pub images : IsTrue told → Leaves old new (λ image. Restores (on_disk told old.seen s) image ⊎ Restores (on_disk told old.seen u) image)

-- A record was written in any file, or the disk failed.
pub record WritesRecord {T E : Type 0} (result : Result T E) (told : Bool) (s missed u : State) (start : ℕ) (before j : Journal) (old new : DiskState) : Type 0 where
  pub written : IsWritten result told s missed u start j old new
  pub images : IsTrue told → Leaves old new (λ image. IsLeft (on_disk told old.seen s) before old image ⊎ Restores (on_disk told old.seen u) image)

-- the cabinet with one more kept, whose blob is seen as zeros
abbrev pub with_away : State → Kept → State
with_away s t = with_blob s t (replicate t.length 0)

-- A blob was put into a gap and its record written, or the disk failed.
pub record StoresBlob {T E : Type 0} (result : Result T E) (told : Bool) (s missed : State) (t : Kept) (blob : List ℕ) (start : ℕ) (before j : Journal) (old new : DiskState) : Type 0 where
  pub ok : OnOk result (IsFiled (with_away s t) told start j new)
  pub err : OnErr result (IsFiled missed told start j new)
  pub same : on_disk told new.seen s ≡ on_disk told old.seen s
  pub there : OnOk result (on_disk told new.seen (with_away s t) ≡ with_blob (on_disk told old.seen s) t blob)
  pub images : IsTrue told → Leaves old new (λ image. IsLeft (on_disk told old.seen s) before old image ⊎ Restores (with_blob (on_disk told old.seen s) t blob) image)
