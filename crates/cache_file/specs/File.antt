-- What the file of a cache holds, and what its calls do to it. The place of a blob counts from where the blobs begin.
use Rattle.std.specs.Prelude.{◌≡◌, ◌⊎◌, ℕ, zero, suc, ◌+◌, ◌<◌, ◌≤◌, List, length, Result, Ok, Err, OnOk, OnErr, ⊤}
use Rattle.disk_model.specs.Content.{Content, bytes_at}
use Rattle.disk_model.specs.Images.{DiskState, Every, Leaves}
use Rattle.gate_journal.specs.declared.fault.OpenFault.{OpenFault}
use Rattle.gate_journal.specs.declared.journal.Journal.{Journal}
use Rattle.gate_journal.specs.Opened.{Opening, opened, records}
use Rattle.gate_journal.specs.Sound.{IsSound, digest_of, kept, other, slots_of, version_of}
use Rattle.cache_file.specs.declared.file.CacheFile.{CacheFile}

-- what an image opens to, under the digest of a journal and with its slots
abbrev pub opens_to : Journal → Content → Opening
opens_to j c = opened (digest_of j) (slots_of j) c

-- the records of a journal, as an opening
abbrev pub held : Journal → DiskState → Opening
held j disk = records (version_of j) (kept j disk.seen)

-- what an image may also open to while a gate is undecided; else the records
abbrev pub unsure : Journal → DiskState → Opening
unsure j disk = other j disk.seen

-- the records from before a call, what was unsure then, or what the call is to bring
abbrev pub IsAmong : Journal → DiskState → Opening → Opening → Type 0
IsAmong j old after o = (o ≡ held j old) ⊎ (o ≡ unsure j old) ⊎ (o ≡ after)

-- where there is room the records as they are, else these, of version 2
abbrev pub readied : ℕ → Opening → List (List ℕ) → Opening
readied zero before bodies = records 2 bodies
readied (suc room) before bodies = before

-- An image has a blob from a byte on.
pub record HasBlobAt (at : ℕ) (blob : List ℕ) (c : Content) : Type 0 where
  pub bytes : bytes_at c at (length blob) ≡ blob
  pub within : 0 < length blob → at + length blob ≤ length c

-- each image has a blob at a place of the blobs, which begin at `start`
abbrev pub HoldsBlob : ℕ → ℕ → List ℕ → DiskState → Type 0
HoldsBlob start place blob disk = Every disk.may_leave (HasBlobAt (start + place) blob)

-- any m bytes from any place on
abbrev pub Anywhere : ℕ → ℕ → Type 0
Anywhere other m = ⊤

-- n bytes from a place on, and m bytes from another one on, don't meet
abbrev pub IsApart : ℕ → ℕ → ℕ → ℕ → Type 0
IsApart place n other m = (other + m ≤ place) ⊎ (place + n ≤ other)

-- An image has the journal whole, and each blob that was held before a call, where the call spares its bytes.
pub record HasHeld (start : ℕ) (spared : ℕ → ℕ → Type 0) (old : DiskState) (c : Content) : Type 0 where
  pub whole : start ≤ length c
  pub blobs : (place : ℕ) (blob : List ℕ) → spared place (length blob) → HoldsBlob start place blob old → HasBlobAt (start + place) blob c

-- What a call on the records came to, which is to bring these.
pub record Brings {T E : Type 0} (result : Result T E) (after : Opening) (start : ℕ) (j j' : Journal) (old new : DiskState) : Type 0 where
  pub sound : IsSound j' new
  pub done : OnOk result (held j' new ≡ after)
  -- where it failed the records are as before
  pub failed : OnErr result (held j' new ≡ held j old)
  pub then_unsure : IsAmong j old after (unsure j' new)
  -- each blob is still held
  pub keeps : Every new.may_leave (HasHeld start Anywhere old)
  -- a crash at any moment leaves the records from before it, what was unsure then, or what it brings, and each blob
  pub any_moment : Leaves old new (λ c. IsAmong j old after (opens_to j c) × HasHeld start Anywhere old c)

-- A call that leaves the records as they were, and what was unsure; a crash at any moment leaves one of the two, and each blob
-- whose bytes the call spares.
pub record Stays (start : ℕ) (spared : ℕ → ℕ → Type 0) (j : Journal) (old new : DiskState) : Type 0 where
  pub sound : IsSound j new
  pub same_records : held j new ≡ held j old
  pub same_unsure : unsure j new ≡ unsure j old
  pub keeps : Every new.may_leave (HasHeld start spared old)
  pub any_moment : Leaves old new (λ c. ((opens_to j c ≡ held j old) ⊎ (opens_to j c ≡ unsure j old)) × HasHeld start spared old c)

-- the disk after an opening, which a refusal hands back
abbrev pub disk_of : {D : Type 0} → Result (CacheFile D) (OpenFault × D) → D
disk_of (Ok file) = file.disk
disk_of (Err refusal) = refusal.1
