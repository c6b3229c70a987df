-- When a journal agrees with its disk.
use Rattle.std.specs.Prelude.{◌≡◌, ◌≢◌, ℕ, zero, suc, ◌-◌, ◌<◌, ◌≤◌, List, [], ◌∷◌, ◌++◌, Some, length, replicate, slice_set}
use Rattle.disk_model.specs.Content.{Content, byte_at, IsOutside}
use Rattle.disk_model.specs.Images.{DiskState, Every}
use Rattle.gate_journal.specs.declared.standing.Standing.{Standing}
use Rattle.gate_journal.specs.declared.standing.Standing.TheVariants.{Settled, Pending, Undecided}
use Rattle.gate_journal.specs.declared.journal.Journal.{Journal}
use Rattle.gate_journal.specs.Layout.{Layout, header_at, half_at, gate_at, journal_length}
use Rattle.gate_journal.specs.Opened.{bodies_at, digest_at, generation_at, version_at, half_in_force, Opening, opened, records}

abbrev pub layout_of : Journal → Layout
layout_of j = record { slots = j.slots; half = j.half; count = j.count; version = j.version; generation = j.generation; digest = j.digest }

-- the half is in force under this header, and exactly the first gates of it are open
pub record IsLaidOut (l : Layout) (c : Content) : Type 0 where
  pub in_force : half_in_force c ≡ Some l.half
  pub same_version : version_at c (header_at l.half) ≡ l.version
  pub same_generation : generation_at c (header_at l.half) ≡ l.generation
  pub same_digest : digest_at c (header_at l.half) ≡ l.digest
  pub opens : (k : ℕ) → k < l.count → byte_at c (gate_at l.slots l.half k) ≡ 1
  pub shut : (k : ℕ) → l.count ≤ k → k < l.slots → byte_at c (gate_at l.slots l.half k) ≢ 1

-- the bodies of the journal's own records
abbrev pub kept_by : Layout → Content → List (List ℕ)
kept_by l c = bodies_at c (half_at l.slots l.half) l.count

-- what a content opens to, under the journal's own digest
abbrev pub opens_by : Layout → Content → Opening
opens_by l c = opened l.digest l.slots c

-- new is old, but for the n places from `at` on
pub record SameOutside (at n : ℕ) (old new : Content) : Type 0 where
  pub same_length : length new ≡ length old
  pub others : (place : ℕ) → IsOutside at n place → byte_at new place ≡ byte_at old place

-- new is old up to a place
abbrev pub SameBefore : ℕ → Content → Content → Type 0
SameBefore end old new = (place : ℕ) → place < end → byte_at new place ≡ byte_at old place

-- new is old from a place on, with the same end
pub record SameFrom (start : ℕ) (old new : Content) : Type 0 where
  pub same_length : length new ≡ length old
  pub others : (place : ℕ) → start ≤ place → byte_at new place ≡ byte_at old place

-- an image holds the whole journal, laid out for it, with the records that a read gives
pub record Stands (l : Layout) (seen image : Content) : Type 0 where
  pub whole : journal_length l.slots ≤ length image
  pub laid_out : IsLaidOut l image
  pub same_records : kept_by l image ≡ kept_by l seen

-- what an image may also open to where this gate is undecided: that of the disk as it reads, with the gate open
abbrev pub with_gate : Layout → ℕ → Content → Opening
with_gate l gate seen = opens_by l (slice_set seen gate 1)

-- An image holds the whole journal with the records that a read gives. With the gate not open it is laid out for it, and
-- with the gate open it opens to what is undecided.
pub record Wavers (l : Layout) (gate : ℕ) (seen image : Content) : Type 0 where
  pub whole : journal_length l.slots ≤ length image
  pub same_records : kept_by l image ≡ kept_by l seen
  pub shut : byte_at image gate ≢ 1 → IsLaidOut l image
  pub opens : byte_at image gate ≡ 1 → opens_by l image ≡ with_gate l gate seen

-- The journal agrees with its disk. Where it is settled, all images agree with what a read gives.
abbrev pub IsSoundAs : Standing → ℕ → Layout → DiskState → Type 0
IsSoundAs Settled gate l disk = Every disk.may_leave (λ c. Stands l disk.seen c × SameBefore (journal_length l.slots) disk.seen c)
IsSoundAs Pending gate l disk = Every disk.may_leave (Stands l disk.seen)
IsSoundAs Undecided gate l disk = Every disk.may_leave (λ d. (c : Content) → SameOutside gate 1 d c → Wavers l gate disk.seen c)

-- what an image may also open to
abbrev pub other_as : Standing → ℕ → Layout → Content → Opening
other_as Settled gate l seen = records l.version (kept_by l seen)
other_as Pending gate l seen = records l.version (kept_by l seen)
other_as Undecided gate l seen = with_gate l gate seen

-- The words for callers.

-- the journal agrees with its disk
abbrev pub IsSound : Journal → DiskState → Type 0
IsSound j disk = IsSoundAs j.standing j.gate (layout_of j) disk

-- no call has failed since it was settled
abbrev pub IsSettled : Journal → Type 0
IsSettled j = j.standing ≡ Settled

-- how many slots of the half in force stand after its records
abbrev pub room_of : Journal → ℕ
room_of j = j.slots - j.count

-- the bodies of its records
abbrev pub kept : Journal → Content → List (List ℕ)
kept j c = kept_by (layout_of j) c

-- what an image may also open to while a gate is undecided; else its records
abbrev pub other : Journal → Content → Opening
other j seen = other_as j.standing j.gate (layout_of j) seen

-- under the same digest, with halves of the same length
pub record IsAlike (old new : Journal) : Type 0 where
  pub same_slots : new.slots ≡ old.slots
  pub same_digest : new.digest ≡ old.digest

-- the version of its header and of its records
abbrev pub version_of : Journal → ℕ
version_of j = j.version

-- the generation in its header
abbrev pub generation_of : Journal → ℕ
generation_of j = j.generation

-- how many slots a half has
abbrev pub slots_of : Journal → ℕ
slots_of j = j.slots

-- the digest in its header
abbrev pub digest_of : Journal → List ℕ
digest_of j = j.digest

-- a slot of a half that holds these bodies: one of them behind an open gate, or zeros
abbrev pub slot_of : List (List ℕ) → ℕ → List ℕ
slot_of [] k = replicate 64 0
slot_of (body ∷ bodies) zero = body ++ 1 ∷ []
slot_of (body ∷ bodies) (suc k) = slot_of bodies k
