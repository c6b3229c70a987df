-- What a call of a journal does to its disk.
use Rattle.std.specs.Prelude.{◌≡◌, ◌≢◌, ◌⊎◌, ℕ, ◌+◌, ◌*◌, ◌<◌, ◌≤◌, List, length, Result, OnOk, OnErr}
use Rattle.disk_model.specs.Content.{byte_at, bytes_at}
use Rattle.disk_model.specs.Images.{DiskState, Every, Only, Leaves, ChangesBy}
use Rattle.gate_journal.specs.declared.standing.Standing.{Standing}
use Rattle.gate_journal.specs.declared.journal.Journal.{Journal}
use Rattle.gate_journal.specs.Layout.{Layout, half_at, header_gate, other_half, journal_length}
use Rattle.gate_journal.specs.Opened.{Opening, records}
use Rattle.gate_journal.specs.Sound.{layout_of, IsLaidOut, IsSoundAs, Stands, kept_by, opens_by, other_as, slot_of, SameFrom}

-- A call that is to lead to the records `after`, and while it runs may let an image open to `second`.
pub record MovesAs {T E : Type 0} (result : Result T E) (after : List (List ℕ)) (second : Opening) (l l' : Layout) (standing : Standing) (gate : ℕ) (old new : DiskState) : Type 0 where
  pub sound : IsSoundAs standing gate l' new
  pub done : OnOk result (kept_by l' new.seen ≡ after)
  -- where it failed the records are as before
  pub failed : OnErr result (kept_by l' new.seen ≡ kept_by l old.seen)
  pub undecided : OnErr result ((other_as standing gate l' new.seen ≡ records l.version (kept_by l old.seen)) ⊎ (other_as standing gate l' new.seen ≡ second))
  -- a crash at any moment leaves the records from before it, or the second
  pub any_moment : Leaves old new (λ c. (opens_by l c ≡ records l.version (kept_by l old.seen)) ⊎ (opens_by l c ≡ second))
  -- and nothing past the journal changes, in what a read gives and in each image
  pub past : ChangesBy (SameFrom (journal_length l.slots)) old new

abbrev pub Moves : {T E : Type 0} → Result T E → List (List ℕ) → Opening → Journal → Journal → DiskState → DiskState → Type 0
Moves result after second old new before now = MovesAs result after second (layout_of old) (layout_of new) new.standing new.gate before now

-- Some calls after which the journal's half is in force with its records, and which at each moment leave nothing else.
pub record KeepsRecords (l : Layout) (old new : DiskState) : Type 0 where
  pub stands : Every new.may_leave (Stands l new.seen)
  pub same_records : kept_by l new.seen ≡ kept_by l old.seen
  pub any_moment : Leaves old new (λ c. opens_by l c ≡ records l.version (kept_by l old.seen))
  pub past : ChangesBy (SameFrom (journal_length l.slots)) old new

-- The other half holds these bodies behind a header whose gate is closed, and all of it is on the disk.
pub record IsFilled (l : Layout) (bodies : List (List ℕ)) (disk : DiskState) : Type 0 where
  pub durable : Only disk.seen disk.may_leave
  pub whole : journal_length l.slots ≤ length disk.seen
  pub laid_out : IsLaidOut l disk.seen
  pub shut : byte_at disk.seen (header_gate (other_half l.half)) ≢ 1
  pub slots : (k : ℕ) → k < l.slots → bytes_at disk.seen (half_at l.slots (other_half l.half) + 64 * k) 64 ≡ slot_of bodies k
