-- What a word sees of its disk and of its output.
use Rattle.std.specs.Prelude.{ℕ, Bool, List}
use Rattle.std.specs.Io.KnownBytes.{Appends}
use Rattle.base.specs.Causes.{Rose}
use Rattle.disk_model.specs.Images.{DiskState}
use Rattle.tile_requests.specs.Sent.{AppendsFront}
use Rattle.sessions.specs.Outside.{FaultCounts, OutputChange}

-- what a word saw of its disk: whether it is modelled, its faults, and what is modelled of it, before the word and after it
pub record DiskChange : Type 1 where
  pub told : Bool
  pub faults : FaultCounts
  pub from : DiskState
  pub to : DiskState

-- the disk's count of faults rose
abbrev pub HasFailed : DiskChange → Type 0
HasFailed d = Rose d.faults.before d.faults.after

-- the whole text went out
abbrev pub HasWritten : OutputChange → List ℕ → Type 0
HasWritten o text = Appends o.from o.to text

-- a part of the text did, and then a write failed
abbrev pub IsCutShort : OutputChange → List ℕ → Type 0
IsCutShort o text = AppendsFront o.from o.to text × Rose o.writes.before o.writes.after
