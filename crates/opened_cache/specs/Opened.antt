-- How the cabinet of a disk is opened for a word, and how it is refused.
use Rattle.std.specs.Prelude.{◌≡◌, ◌<◌, ◌^◌, ◌⊎◌, IsTrue}
use Rattle.cabinet.specs.State.{IsSound, State}
use Rattle.cabinet_records.specs.Replay.{Replayed}
use Rattle.catalog.specs.declared.catalogue.Catalogue.{Catalogue}
use Rattle.base.specs.Readings.{Readings}
use Rattle.durable_cabinet.specs.Filed.{IsRefusedAs, opened_as}
use Rattle.disk_model.specs.Images.{Every}
use Rattle.durable_cabinet.specs.Images.{IsSoundImage, OpensTo}
use Rattle.gate_journal.specs.declared.fault.OpenFault.{OpenFault}
use Rattle.gate_journal.specs.declared.fault.OpenFault.TheVariants as fault
use Rattle.opened_cache.specs.Change.{DiskChange, HasFailed}
use Rattle.opened_cache.specs.Crash.{IsLeft, IsRestored, LeavesAsItWas, OpeningLeaves}

-- where the disk is modelled its content opened to these records, and the cabinet began with what they come to, under a number
-- below 2^24
pub record IsOpened (c : Catalogue) (clock : Readings) (d : DiskChange) (s : State) : Type 0 where
  pub replayed : Replayed
  pub begins : s ≡ opened_as d.told d.from.seen c clock replayed
  pub opens : IsTrue d.told → OpensTo c d.from.seen replayed
  pub number : s.opening.number < 2 ^ 24

-- A cabinet was opened, came from one state to another, and left its disk. Where what the disk held was the pictures of the numbers, so is what
-- was opened; and where what the cabinet came to is, so is each image that a crash then leaves, unless the disk failed.
pub record HasOpened (c : Catalogue) (clock : Readings) (d : DiskChange) (first last : State) : Type 0 where
  pub opened : IsOpened c clock d first
  pub left : IsLeft c d last
  pub restored : IsRestored d last
  pub begins_sound : IsTrue d.told → IsSoundImage c d.from.seen → IsSound first
  pub leaves_sound : IsSound last → HasFailed d ⊎ (IsTrue d.told → Every d.to.may_leave (IsSoundImage c))

-- the content of the disk was refused for this cause; a fault of the disk and want of memory are ends of their own
abbrev pub IsRefused : Catalogue → DiskChange → OpenFault → Type 0
IsRefused c d fault.NotACache = IsRefusedAs d.told c d.from.seen d.faults.before d.faults.after fault.NotACache
IsRefused c d (fault.CatalogueDiffers found asked) = IsRefusedAs d.told c d.from.seen d.faults.before d.faults.after (fault.CatalogueDiffers found asked)
IsRefused c d (fault.BadRecord slot) = IsRefusedAs d.told c d.from.seen d.faults.before d.faults.after (fault.BadRecord slot)
IsRefused c d fault.Spent = IsRefusedAs d.told c d.from.seen d.faults.before d.faults.after fault.Spent
IsRefused c d fault.DiskFault = ⊥
IsRefused c d fault.OutOfMemory = ⊥

-- what a cache that wasn't opened is left as: where its content was refused, as it was; else no more was done to it than an opening does
abbrev pub RefusalLeaves : Catalogue → DiskChange → OpenFault → Type 0
RefusalLeaves c d fault.NotACache = LeavesAsItWas d
RefusalLeaves c d (fault.CatalogueDiffers found asked) = LeavesAsItWas d
RefusalLeaves c d (fault.BadRecord slot) = LeavesAsItWas d
RefusalLeaves c d fault.Spent = OpeningLeaves c d
RefusalLeaves c d fault.DiskFault = OpeningLeaves c d
RefusalLeaves c d fault.OutOfMemory = OpeningLeaves c d
