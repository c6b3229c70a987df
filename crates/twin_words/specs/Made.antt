-- What the making of a twin's three files comes to.
use Rattle.std.specs.Prelude.{ℕ, ◌⊎◌, Bool, IsTrue, List, [], None, codes}
use Rattle.cabinet_records.specs.Replay.{unplayed}
use Rattle.catalog.specs.declared.catalogue.Catalogue.{Catalogue}
use Rattle.change_feed.specs.Files.{EndsIn}
use Rattle.disk_model.specs.Images.{DiskState, Every}
use Rattle.durable_cabinet.specs.Images.{IsOurs, OpensTo}
use Rattle.command_status.specs.declared.status.Status.{Status}
use Rattle.command_status.specs.declared.status.Status.TheVariants as status
use Rattle.opened_cache.specs.Change.{DiskChange, HasFailed, HasWritten, IsCutShort}
use Rattle.sessions.specs.Outside.{OutputChange, counts}
use Rattle.outbox.specs.Files.{OpensToPosts}

-- what a word saw of a disk, of which these are the members that are modelled, from one moment to another
abbrev pub change_of : {D : Type 0} → (D → Bool) → (D → DiskState) → (D → ℕ) → D → D → DiskChange
change_of told state faults a b = record { told = told a; faults = counts (faults a) (faults b); from = state a; to = state b }

abbrev pub made_text : List ℕ
made_text = codes "made\n"

-- each image of the cache opens to nothing kept, no cut and no opening
abbrev pub CacheIsMade : Catalogue → DiskChange → Type 0
CacheIsMade c d = IsTrue d.told → Every d.to.may_leave (λ image. OpensTo c image unplayed × IsOurs c image)

-- each image of the marks opens to no mark
abbrev pub MarksAreMade : Catalogue → DiskChange → Type 0
MarksAreMade c m = IsTrue m.told → Every m.to.may_leave (EndsIn c.digest None)

-- each image of the outbox opens to no post
abbrev pub OutboxIsMade : Catalogue → DiskChange → Type 0
OutboxIsMade c o = IsTrue o.told → Every o.to.may_leave (λ image. OpensToPosts c image [])

-- all three were made
pub record AreMade (c : Catalogue) (d m o : DiskChange) : Type 0 where
  pub cache : CacheIsMade c d
  pub marks : MarksAreMade c m
  pub outbox : OutboxIsMade c o

-- the disk of one of the three failed: those before it were made, and those behind it stay as they are
abbrev pub MakingFails : Catalogue → DiskChange → DiskChange → DiskChange → Type 0 → Type 0 → Type 0
MakingFails c d m o MarksStay OutboxStays =
    (HasFailed d × MarksStay × OutboxStays) ⊎ (CacheIsMade c d × HasFailed m × OutboxStays) ⊎ (CacheIsMade c d × MarksAreMade c m × HasFailed o)

abbrev pub MakesTwin : Catalogue → DiskChange → DiskChange → DiskChange → OutputChange → Type 0 → Type 0 → Type 0 → Status → Type 0
MakesTwin c d m o w MarksStay OutboxStays OutputStays status.Done = AreMade c d m o × HasWritten w made_text
MakesTwin c d m o w MarksStay OutboxStays OutputStays status.WriteFault = AreMade c d m o × IsCutShort w made_text
MakesTwin c d m o w MarksStay OutboxStays OutputStays status.DiskFault = MakingFails c d m o MarksStay OutboxStays × OutputStays
MakesTwin c d m o w MarksStay OutboxStays OutputStays status.ReadFault = ⊥
MakesTwin c d m o w MarksStay OutboxStays OutputStays status.TooLong = ⊥
MakesTwin c d m o w MarksStay OutboxStays OutputStays (status.Form cause) = ⊥
MakesTwin c d m o w MarksStay OutboxStays OutputStays (status.Cache cause) = ⊥
MakesTwin c d m o w MarksStay OutboxStays OutputStays status.CutsFull = ⊥
MakesTwin c d m o w MarksStay OutboxStays OutputStays (status.Line n) = ⊥
MakesTwin c d m o w MarksStay OutboxStays OutputStays (status.Stream session) = ⊥
MakesTwin c d m o w MarksStay OutboxStays OutputStays status.OutOfMemory = ⊥
MakesTwin c d m o w MarksStay OutboxStays OutputStays status.Usage = ⊥
MakesTwin c d m o w MarksStay OutboxStays OutputStays (status.Catalogue fault) = ⊥
MakesTwin c d m o w MarksStay OutboxStays OutputStays status.ListenFault = ⊥
MakesTwin c d m o w MarksStay OutboxStays OutputStays status.ThreadFault = ⊥
