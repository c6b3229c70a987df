-- What the openings of a twin's files come to.
use Rattle.std.specs.Prelude.{ℕ, ◌≡◌, ◌≤◌, ◌⊎◌, ◌&&◌, IsTrue, [], None, Option, ⊤}
use Rattle.cabinet.specs.State.{IsSound, State, now}
use Rattle.catalog.specs.declared.catalogue.Catalogue.{Catalogue}
use Rattle.change_feed.specs.Files.{EndsIn, MayEndIn, Stand}
use Rattle.change_feed.specs.Files as marks_files
use Rattle.base.specs.Readings.{Readings}
use Rattle.cut_follower.specs.Lossy.{Lossy}
use Rattle.disk_model.specs.Content.{Content, Same}
use Rattle.disk_model.specs.Images.{ChangesBy, Every, Leaves}
use Rattle.durable_cabinet.specs.Images.{IsOurs}
use Rattle.durable_cabinet.specs.Filed as cache_files
use Rattle.durable_cabinet.specs.Outlasting.{AnswersAs}
use Rattle.gate_journal.specs.declared.fault.OpenFault.{OpenFault}
use Rattle.opened_cache.specs.Change.{DiskChange}
use Rattle.opened_cache.specs.Crash.{OpeningLeaves}
use Rattle.opened_cache.specs.Opened.{HasOpened, IsOpened, RefusalLeaves}
use Rattle.outbox.specs.Files.{MayOpenTo, OpensToPosts}
use Rattle.outbox.specs.Files as outbox_files
use Rattle.truncation_list.specs.Books.{AnswersForBook}
use Rattle.twin_events.specs.Twins.{TwinStanding}
use Rattle.twin_lines.specs.declared.order.LinkSide.{LinkSide}
use Rattle.twin_lines.specs.declared.order.LinkSide.TheVariants as side
use Rattle.twin_lines.specs.Steps.{IsLater, Runs, TwinMoment, stopped}

-- a file was read and synced, and no more: a crash leaves what it might have left at entry
abbrev pub IsQuiet : DiskChange → Type 0
IsQuiet d = IsTrue d.told → ChangesBy Same d.from d.to

-- THE FOLLOWER

-- the cabinet was opened from its disk, and then the feed from the marks
pub record OpensFollower (c : Catalogue) (clock : Readings) (d m : DiskChange) (cabinet : State) (stand : Stand) : Type 0 where
  pub cache : IsOpened c clock d cabinet
  pub leaves : OpeningLeaves c d
  pub mark : IsTrue m.told → EndsIn c.digest stand.mark m.from.seen
  pub sure : stand.undecided ≡ None
  pub quiet : IsQuiet m

-- the cache was refused for this cause, and no more was done to it than an opening does
pub record RefusesCache (c : Catalogue) (d : DiskChange) (cause : OpenFault) : Type 0 where
  pub refused : cache_files.IsRefusedAs d.told c d.from.seen d.faults.before d.faults.after cause
  pub leaves : RefusalLeaves c d cause

-- so were the marks
pub record RefusesMarks (c : Catalogue) (m : DiskChange) (cause : OpenFault) : Type 0 where
  pub refused : marks_files.IsRefusedAs m.told c.digest m.from.seen m.faults.before m.faults.after cause
  pub quiet : IsQuiet m

-- so was the outbox
pub record RefusesOutbox (c : Catalogue) (o : DiskChange) (cause : OpenFault) : Type 0 where
  pub refused : outbox_files.IsRefusedAs o.told c o.from.seen o.faults.before o.faults.after cause
  pub quiet : IsQuiet o

-- the cabinet was opened, and closed again with nothing done in it
abbrev pub OpensAlone : Catalogue → Readings → DiskChange → Type 0
OpensAlone c clock d = (s : State) × HasOpened c clock d s s

-- the cache was refused, and the marks stay as they are; or the cabinet was opened and closed, and the marks were refused
abbrev pub RefusesFollower : Catalogue → Readings → DiskChange → DiskChange → Type 0 → OpenFault → Type 0
RefusesFollower c clock d m MarksStay cause = (RefusesCache c d cause × MarksStay) ⊎ (OpensAlone c clock d × RefusesMarks c m cause)

-- ALL THREE

-- the follower was opened, and then the outbox from its disk; nothing was sent
pub record OpensTwin (c : Catalogue) (clock : Readings) (d m o : DiskChange) (s : TwinStanding) : Type 0 where
  pub follower : OpensFollower c clock d m s.cabinet s.stand
  pub posts : IsTrue o.told → OpensToPosts c o.from.seen s.out.posts
  pub sure : s.out.undecided ≡ None
  pub silent : s.out.heard ≡ 0
  pub quiet : IsQuiet o
  pub nothing_sent : s.sent ≡ []

-- the follower was refused, and the outbox stays as it is; or both files of the follower were opened and closed, and the outbox was refused
abbrev pub RefusesTwin : Catalogue → Readings → DiskChange → DiskChange → DiskChange → Type 0 → Type 0 → OpenFault → Type 0
RefusesTwin c clock d m o MarksStay OutboxStays cause =
    (RefusesFollower c clock d m MarksStay cause × OutboxStays) ⊎ (OpensAlone c clock d × IsQuiet m × RefusesOutbox c o cause)

-- WHAT THE FILES HOLD

-- an image of a cache answers for a cabinet, under no lesser number of an opening, and is the file of one
pub record IsLeftFor (c : Catalogue) (s : State) (image : Content) : Type 0 where
  pub answers : AnswersAs c s.opening.number (now s).book image
  pub ours : IsOurs c image

-- what a crash leaves of three closed files is left for a leader and a follower that stand so
pub record LeavesTwin (c : Catalogue) (s : TwinStanding) (d m o : DiskChange) : Type 0 where
  pub same : s.cabinet.catalogue ≡ c
  pub cache : IsTrue d.told → Every d.to.may_leave (IsLeftFor c s.cabinet)
  pub marks : IsTrue m.told → Every m.to.may_leave (MayEndIn c.digest s.stand)
  pub outbox : IsTrue o.told → Every o.to.may_leave (MayOpenTo c s.out)

-- what three files hold, x the cache, y the marks and z the outbox, is what a crash may leave of a lossy link of the catalogue of which no packet is left
pub record IsPairOn (c : Catalogue) (l : Lossy) (x y z : Content) : Type 0 where
  pub same : l.stores.cabinet.catalogue ≡ c
  pub cache : IsLeftFor c l.stores.cabinet x
  pub marks : MayEndIn c.digest l.stores.stand y
  pub outbox : MayOpenTo c l.out z

-- A STOP

-- a cabinet's book answers for the one before, and its opening has no lesser number
pub record GoesFurther (s t : State) : Type 0 where
  pub later : s.opening.number ≤ t.opening.number
  pub answers : AnswersForBook (now t).book (now s).book

-- A side was closed and opened again, from s to t. At every moment an image of the cache was left for the cabinet of s, one of the marks
-- ends in a mark of s, and one of the outbox opens to the posts of s. A cabinet whose journal was settled is sound where it was.
pub record Restarts (c : Catalogue) (source : Option ℕ) (d m o : DiskChange) (settled then_settled : Type 0) (which : LinkSide) (s t : TwinMoment) : Type 0 where
  pub runs : Runs (d.told && (m.told && o.told)) source s (stopped which) t
  pub later : IsLater s.faults t.faults
  pub goes : IsTrue d.told → GoesFurther s.stands.cabinet t.stands.cabinet
  pub cache_images : IsTrue d.told → Leaves d.from d.to (IsLeftFor c s.stands.cabinet)
  pub marks_images : IsTrue m.told → Leaves m.from m.to (MayEndIn c.digest s.stands.stand)
  pub posts_images : IsTrue o.told → Leaves o.from o.to (MayOpenTo c s.stands.out)
  pub stays_settled : settled → then_settled
  pub still_sound : IsTrue d.told → settled → IsSound s.stands.cabinet → IsSound t.stands.cabinet

-- what was refused of the side that was closed
abbrev pub Refuses : Catalogue → LinkSide → TwinMoment → DiskChange → DiskChange → DiskChange → OpenFault → Type 0
Refuses c side.Leader s d m o cause = RefusesOutbox c o cause
Refuses c side.Follower s d m o cause = RefusesFollower c s.stands.cabinet.clock d m ⊤ cause

-- A side was closed at s and refused, and the other one was closed. What a crash left meanwhile, and leaves now, is left for s.
pub record StaysClosed (c : Catalogue) (d m o : DiskChange) (which : LinkSide) (s : TwinMoment) (cause : OpenFault) : Type 0 where
  pub refuses : Refuses c which s d m o cause
  pub cache_seen : IsTrue d.told → IsLeftFor c s.stands.cabinet d.from.seen
  pub marks_seen : IsTrue m.told → MayEndIn c.digest s.stands.stand m.from.seen
  pub posts_seen : IsTrue o.told → MayOpenTo c s.stands.out o.from.seen
  pub left : LeavesTwin c s.stands d m o
  pub cache_images : IsTrue d.told → Leaves d.from d.to (IsLeftFor c s.stands.cabinet)
  pub marks_images : IsTrue m.told → Leaves m.from m.to (MayEndIn c.digest s.stands.stand)
  pub posts_images : IsTrue o.told → Leaves o.from o.to (MayOpenTo c s.stands.out)
