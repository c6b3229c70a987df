-- What each end of a twin's words says.
use Rattle.std.specs.Prelude.{ℕ, ◌≡◌, ◌⊎◌, ◌+◌, ◌≤◌, ◌&&◌, Bool, IsTrue, List, [], length, Option, Some, None, Ok, Err, ⊤}
use Rattle.std.specs.Io.KnownBytes.{Consumes, IsAtEnd}
use Rattle.catalog.specs.declared.catalogue.Catalogue.{Catalogue}
use Rattle.base.specs.Causes.{Rose}
use Rattle.change_feed.specs.Files.{EndsIn, IsMarksFile, MayEndIn}
use Rattle.base.specs.Readings.{Readings}
use Rattle.command_setup.specs.declared.configuration.Unconfigured.{Unconfigured}
use Rattle.command_setup.specs.Held.{MayBe}
use Rattle.command_setup.specs.Setup.{Configures, IsRead}
use Rattle.command_status.specs.declared.status.Status.{Status}
use Rattle.cut_follower.specs.Lossy.{Lossy}
use Rattle.disk_model.specs.Content.{Content}
use Rattle.disk_model.specs.Images.{DiskState, Leaves}
use Rattle.durable_cabinet.specs.Images.{IsOurs, IsSoundImage}
use Rattle.command_setup.specs.Refusals.{status_of_refusal}
use Rattle.command_status.specs.Statuses.{status_of_opening}
use Rattle.gate_journal.specs.declared.fault.OpenFault.{OpenFault}
use Rattle.command_status.specs.declared.status.Status.TheVariants as status
use Rattle.opened_cache.specs.Change.{DiskChange, HasFailed, HasWritten}
use Rattle.sessions.specs.Outside.{FaultCounts, InputChange, OutputChange}
use Rattle.opened_cache.specs.Crash.{LastsThrough}
use Rattle.opened_cache.specs.Opened.{IsOpened}
use Rattle.change_feed.specs.Files as marks_files
use Rattle.durable_cabinet.specs.Filed as cache_files
use Rattle.outbox.specs.Files as outbox_files
use Rattle.outbox.specs.Files.{IsOutboxFile, MayOpenTo, OpensToPosts}
use Rattle.tile_service.specs.Lines.{lines_of}
use Rattle.twin_events.specs.Twins.{TwinStanding}
use Rattle.twin_lines.specs.declared.lines.Halt.{Halt}
use Rattle.twin_lines.specs.declared.lines.Halt.TheVariants as halt
use Rattle.twin_lines.specs.declared.order.TwinOrder.TheVariants as order
use Rattle.twin_lines.specs.declared.order.LinkSide.{LinkSide}
use Rattle.twin_lines.specs.declared.order.LinkSide.TheVariants as side
use Rattle.twin_lines.specs.Ends.{AreOrdered, Ends, IsAmong}
use Rattle.twin_lines.specs.Orders.{order_in}
use Rattle.twin_lines.specs.Steps.{AreTrue, Faults, Follow, IsLater, MayEndAlong, MayOpenAlong, TwinMoment, TwinStep, faults}
use Rattle.twin_lines.specs.Texts.{answers_from}
use Rattle.twin_words.specs.declared.words.TwinWord.{TwinWord}
use Rattle.twin_words.specs.declared.words.TwinWord.TheVariants as twin
use Rattle.twin_words.specs.Made.{MakesTwin}
use Rattle.twin_words.specs.Opens.{IsLeftFor, IsPairOn, LeavesTwin, RefusesTwin}
use Rattle.twin_words.specs.Promised.{KeepsPromise}

-- WHAT A TWIN SEES

-- the number of the source that renders, where it tells what it renders, and its faults
pub record SourceChange : Type 0 where
  pub told : Option ℕ
  pub faults : FaultCounts

-- what a twin saw of its input, its output and its source, and of the disks of its cache, its marks and its outbox
pub record TwinChange : Type 1 where
  pub input : InputChange
  pub output : OutputChange
  pub source : SourceChange
  pub cache : DiskChange
  pub marks : DiskChange
  pub outbox : DiskChange

-- that each of these stays as it is, a fact of its own for each
pub record Stays : Type 1 where
  pub input : Type 0
  pub output : Type 0
  pub source : Type 0
  pub cache : Type 0
  pub marks : Type 0
  pub outbox : Type 0

-- all three disks are modelled
abbrev pub all_told : TwinChange → Bool
all_told h = h.cache.told && (h.marks.told && h.outbox.told)

-- the counts at entry, and at the end
abbrev pub at_entry : TwinChange → Faults
at_entry h = faults h.source.faults.before h.outbox.faults.before h.marks.faults.before h.cache.faults.before

abbrev pub at_end : TwinChange → Faults
at_end h = faults h.source.faults.after h.outbox.faults.after h.marks.faults.after h.cache.faults.after

-- THE OPENED TWIN

-- the three files were opened, and nothing was sent: where a disk is modelled, from what it holds
pub record IsTwinBegun (c : Catalogue) (clock : Readings) (h : TwinChange) (s : TwinStanding) : Type 0 where
  pub cache : IsOpened c clock h.cache s.cabinet
  pub marks : IsTrue h.marks.told → EndsIn c.digest s.stand.mark h.marks.from.seen
  pub marks_sure : s.stand.undecided ≡ None
  pub outbox : IsTrue h.outbox.told → OpensToPosts c h.outbox.from.seen s.out.posts
  pub outbox_sure : s.out.undecided ≡ None
  pub silent : s.out.heard ≡ 0
  pub nothing_sent : s.sent ≡ []

-- The three files were opened at the first moment, and the steps led on from there to the last but for what happened in a line at which
-- memory ran out. Where the disks are modelled the promise is kept to each lossy link that the files stand for. At every moment an image
-- of the marks is one of those at entry, or ends in a mark along the steps, and one of the outbox is one of those at entry, or opens to
-- posts along them. Where the source tells what it renders, and the cache held its pictures, so has each tile its own, unless the disk of
-- the cache failed.
pub record HasTwinned (c : Catalogue) (clock : Readings) (h : TwinChange) (steps : List TwinStep) (reached last : TwinMoment) : Type 0 where
  pub first : TwinMoment
  pub begun : IsTwinBegun c clock h first.stands
  pub later_first : IsLater (at_entry h) first.faults
  pub follow : Follow (all_told h) h.source.told first steps reached
  pub later_last : IsLater last.faults (at_end h)
  pub promise : IsTrue (all_told h) → (l : Lossy) → IsPairOn c l h.cache.from.seen h.marks.from.seen h.outbox.from.seen → KeepsPromise c h.cache h.marks h.outbox l first steps last
  pub left : LeavesTwin c last.stands h.cache h.marks h.outbox
  pub marks_along : IsTrue h.marks.told → Leaves h.marks.from h.marks.to (λ image. h.marks.from.may_leave image ⊎ (MayEndAlong c.digest first.stands.stand steps image ⊎ MayEndIn c.digest last.stands.stand image))
  pub posts_along : IsTrue h.outbox.told → Leaves h.outbox.from h.outbox.to (λ image. h.outbox.from.may_leave image ⊎ MayOpenAlong c first.stands.out steps image)
  pub truth : h.source.told ≡ Some c.source → IsTrue h.cache.told → IsSoundImage c h.cache.from.seen → HasFailed h.cache ⊎ AreTrue c steps

-- THE LINES

-- the input was read to its end, and this is its text
pub record IsText (i : InputChange) (text : List ℕ) : Type 0 where
  pub read : Consumes i.from i.to text
  pub at_end : IsAtEnd i.to
  pub short : length text ≤ 16777216

-- one byte more than the lines may have was taken
abbrev pub IsTooLong : InputChange → Type 0
IsTooLong i = (text : List ℕ) × Consumes i.from i.to text × (length text ≡ 16777216 + 1)

-- the lines of the input were run, and ended so
abbrev pub HasRunTwin : Catalogue → Readings → TwinChange → Halt → Type 0
HasRunTwin c clock h e = (steps : List TwinStep) × (reached : TwinMoment) × (last : TwinMoment) × HasTwinned c clock h steps reached last × ((text : List ℕ) × IsText h.input text × Ends c 1 text h.output steps reached last e)

-- the files were opened, and no line was run
abbrev pub HasRunNone : Catalogue → Readings → TwinChange → Type 0
HasRunNone c clock h = (first : TwinMoment) × HasTwinned c clock h [] first first

-- THE REFUSALS

-- What was read of the outbox, when it was opened again, is what a crash may leave of the posts, and was refused for this cause.
pub record RefusesOutboxAgain (c : Catalogue) (o : DiskChange) (last : TwinMoment) (cause : OpenFault) : Type 0 where
  pub seen : Content
  pub was_left : IsTrue o.told → MayOpenTo c last.stands.out seen
  pub refused : outbox_files.IsRefusedAs o.told c seen last.faults.outbox o.faults.after cause

-- so it is of the cache
pub record RefusesCacheAgain (c : Catalogue) (d : DiskChange) (last : TwinMoment) (cause : OpenFault) : Type 0 where
  pub seen : Content
  pub was_left : IsTrue d.told → IsLeftFor c last.stands.cabinet seen
  pub refused : cache_files.IsRefusedAs d.told c seen last.faults.cabinet d.faults.after cause

-- and of the marks, behind a cache that was opened
pub record RefusesMarksAgain (c : Catalogue) (m : DiskChange) (last : TwinMoment) (cause : OpenFault) : Type 0 where
  pub seen : Content
  pub was_left : IsTrue m.told → MayEndIn c.digest last.stands.stand seen
  pub refused : marks_files.IsRefusedAs m.told c.digest seen last.faults.marks m.faults.after cause

abbrev pub RefusesAgain : Catalogue → DiskChange → DiskChange → DiskChange → TwinMoment → LinkSide → OpenFault → Type 0
RefusesAgain c d m o last side.Leader cause = RefusesOutboxAgain c o last cause
RefusesAgain c d m o last side.Follower cause = RefusesCacheAgain c d last cause ⊎ RefusesMarksAgain c m last cause

-- the lines before one that orders a stop were run and answered, its side was closed, and was refused when it was opened again
pub record HasRunToStop (c : Catalogue) (clock : Readings) (h : TwinChange) (cause : OpenFault) : Type 0 where
  pub steps : List TwinStep
  pub last : TwinMoment
  pub twinned : HasTwinned c clock h steps last last
  pub text : List ℕ
  pub is_text : IsText h.input text
  pub before : List (List ℕ)
  pub line : List ℕ
  pub among : IsAmong (lines_of text) before line
  pub ordered : AreOrdered c before steps
  pub which : LinkSide
  pub stops : order_in c line ≡ Some (order.Stop which)
  pub written : HasWritten h.output (answers_from 1 steps)
  pub refused : RefusesAgain c h.cache h.marks h.outbox last which cause

-- one of the files was refused at the start, and nothing else was done
pub record IsTwinUnopened (c : Catalogue) (clock : Readings) (h : TwinChange) (stays : Stays) (cause : OpenFault) : Type 0 where
  pub refused : RefusesTwin c clock h.cache h.marks h.outbox stays.marks stays.outbox cause
  pub input : stays.input
  pub output : stays.output
  pub source : stays.source

-- THE ENDS OF `twin`

-- a refusal ended the word so
abbrev pub EndsRefused : Catalogue → Readings → TwinChange → Stays → Status → Type 0
EndsRefused c clock h stays e = (cause : OpenFault) × (e ≡ status_of_opening cause) × (IsTwinUnopened c clock h stays cause ⊎ HasRunToStop c clock h cause)

-- the input was not read, or the lines ended so
abbrev pub EndsRun : Catalogue → Readings → TwinChange → Stays → Status → Type 0
EndsRun c clock h stays status.Done = HasRunTwin c clock h halt.Done
EndsRun c clock h stays (status.Line n) = HasRunTwin c clock h (halt.Line n)
EndsRun c clock h stays status.WriteFault = HasRunTwin c clock h halt.WriteFault
EndsRun c clock h stays status.OutOfMemory = HasRunTwin c clock h halt.OutOfMemory ⊎ (HasRunNone c clock h × stays.output × stays.source)
EndsRun c clock h stays status.ReadFault = HasRunNone c clock h × Rose h.input.reads.before h.input.reads.after × stays.output × stays.source
EndsRun c clock h stays status.TooLong = HasRunNone c clock h × IsTooLong h.input × stays.output × stays.source
EndsRun c clock h stays (status.Cache cause) = ⊥
EndsRun c clock h stays status.DiskFault = ⊥
EndsRun c clock h stays (status.Form cause) = ⊥
EndsRun c clock h stays status.CutsFull = ⊥
EndsRun c clock h stays (status.Stream session) = ⊥
EndsRun c clock h stays status.Usage = ⊥
EndsRun c clock h stays (status.Catalogue fault) = ⊥
EndsRun c clock h stays status.ListenFault = ⊥
EndsRun c clock h stays status.ThreadFault = ⊥

abbrev pub Twins : Catalogue → Readings → TwinChange → Stays → Status → Type 0
Twins c clock h stays e = EndsRefused c clock h stays e ⊎ EndsRun c clock h stays e

-- THE WORDS

-- a word under a catalogue ended so; `twin make` works on the three disks and on the output alone
abbrev pub WordEnds : TwinChange → Stays → Readings → TwinWord → Catalogue → Status → Type 0
WordEnds h stays clock twin.Make c e = MakesTwin c h.cache h.marks h.outbox h.output stays.marks stays.outbox stays.output e × stays.input × stays.source
WordEnds h stays clock twin.Run c e = Twins c clock h stays e

-- each of them stays as it is
abbrev pub AllStay : Stays → Type 0
AllStay stays = stays.input × stays.output × stays.source × stays.cache × stays.marks × stays.outbox

-- What each status says, by what the words ask for: the catalogue was refused and nothing else was touched, or it was read and the word
-- ended so. Other words touch nothing.
abbrev pub TwinTells : InputChange → TwinChange → Type 0 → Stays → Readings → Option TwinWord → Status → Type 0
TwinTells catalogue h CatalogueStays stays clock None s = CatalogueStays × AllStay stays
TwinTells catalogue h CatalogueStays stays clock (Some w) s =
    ((e : Unconfigured) × (s ≡ status_of_refusal e) × Configures catalogue (Err e) × AllStay stays)
    ⊎ ((c : Catalogue) × IsRead catalogue (Ok c) × WordEnds h stays clock w c s)

-- A CRASH

-- at every moment of `twin` each image of the cache answers for each cut for which every image at entry answers; `twin make` makes it anew
abbrev pub WordLasts : Catalogue → DiskChange → TwinWord → Type 0
WordLasts c d twin.Make = ⊤
WordLasts c d twin.Run = LastsThrough c d

-- so it is of each word, under the catalogue that was read
abbrev pub CacheLasts : InputChange → DiskChange → Type 0 → Option TwinWord → Type 0
CacheLasts catalogue d CacheStays None = CacheStays
CacheLasts catalogue d CacheStays (Some w) = CacheStays ⊎ ((c : Catalogue) × IsRead catalogue (Ok c) × WordLasts c d w)

-- WHAT IT NEEDS

-- whether a disk is modelled, and what a read gives
pub record DiskText : Type 0 where
  pub told : Bool
  pub seen : Content

abbrev pub text_of : {D : Type 0} → (D → Bool) → (D → DiskState) → D → DiskText
text_of told state d = record { told = told d; seen = (state d).seen }

-- `twin` alone needs that modelled disks hold files of this program
abbrev pub IsFitUnder : Catalogue → TwinWord → DiskText → DiskText → DiskText → Type 0
IsFitUnder c twin.Make d m o = ⊤
IsFitUnder c twin.Run d m o = (IsTrue d.told → IsOurs c d.seen) × (IsTrue m.told → IsMarksFile c.digest m.seen) × (IsTrue o.told → IsOutboxFile c o.seen)

-- so it is, by the catalogue of the text
abbrev pub IsFitFor : Option TwinWord → Option (List ℕ) → DiskText → DiskText → DiskText → Type 0
IsFitFor None text d m o = ⊤
IsFitFor (Some w) text d m o = (c : Catalogue) → MayBe text c → IsFitUnder c w d m o
