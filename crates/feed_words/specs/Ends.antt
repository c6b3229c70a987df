-- What each end of a feed's words says.
use Rattle.std.specs.Prelude.{ℕ, ◌≡◌, ◌⊎◌, ◌+◌, ◌≤◌, Bool, IsTrue, List, [], length, Option, Some, None, Ok, Err, ⊤}
use Rattle.std.specs.Io.KnownBytes.{Consumes, IsAtEnd}
use Rattle.cabinet.specs.State.{IsSound, State}
use Rattle.catalog.specs.declared.catalogue.Catalogue.{Catalogue}
use Rattle.base.specs.Causes.{Rose}
use Rattle.change_feed.specs.Applies.{Pair}
use Rattle.change_feed.specs.Files.{EndsIn, IsMarksFile, IsRefusedAs, MayEndIn}
use Rattle.change_feed.specs.Runs.{Runs}
use Rattle.base.specs.Readings.{Readings}
use Rattle.command_setup.specs.declared.configuration.Unconfigured.{Unconfigured}
use Rattle.command_setup.specs.Held.{MayBe}
use Rattle.command_setup.specs.Setup.{Configures, IsRead}
use Rattle.command_status.specs.declared.status.Status.{Status}
use Rattle.disk_model.specs.Content.{Content, Same}
use Rattle.disk_model.specs.Images.{ChangesBy, Every, Leaves}
use Rattle.durable_cabinet.specs.Images.{IsOurs}
use Rattle.gate_journal.specs.declared.fault.OpenFault.{OpenFault}
use Rattle.gate_journal.specs.declared.fault.OpenFault.TheVariants as fault
use Rattle.command_status.specs.declared.status.Status.TheVariants as status
use Rattle.opened_cache.specs.Change.{DiskChange, HasFailed, HasWritten, IsCutShort}
use Rattle.sessions.specs.Outside.{FaultCounts, InputChange, OutputChange}
use Rattle.opened_cache.specs.Crash.{LastsThrough, OpeningLeaves}
use Rattle.opened_cache.specs.Opened.{HasOpened, IsRefused, RefusalLeaves}
use Rattle.tile_service.specs.Lines.{lines_of}
use Rattle.feed_words.specs.declared.lines.FeedLinesEnd.{FeedLinesEnd}
use Rattle.feed_words.specs.declared.lines.FeedLinesEnd.TheVariants as lines_end
use Rattle.feed_words.specs.declared.words.FeedWord.{FeedWord}
use Rattle.feed_words.specs.declared.words.FeedWord.TheVariants as feed
use Rattle.feed_words.specs.Run.{FeedEndsAs, FeedStep, Follow, MayEndAlong, events_of, stores_of}
use Rattle.command_setup.specs.Refusals.{status_of_refusal}
use Rattle.feed_words.specs.Texts.{made_text}

-- MAKE

-- each image of the marks opens to no mark
abbrev pub AreMade : Catalogue → DiskChange → Type 0
AreMade c m = IsTrue m.told → Every m.to.may_leave (EndsIn c.digest None)

abbrev pub MakesMarks : Catalogue → DiskChange → OutputChange → Type 0 → Status → Type 0
MakesMarks c m o Stays status.Done = AreMade c m × HasWritten o made_text
MakesMarks c m o Stays status.WriteFault = AreMade c m × IsCutShort o made_text
MakesMarks c m o Stays status.DiskFault = HasFailed m × Stays
MakesMarks c m o Stays status.ReadFault = ⊥
MakesMarks c m o Stays status.TooLong = ⊥
MakesMarks c m o Stays (status.Form cause) = ⊥
MakesMarks c m o Stays (status.Cache cause) = ⊥
MakesMarks c m o Stays status.CutsFull = ⊥
MakesMarks c m o Stays (status.Line n) = ⊥
MakesMarks c m o Stays (status.Stream session) = ⊥
MakesMarks c m o Stays status.OutOfMemory = ⊥
MakesMarks c m o Stays status.Usage = ⊥
MakesMarks c m o Stays (status.Catalogue fault) = ⊥
MakesMarks c m o Stays status.ListenFault = ⊥
MakesMarks c m o Stays status.ThreadFault = ⊥

-- THE MARKS

-- the marks were read and synced, and no more: a crash leaves what it might have left at entry
abbrev pub AreQuiet : DiskChange → Type 0
AreQuiet m = IsTrue m.told → ChangesBy Same m.from m.to

-- the marks were refused for this cause; a fault of their disk and want of memory are ends of their own
abbrev pub AreRefused : Catalogue → DiskChange → OpenFault → Type 0
AreRefused c m fault.NotACache = IsRefusedAs m.told c.digest m.from.seen m.faults.before m.faults.after fault.NotACache
AreRefused c m (fault.CatalogueDiffers found asked) = IsRefusedAs m.told c.digest m.from.seen m.faults.before m.faults.after (fault.CatalogueDiffers found asked)
AreRefused c m (fault.BadRecord slot) = IsRefusedAs m.told c.digest m.from.seen m.faults.before m.faults.after (fault.BadRecord slot)
AreRefused c m fault.Spent = ⊥
AreRefused c m fault.DiskFault = ⊥
AreRefused c m fault.OutOfMemory = ⊥

-- The marks were opened, where they are modelled at the mark that their content ends in, and the steps led on from there, with the
-- cabinet from s to u, which is sound where it was. Each fault that a step tells of a disk was counted in it. At every moment an image of
-- the marks is one of those at entry, or ends in a mark of a stand that the steps led through; at the end each does in one of the last.
pub record HasFed (c : Catalogue) (cabinet : FaultCounts) (m : DiskChange) (s u : State) (steps : List FeedStep) : Type 0 where
  pub first : Pair
  pub opens : IsTrue m.told → EndsIn c.digest first.stand.mark m.from.seen
  pub sure : first.stand.undecided ≡ None
  pub first_cabinet : first.cabinet ≡ s
  pub last : Pair
  pub last_cabinet : last.cabinet ≡ u
  pub follow : Follow first steps last
  pub runs : Runs (stores_of first) (events_of steps) (stores_of last)
  pub marks_before : m.faults.before ≤ first.faults
  pub marks_after : last.faults ≤ m.faults.after
  pub cabinet_before : cabinet.before ≤ first.cabinet_faults
  pub cabinet_after : last.cabinet_faults ≤ cabinet.after
  pub still_sound : IsSound s → IsSound u
  pub images : IsTrue m.told → Leaves m.from m.to (λ image. m.from.may_leave image ⊎ MayEndAlong c.digest first.stand steps image)
  pub left : IsTrue m.told → Every m.to.may_leave (MayEndIn c.digest last.stand)

-- THE CHANGES

-- the input was read to its end, and this is its text
pub record IsText (i : InputChange) (text : List ℕ) : Type 0 where
  pub read : Consumes i.from i.to text
  pub at_end : IsAtEnd i.to
  pub short : length text ≤ 16777216

-- one byte more than the changes may have was taken
abbrev pub IsTooLong : InputChange → Type 0
IsTooLong i = (text : List ℕ) × Consumes i.from i.to text × (length text ≡ 16777216 + 1)

-- the marks were opened, the input was read, and its lines ended so
abbrev pub HasFedLines : Catalogue → FaultCounts → InputChange → OutputChange → DiskChange → State → State → FeedLinesEnd → Type 0
HasFedLines c cabinet i o m s u e = (steps : List FeedStep) × HasFed c cabinet m s u steps × ((text : List ℕ) × IsText i text × FeedEndsAs c (lines_of text) o steps e)

-- the marks were opened, and no change was made
abbrev pub HasFedNone : Catalogue → FaultCounts → DiskChange → State → State → Type 0
HasFedNone c cabinet m s u = HasFed c cabinet m s u []

-- what each end says of a cabinet that was opened, and then came from s to u; `Stays` is that the input and the output stay as they are
abbrev pub FeedsOn : Catalogue → FaultCounts → InputChange → OutputChange → DiskChange → Type 0 → Type 0 → State → State → Status → Type 0
FeedsOn c cabinet i o m InputStays OutputStays s u status.Done = HasFedLines c cabinet i o m s u lines_end.Done
FeedsOn c cabinet i o m InputStays OutputStays s u (status.Line n) = HasFedLines c cabinet i o m s u (lines_end.Line n)
FeedsOn c cabinet i o m InputStays OutputStays s u status.WriteFault = HasFedLines c cabinet i o m s u lines_end.WriteFault
FeedsOn c cabinet i o m InputStays OutputStays s u status.ReadFault = HasFedNone c cabinet m s u × Rose i.reads.before i.reads.after × OutputStays
FeedsOn c cabinet i o m InputStays OutputStays s u status.TooLong = HasFedNone c cabinet m s u × IsTooLong i × OutputStays
FeedsOn c cabinet i o m InputStays OutputStays s u (status.Cache cause) = AreRefused c m cause × AreQuiet m × (u ≡ s) × InputStays × OutputStays
FeedsOn c cabinet i o m InputStays OutputStays s u status.DiskFault = HasFailed m × AreQuiet m × (u ≡ s) × InputStays × OutputStays
FeedsOn c cabinet i o m InputStays OutputStays s u status.OutOfMemory =
    (AreQuiet m × (u ≡ s) × InputStays × OutputStays) ⊎ (HasFedNone c cabinet m s u × OutputStays) ⊎ HasFedLines c cabinet i o m s u lines_end.OutOfMemory
FeedsOn c cabinet i o m InputStays OutputStays s u (status.Form cause) = ⊥
FeedsOn c cabinet i o m InputStays OutputStays s u status.CutsFull = ⊥
FeedsOn c cabinet i o m InputStays OutputStays s u (status.Stream session) = ⊥
FeedsOn c cabinet i o m InputStays OutputStays s u status.Usage = ⊥
FeedsOn c cabinet i o m InputStays OutputStays s u (status.Catalogue fault) = ⊥
FeedsOn c cabinet i o m InputStays OutputStays s u status.ListenFault = ⊥
FeedsOn c cabinet i o m InputStays OutputStays s u status.ThreadFault = ⊥

-- the cache was opened, it went on so, and the cache was closed
abbrev pub HasOpenedAndFed : Catalogue → Readings → InputChange → OutputChange → DiskChange → DiskChange → Type 0 → Type 0 → Status → Type 0
HasOpenedAndFed c clock i o d m InputStays OutputStays e = (s : State) × (u : State) × HasOpened c clock d s u × FeedsOn c d.faults i o m InputStays OutputStays s u e

-- what each end says; where the cache wasn't opened all else stays as it is
abbrev pub Feeds : Catalogue → Readings → InputChange → OutputChange → DiskChange → DiskChange → Type 0 → Type 0 → Type 0 → Status → Type 0
Feeds c clock i o d m InputStays OutputStays MarksStay status.Done = HasOpenedAndFed c clock i o d m InputStays OutputStays status.Done
Feeds c clock i o d m InputStays OutputStays MarksStay (status.Line n) = HasOpenedAndFed c clock i o d m InputStays OutputStays (status.Line n)
Feeds c clock i o d m InputStays OutputStays MarksStay status.WriteFault = HasOpenedAndFed c clock i o d m InputStays OutputStays status.WriteFault
Feeds c clock i o d m InputStays OutputStays MarksStay status.ReadFault = HasOpenedAndFed c clock i o d m InputStays OutputStays status.ReadFault
Feeds c clock i o d m InputStays OutputStays MarksStay status.TooLong = HasOpenedAndFed c clock i o d m InputStays OutputStays status.TooLong
Feeds c clock i o d m InputStays OutputStays MarksStay (status.Cache cause) =
    (IsRefused c d cause × RefusalLeaves c d cause × InputStays × OutputStays × MarksStay) ⊎ HasOpenedAndFed c clock i o d m InputStays OutputStays (status.Cache cause)
Feeds c clock i o d m InputStays OutputStays MarksStay status.DiskFault =
    (HasFailed d × OpeningLeaves c d × InputStays × OutputStays × MarksStay) ⊎ HasOpenedAndFed c clock i o d m InputStays OutputStays status.DiskFault
Feeds c clock i o d m InputStays OutputStays MarksStay status.OutOfMemory =
    (OpeningLeaves c d × InputStays × OutputStays × MarksStay) ⊎ HasOpenedAndFed c clock i o d m InputStays OutputStays status.OutOfMemory
Feeds c clock i o d m InputStays OutputStays MarksStay (status.Form cause) = ⊥
Feeds c clock i o d m InputStays OutputStays MarksStay status.CutsFull = ⊥
Feeds c clock i o d m InputStays OutputStays MarksStay (status.Stream session) = ⊥
Feeds c clock i o d m InputStays OutputStays MarksStay status.Usage = ⊥
Feeds c clock i o d m InputStays OutputStays MarksStay (status.Catalogue fault) = ⊥
Feeds c clock i o d m InputStays OutputStays MarksStay status.ListenFault = ⊥
Feeds c clock i o d m InputStays OutputStays MarksStay status.ThreadFault = ⊥

-- THE WORDS

-- what a feed saw of what it was handed: its catalogue, its input, its output, and the disks of its cache and of its marks
pub record FeedChange : Type 1 where
  pub catalogue : InputChange
  pub input : InputChange
  pub output : OutputChange
  pub cache : DiskChange
  pub marks : DiskChange

-- that each of these stays as it is, a fact of its own for each
pub record Stays : Type 1 where
  pub input : Type 0
  pub output : Type 0
  pub cache : Type 0
  pub marks : Type 0

-- a word under a catalogue ended so; `feed make` works on the marks alone
abbrev pub WordEnds : InputChange → OutputChange → DiskChange → DiskChange → Stays → Readings → FeedWord → Catalogue → Status → Type 0
WordEnds i o d m stays clock feed.Make c e = MakesMarks c m o stays.output e × stays.input × stays.cache
WordEnds i o d m stays clock feed.Run c e = Feeds c clock i o d m stays.input stays.output stays.marks e

-- What each status says, by what the words ask for: the catalogue was refused and nothing else was touched, or it was read and the word
-- ended so. Other words touch nothing.
abbrev pub FeedTells : FeedChange → Type 0 → Stays → Readings → Option FeedWord → Status → Type 0
FeedTells h CatalogueStays stays clock None s = CatalogueStays × stays.input × stays.output × stays.cache × stays.marks
FeedTells h CatalogueStays stays clock (Some w) s =
    ((e : Unconfigured) × (s ≡ status_of_refusal e) × Configures h.catalogue (Err e) × stays.input × stays.output × stays.cache × stays.marks)
    ⊎ ((c : Catalogue) × IsRead h.catalogue (Ok c) × WordEnds h.input h.output h.cache h.marks stays clock w c s)

-- A CRASH

-- `feed make` leaves the cache as it is; at every moment of `feed` each image of it answers for each cut for which every image at entry
-- answers
abbrev pub WordLasts : Catalogue → DiskChange → Type 0 → FeedWord → Type 0
WordLasts c d CacheStays feed.Make = CacheStays
WordLasts c d CacheStays feed.Run = LastsThrough c d

-- so it is of each word, under the catalogue that was read
abbrev pub CacheLasts : InputChange → DiskChange → Type 0 → Type 0
CacheLasts catalogue d CacheStays = CacheStays ⊎ ((c : Catalogue) × IsRead catalogue (Ok c) × LastsThrough c d)

-- WHAT IT NEEDS

-- `feed` alone needs that modelled disks hold files of this program
abbrev pub IsFitUnder : Catalogue → FeedWord → Bool → Content → Bool → Content → Type 0
IsFitUnder c feed.Make told seen marks_told marks_seen = ⊤
IsFitUnder c feed.Run told seen marks_told marks_seen = (IsTrue told → IsOurs c seen) × (IsTrue marks_told → IsMarksFile c.digest marks_seen)

-- so it is, by the catalogue of the text
abbrev pub IsFitFor : Option FeedWord → Option (List ℕ) → Bool → Content → Bool → Content → Type 0
IsFitFor None text told seen marks_told marks_seen = ⊤
IsFitFor (Some w) text told seen marks_told marks_seen = (c : Catalogue) → MayBe text c → IsFitUnder c w told seen marks_told marks_seen
