-- What each end of the words of a link says.
use Rattle.std.specs.Prelude.{ℕ, ◌≡◌, ◌⊎◌, ◌≤◌, Bool, IsTrue, List, Option, Some, None, Result, Ok, Err, ⊤}
use Rattle.cabinet.specs.State.{State}
use Rattle.catalog.specs.declared.catalogue.Catalogue.{Catalogue}
use Rattle.change_feed.specs.Applies.{Pair}
use Rattle.change_feed.specs.Files.{EndsIn, IsMarksFile, MayEndIn}
use Rattle.change_feed.specs.Files as marks_file
use Rattle.base.specs.Readings.{Readings}
use Rattle.command_setup.specs.declared.configuration.Unconfigured.{Unconfigured}
use Rattle.command_setup.specs.Held.{MayBe}
use Rattle.command_setup.specs.Setup.{Configures, IsRead}
use Rattle.cut_follower.specs.declared.ends.LinkEnd.{LinkEnd}
use Rattle.cut_follower.specs.Following.{FollowsOn, MayEndAlong}
use Rattle.cut_follower.specs.Leading.{LeadsLink}
use Rattle.cut_follower.specs.Links.{LinkAt}
use Rattle.disk_model.specs.Content.{Content, Same}
use Rattle.disk_model.specs.Images.{ChangesBy, Every, Leaves}
use Rattle.durable_cabinet.specs.Filed as cache_file
use Rattle.durable_cabinet.specs.Images.{IsOurs}
use Rattle.command_setup.specs.Refusals.{status_of_refusal}
use Rattle.gate_journal.specs.declared.fault.OpenFault.{OpenFault}
use Rattle.opened_cache.specs.Change.{DiskChange}
use Rattle.opened_cache.specs.Crash.{LastsThrough}
use Rattle.opened_cache.specs.Opened.{HasOpened, RefusalLeaves}
use Rattle.outbox.specs.Files.{IsOutboxFile, MayOpenTo, OpensToPosts}
use Rattle.outbox.specs.Files as outbox_file
use Rattle.outbox.specs.Posts.{Outgoing}
use Rattle.sessions.specs.Outside.{FaultCounts, InputChange}
use Rattle.link_words.specs.declared.ends.LinkingEnd.{LinkingEnd}
use Rattle.link_words.specs.declared.ends.LinkingEnd.TheVariants as linking
use Rattle.link_words.specs.declared.words.LinkWord.{LinkWord}
use Rattle.link_words.specs.declared.words.LinkWord.TheVariants as link
use Rattle.link_words.specs.Endings.{ending_of}

-- a file was read and synced, and no more: a crash leaves what it might have left at entry
abbrev pub IsQuiet : DiskChange → Type 0
IsQuiet d = IsTrue d.told → ChangesBy Same d.from d.to

-- A LEADER

-- The outbox was opened, where it is modelled to the posts of its content, none of them heard as seen; and the link came to what `LeadsLink`
-- says. The file was read and synced, and no more, and each image opens to the posts.
pub record HasLed (c : Catalogue) (o : DiskChange) (a b : LinkAt) (e : LinkEnd) : Type 0 where
  pub first : Outgoing
  pub last : Outgoing
  pub opens : IsTrue o.told → OpensToPosts c o.from.seen first.posts
  pub silent : first.heard ≡ 0
  pub sure : first.undecided ≡ None
  pub leads : LeadsLink a b first last e
  pub quiet : IsQuiet o
  pub left : IsTrue o.told → Every o.to.may_leave (MayOpenTo c last)

-- the outbox was refused for this cause, and nothing went over the link
pub record IsUnled (c : Catalogue) (o : DiskChange) (LinkStays : Type 0) (fault : OpenFault) : Type 0 where
  pub refused : outbox_file.IsRefusedAs o.told c o.from.seen o.faults.before o.faults.after fault
  pub quiet : IsQuiet o
  pub stays : LinkStays

abbrev pub LeadsOver : Catalogue → DiskChange → LinkAt → LinkAt → Type 0 → Result LinkEnd OpenFault → Type 0
LeadsOver c o a b LinkStays (Ok e) = HasLed c o a b e
LeadsOver c o a b LinkStays (Err fault) = IsUnled c o LinkStays fault

-- A FOLLOWER

-- The marks were opened, where they are modelled at the mark that their content ends in, and the link came to what `FollowsOn` says, with
-- the cabinet from s to u. Each fault that an arrival tells of a disk was counted in it. At every moment an image of the marks is one of
-- those at entry, or ends in a mark of a stand that the arrivals led through; at the end each does in one of the last.
pub record HasFollowed (c : Catalogue) (cabinet : FaultCounts) (m : DiskChange) (a b : LinkAt) (s u : State) (e : LinkEnd) : Type 0 where
  pub first : Pair
  pub last : Pair
  pub opens : IsTrue m.told → EndsIn c.digest first.stand.mark m.from.seen
  pub sure : first.stand.undecided ≡ None
  pub first_cabinet : first.cabinet ≡ s
  pub last_cabinet : last.cabinet ≡ u
  -- (of the images the field after it tells, from the opening on)
  pub follows : FollowsOn Bool.false c.digest m.from m.to a b first last e
  pub images : IsTrue m.told → Leaves m.from m.to (λ image. m.from.may_leave image ⊎ MayEndAlong c.digest first.stand follows.arrivals image)
  pub marks_before : m.faults.before ≤ first.faults
  pub marks_after : last.faults ≤ m.faults.after
  pub cabinet_before : cabinet.before ≤ first.cabinet_faults
  pub cabinet_after : last.cabinet_faults ≤ cabinet.after
  pub left : IsTrue m.told → Every m.to.may_leave (MayEndIn c.digest last.stand)

-- the marks weren't opened for this cause, or memory ran out behind their opening, and nothing went over the link
pub record IsUnfollowed (c : Catalogue) (m : DiskChange) (LinkStays : Type 0) (s u : State) (fault : OpenFault) : Type 0 where
  pub refused : marks_file.IsRefusedAs m.told c.digest m.from.seen m.faults.before m.faults.after fault
  pub quiet : IsQuiet m
  pub same : u ≡ s
  pub stays : LinkStays

abbrev pub FollowsWith : Catalogue → FaultCounts → DiskChange → LinkAt → LinkAt → Type 0 → State → State → Result LinkEnd OpenFault → Type 0
FollowsWith c cabinet m a b LinkStays s u (Ok e) = HasFollowed c cabinet m a b s u e
FollowsWith c cabinet m a b LinkStays s u (Err fault) = IsUnfollowed c m LinkStays s u fault

-- the cache was opened, it went on so, and the cache was closed
pub record HasOpenedAndFollowed (c : Catalogue) (clock : Readings) (d m : DiskChange) (a b : LinkAt) (LinkStays : Type 0) (end : Result LinkEnd OpenFault) : Type 0 where
  pub first : State
  pub last : State
  pub opened : HasOpened c clock d first last
  pub follows : FollowsWith c d.faults m a b LinkStays first last end

-- the cache was refused for this cause, and neither the marks nor the link was touched
pub record IsLinkUnopened (c : Catalogue) (d : DiskChange) (LinkStays MarksStay : Type 0) (fault : OpenFault) : Type 0 where
  pub refused : cache_file.IsRefusedAs d.told c d.from.seen d.faults.before d.faults.after fault
  pub leaves : RefusalLeaves c d fault
  pub stays : LinkStays
  pub marks_stay : MarksStay

abbrev pub Follows : Catalogue → Readings → DiskChange → DiskChange → LinkAt → LinkAt → Type 0 → Type 0 → Result LinkEnd OpenFault → Type 0
Follows c clock d m a b LinkStays MarksStay (Ok e) = HasOpenedAndFollowed c clock d m a b LinkStays (Ok e)
Follows c clock d m a b LinkStays MarksStay (Err fault) = IsLinkUnopened c d LinkStays MarksStay fault ⊎ HasOpenedAndFollowed c clock d m a b LinkStays (Err fault)

-- THE WORDS

-- what a word saw of its link, and of the disks of its cache, its marks and its outbox
pub record LinkChange : Type 1 where
  pub from : LinkAt
  pub to : LinkAt
  pub cache : DiskChange
  pub marks : DiskChange
  pub outbox : DiskChange

-- that each of these stays as it is, a fact of its own for each
pub record Stays : Type 1 where
  pub link : Type 0
  pub cache : Type 0
  pub marks : Type 0
  pub outbox : Type 0

-- a word under a catalogue ended so; each works on its own side's files alone
abbrev pub WordLinks : LinkChange → Stays → Readings → LinkWord → Catalogue → Result LinkEnd OpenFault → Type 0
WordLinks h stays clock (link.Lead port) c end = LeadsOver c h.outbox h.from h.to stays.link end × stays.cache × stays.marks
WordLinks h stays clock (link.Follow port) c end = Follows c clock h.cache h.marks h.from h.to stays.link stays.marks end × stays.outbox

-- What each end says, by what the words ask for: the catalogue was refused and nothing else was touched, or it was read and the word
-- ended so. Other words touch nothing.
abbrev pub LinkTells : InputChange → LinkChange → Type 0 → Stays → Readings → Option LinkWord → LinkingEnd → Type 0
LinkTells i h CatalogueStays stays clock None e = CatalogueStays × stays.link × stays.cache × stays.marks × stays.outbox
LinkTells i h CatalogueStays stays clock (Some w) e =
    ((refusal : Unconfigured) × (e ≡ linking.Status (status_of_refusal refusal)) × Configures i (Err refusal) × stays.link × stays.cache × stays.marks × stays.outbox)
    ⊎ ((c : Catalogue) × IsRead i (Ok c) × ((end : Result LinkEnd OpenFault) × (e ≡ ending_of end) × WordLinks h stays clock w c end))

-- A CRASH

-- `lead` leaves the cache as it is; at every moment of `follow` each image of it answers for each cut for which every image at entry
-- answers
abbrev pub WordLasts : Catalogue → DiskChange → Type 0 → LinkWord → Type 0
WordLasts c d CacheStays (link.Lead port) = CacheStays
WordLasts c d CacheStays (link.Follow port) = LastsThrough c d

-- so it is of each word, under the catalogue that was read
abbrev pub CacheLasts : InputChange → DiskChange → Type 0 → Type 0
CacheLasts catalogue d CacheStays = CacheStays ⊎ ((c : Catalogue) × IsRead catalogue (Ok c) × LastsThrough c d)

-- WHAT IT NEEDS

-- whether each disk is modelled, and what a read of it gives
pub record Handed : Type 0 where
  pub cache_told : Bool
  pub cache : Content
  pub marks_told : Bool
  pub marks : Content
  pub outbox_told : Bool
  pub outbox : Content

-- a modelled disk that a word opens holds a file of this program
abbrev pub IsFitUnder : Catalogue → LinkWord → Handed → Type 0
IsFitUnder c (link.Lead port) h = IsTrue h.outbox_told → IsOutboxFile c h.outbox
IsFitUnder c (link.Follow port) h = (IsTrue h.cache_told → IsOurs c h.cache) × (IsTrue h.marks_told → IsMarksFile c.digest h.marks)

-- so it is, by the catalogue of the text
abbrev pub IsFitFor : Option LinkWord → Option (List ℕ) → Handed → Type 0
IsFitFor None text h = ⊤
IsFitFor (Some w) text h = (c : Catalogue) → MayBe text c → IsFitUnder c w h
