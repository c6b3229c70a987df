-- Where what a feed is handed is in order, and nothing fails, it is done.
use Rattle.std.specs.Prelude.{ℕ, ◌≡◌, ◌⊎◌, ◌≤◌, IsSome, IsTrue, List, length, Option, Some, None, Ok, ⊤}
use Rattle.std.specs.List.{AllByRecursion}
use Rattle.cabinet.specs.State.{State}
use Rattle.catalog.specs.declared.catalogue.Catalogue.{Catalogue}
use Rattle.base.specs.Causes.{Rose}
use Rattle.change_feed.specs.declared.mark.Mark.{Mark}
use Rattle.change_feed.specs.Files.{EndsIn}
use Rattle.base.specs.Readings.{Readings}
use Rattle.command_setup.specs.Setup.{HasRisen}
use Rattle.command_status.specs.declared.status.Status.TheVariants as status
use Rattle.command_status.specs.declared.status.Status.{Status}
use Rattle.config_text.specs.Text.{catalogue_of}
use Rattle.opened_cache.specs.Change.{DiskChange, HasFailed}
use Rattle.opened_cache.specs.Opened.{IsOpened}
use Rattle.tile_service.specs.Lines.{lines_of}
use Rattle.sessions.specs.Outside.{InputChange}
use Rattle.feed_words.specs.declared.words.FeedWord.{FeedWord}
use Rattle.feed_words.specs.declared.words.FeedWord.TheVariants as feed
use Rattle.feed_words.specs.Ends.{FeedChange}
use Rattle.feed_words.specs.Orders.{change_in}

-- WHAT IS IN ORDER

-- the bytes of an input are modelled, are no more than this, and have P
pub record HasText (limit : ℕ) (i : InputChange) (P : List ℕ → Type 0) : Type 0 where
  pub text : List ℕ
  pub from : i.from ≡ Some text
  pub short : length text ≤ limit
  pub holds : P text

-- it is a catalogue's
abbrev pub HasCatalogue : InputChange → Catalogue → Type 0
HasCatalogue i c = HasText 1048576 i (λ text. catalogue_of text ≡ Ok c)

-- each of its lines orders a change
abbrev pub HasChanges : Catalogue → InputChange → Type 0
HasChanges c i = HasText 16777216 i (λ text. AllByRecursion (λ line. IsSome (change_in c line)) (lines_of text))

-- both disks are modelled, and the cache and the marks open under the catalogue
pub record DoOpen (c : Catalogue) (clock : Readings) (d m : DiskChange) : Type 0 where
  pub told : IsTrue d.told
  pub cabinet : (s : State) × IsOpened c clock d s
  pub marks_told : IsTrue m.told
  pub marks : (mark : Option Mark) × EndsIn c.digest mark m.from.seen

-- `feed make` needs a catalogue alone
abbrev pub IsInOrder : FeedChange → Readings → FeedWord → Type 0
IsInOrder h clock feed.Make = (c : Catalogue) × HasCatalogue h.catalogue c
IsInOrder h clock feed.Run = (c : Catalogue) × HasCatalogue h.catalogue c × DoOpen c clock h.cache h.marks × HasChanges c h.input

-- no read failed, and neither the output nor a disk did
pub record NothingFails (h : FeedChange) : Type 0 where
  pub catalogue : HasRisen h.catalogue → ⊥
  pub input : HasRisen h.input → ⊥
  pub output : Rose h.output.writes.before h.output.writes.after → ⊥
  pub cache : HasFailed h.cache → ⊥
  pub marks : HasFailed h.marks → ⊥

-- where all is in order and nothing fails, a feed is done, or memory ran out
abbrev pub IsComplete : FeedChange → Readings → Option FeedWord → Status → Type 0
IsComplete h clock None s = ⊤
IsComplete h clock (Some w) s = IsInOrder h clock w → NothingFails h → (s ≡ status.Done) ⊎ (s ≡ status.OutOfMemory)
