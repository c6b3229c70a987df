-- What contracts see of a cabinet on a disk, and how it is tied to its file.
use Rattle.std.specs.Prelude.{ℕ, ◌≡◌, ◌≤◌, ◌+◌, ◌^◌, ◌⊎◌, Bool, true, IsTrue, if◌then◌else◌, List, [], map, Option, Some, None, ⊤}
use Rattle.std.specs.List.{AllByRecursion}
use Rattle.cabinet.specs.declared.kept.Kept.{Kept}
use Rattle.cabinet.specs.declared.kept.KeptBlob.{KeptBlob}
use Rattle.cabinet.specs.History.{whole}
use Rattle.cabinet_records.specs.Recorded.{IsRecordedIn}
use Rattle.cabinet_records.specs.Replay.{AreRecordsOf, Replayed, book_after, opening_after, opening_number, IsRefusedAt}
use Rattle.cabinet.specs.State.{IsKnown, State, now}
use Rattle.cache_file.specs.declared.file.CacheFile.{CacheFile}
use Rattle.cache_file.specs.File.{HoldsBlob, held, unsure}
use Rattle.catalog.specs.declared.catalogue.Catalogue.{Catalogue}
use Rattle.base.specs.Causes.{Rose}
use Rattle.base.specs.Readings.{Readings}
use Rattle.disk_model.specs.Content.{Content, bytes_at}
use Rattle.disk_model.specs.Images.{DiskState}
use Rattle.gate_journal.specs.declared.fault.OpenFault.{OpenFault}
use Rattle.gate_journal.specs.declared.fault.OpenFault.TheVariants as fault
use Rattle.gate_journal.specs.declared.journal.Journal.{Journal}
use Rattle.gate_journal.specs.Opened.{Opening, differs, no_cache, opened, records}
use Rattle.gate_journal.specs.Sound.{IsSound, digest_of, slots_of, version_of}
use Rattle.record_text.specs.declared.entries.Record.{Record}
use Rattle.truncation_list.specs.Books.{AnswersForBook}
use Rattle.std.specs.List.Sorted.{IsPermutation}
use Rattle.durable_cabinet.specs.Missed.{HasMissed}
use Rattle.durable_cabinet.specs.Images.{HasIn, IsBeside, OpensTo, blob_on, blobs_start, slots_for}

-- THE BLOBS of what is kept, as they stand on a disk
abbrev pub blobs_on : Bool → Catalogue → Content → List Kept → Option (List KeptBlob)
blobs_on told c seen kept = if told then Some (map (blob_on c seen) kept) else None

-- a cabinet with its blobs on a disk, which are modelled where the disk is
abbrev pub on_disk : Bool → Content → State → State
on_disk told seen s = record { catalogue = s.catalogue; opening = s.opening; history = s.history; since = s.since; blobs = blobs_on told s.catalogue seen (now s).kept; clock = s.clock }

-- what contracts see: the cabinet, and its file
pub record ShownCabinet (D : Type 0) : Type 0 where
  pub state : State
  pub file : CacheFile D

-- THE TIE

-- an opening of a journal is that of records that say what a cabinet keeps
pub record IsOpeningOf (s : State) (o : Opening) : Type 0 where
  pub version : ℕ
  pub bodies : List (List ℕ)
  pub entries : List (Option Record)
  pub opens : o ≡ records version bodies
  pub are : AreRecordsOf version bodies entries
  pub recorded : IsRecordedIn s entries

-- each region holds the blob that a read gives
abbrev pub IsHeldOn : Catalogue → DiskState → Kept → Type 0
IsHeldOn c disk t = HoldsBlob (blobs_start c) t.place (bytes_at disk.seen (blobs_start c + t.place) t.length) disk

-- what an undecided record would have made of the cabinet; the cabinet itself where there is none. It says what the cabinet is, or it is the record of the
-- last command, which the disk failed at.
pub record IsBesideOn (s : State) (j : Journal) (disk : DiskState) : Type 0 where
  pub beside : State
  pub known : IsKnown beside
  pub is_beside : IsBeside s beside
  pub recorded : IsOpeningOf beside (unsure j disk)
  pub holds : AllByRecursion (IsHeldOn s.catalogue disk) (now beside).kept
  pub missed : IsOpeningOf s (unsure j disk) ⊎ HasMissed (on_disk true disk.seen s) (on_disk true disk.seen beside)

pub record IsKeptOn (s : State) (j : Journal) (disk : DiskState) : Type 0 where
  pub sound : IsSound j disk
  pub recorded : IsOpeningOf s (held j disk)
  pub holds : AllByRecursion (IsHeldOn s.catalogue disk) (now s).kept
  pub beside : IsBesideOn s j disk

pub record IsFiled (s : State) (told : Bool) (start : ℕ) (j : Journal) (disk : DiskState) : Type 0 where
  pub digest : digest_of j ≡ s.catalogue.digest
  pub slots : slots_of j ≡ slots_for s.catalogue
  pub version : version_of j ≡ 2
  pub start_is : start ≡ blobs_start s.catalogue
  pub on : IsTrue told → IsKeptOn s j disk

-- OPENING

-- the cabinet that begins with what records come to, with its blobs on a disk
abbrev pub opened_as : Bool → Content → Catalogue → Readings → Replayed → State
opened_as told seen c clock r = record { catalogue = c; opening = opening_after r; history = whole (opening_after r) []; since = []; blobs = blobs_on told c seen r.kept; clock = clock }

-- an image opens under the number of these records' last opening or the next one, to the same kept list as these records, and to a book that
-- answers for theirs, and has the blobs of a content
pub record OpensLike (c : Catalogue) (r : Replayed) (seen image : Content) : Type 0 where
  pub replayed : Replayed
  pub opens : OpensTo c image replayed
  pub opening : (opening_number replayed ≡ opening_number r) ⊎ (replayed.opening ≡ Some (opening_number r + 1))
  pub kept : IsPermutation replayed.kept r.kept
  pub answers : AnswersForBook (book_after replayed) (book_after r)
  pub has : AllByRecursion (λ t. HasIn c image (blob_on c seen t)) r.kept

-- what is refused of a content, and a fault of the disk only where its count of faults rose
abbrev pub IsRefusedAs : Bool → Catalogue → Content → ℕ → ℕ → OpenFault → Type 0
IsRefusedAs told c seen before after fault.NotACache = IsTrue told → opened c.digest (slots_for c) seen ≡ no_cache
IsRefusedAs told c seen before after (fault.CatalogueDiffers found asked) = (asked ≡ c.digest) × (IsTrue told → opened c.digest (slots_for c) seen ≡ differs found)
IsRefusedAs told c seen before after (fault.BadRecord slot) =
    IsTrue told → (version : ℕ) × (bodies : List (List ℕ)) × (entries : List (Option Record)) × (opened c.digest (slots_for c) seen ≡ records version bodies) × AreRecordsOf version bodies entries × IsRefusedAt c entries slot
IsRefusedAs told c seen before after fault.Spent = IsTrue told → (r : Replayed) × OpensTo c seen r × (2 ^ 24 ≤ opening_number r + 1)
IsRefusedAs told c seen before after fault.DiskFault = Rose before after
IsRefusedAs told c seen before after fault.OutOfMemory = ⊤
