-- What an opening comes to, step by step.
use Rattle.std.specs.Prelude.{ℕ, ◌≡◌, ◌≤◌, ◌+◌, ◌⊎◌, Bool, IsTrue, List, [], length, Option, Some, Result, Ok, Err}
use Rattle.std.specs.List.{AllByRecursion}
use Rattle.std.specs.List.Sorted.{IsPermutation}
use Rattle.cabinet.specs.declared.kept.Kept.{Kept}
use Rattle.cabinet.specs.State.{State, now}
use Rattle.cabinet_records.specs.Replay.{AreRecordsOf, IsRestored, Replayed, Replays, book_after, opening_after, opening_number, unplayed}
use Rattle.cache_file.specs.declared.file.CacheFile.{CacheFile}
use Rattle.cache_file.specs.File.{Brings}
use Rattle.catalog.specs.declared.catalogue.Catalogue.{Catalogue}
use Rattle.disk_model.specs.Content.{Content}
use Rattle.disk_model.specs.Images.{DiskState, Only}
use Rattle.gate_journal.specs.declared.fault.OpenFault.{OpenFault}
use Rattle.gate_journal.specs.declared.fault.OpenFault.TheVariants as fault
use Rattle.gate_journal.specs.declared.journal.Journal.{Journal}
use Rattle.gate_journal.specs.Opened.{Opening, opened, records}
use Rattle.gate_journal.specs.Sound.{IsSettled, IsSound, digest_of, kept, slots_of, version_of}
use Rattle.record_text.specs.declared.entries.Record.{Record}
use Rattle.truncation_list.specs.declared.book.Book.{Book}
use Rattle.truncation_list.specs.Books.{AnswersForBook}
use Rattle.durable_cabinet.specs.Filed.{IsHeldOn, IsOpeningOf}
use Rattle.durable_cabinet.specs.Images.{HasIn, IsOurs, OpensTo, blob_on, blobs_start, slots_for}

-- the disk after a step of an opening, which a refusal hands back
abbrev pub disk_in : {D R : Type 0} → Result (CacheFile D × R) (OpenFault × D) → D
disk_in (Ok step) = step.0.disk
disk_in (Err refusal) = refusal.1

-- A journal was opened and settled, and this is what its records are restored to.
pub record IsReplayed (told : Bool) (c : Catalogue) (disk : DiskState) (j : Journal) (opening : Option ℕ) (kept_now : List Kept) (book : Book) : Type 0 where
  pub settled : IsSettled j
  pub same_slots : slots_of j ≡ slots_for c
  pub same_digest : digest_of j ≡ c.digest
  pub bodies : List (List ℕ)
  pub entries : List (Option Record)
  pub are : AreRecordsOf (version_of j) bodies entries
  pub restored : IsRestored c entries opening kept_now book
  pub opens : IsTrue told → (opened c.digest (slots_for c) disk.seen ≡ records (version_of j) bodies) × (kept j disk.seen ≡ bodies)
  pub sound : IsTrue told → blobs_start c ≤ length disk.seen → IsSound j disk
  pub only : IsTrue told → Only disk.seen disk.may_leave

-- A cabinet was just opened with what the records of its journal are restored to, and none of that was written yet.
pub record IsOpeningBegun (told : Bool) (s : State) (disk : DiskState) (start : ℕ) (j : Journal) : Type 0 where
  pub settled : IsSettled j
  pub same_slots : slots_of j ≡ slots_for s.catalogue
  pub same_digest : digest_of j ≡ s.catalogue.digest
  pub start_is : start ≡ blobs_start s.catalogue
  pub since : s.since ≡ []
  pub replayed : Replayed
  pub entries : List (Option Record)
  pub replays : Replays s.catalogue unplayed entries replayed
  pub opening : s.opening ≡ opening_after replayed
  pub are : IsTrue told → AreRecordsOf (version_of j) (kept j disk.seen) entries
  pub sound : IsTrue told → IsSound j disk
  pub holds : IsTrue told → AllByRecursion (IsHeldOn s.catalogue disk) (now s).kept

-- The opening was written down: its record was added, or other records, with it, are in place of the ones before.
pub record EntersOpening {T E : Type 0} (s : State) (result : Result T E) (start : ℕ) (j j' : Journal) (old new : DiskState) : Type 0 where
  pub written : Opening
  pub brings : Brings result written start j j' old new
  pub recorded : IsOpeningOf s written

-- an image opens under the number of the opening of a cabinet or the one before, to what the cabinet was opened with, and to a book that answers
-- for its book, has the blobs of a content, and is the file of a cabinet
pub record OpensWith (s : State) (seen image : Content) : Type 0 where
  pub replayed : Replayed
  pub opens : OpensTo s.catalogue image replayed
  pub opening : (opening_number replayed + 1 ≡ s.opening.number) ⊎ (replayed.opening ≡ Some s.opening.number)
  pub kept : IsPermutation replayed.kept s.opening.kept
  pub answers : AnswersForBook (book_after replayed) s.opening.book
  pub has : AllByRecursion (λ t. HasIn s.catalogue image (blob_on s.catalogue seen t)) s.opening.kept
  pub ours : IsOurs s.catalogue image

-- a fault with this digest as the one that was asked for
abbrev pub asked_for : List ℕ → OpenFault → OpenFault
asked_for digest fault.NotACache = fault.NotACache
asked_for digest (fault.CatalogueDiffers found asked) = fault.CatalogueDiffers found digest
asked_for digest (fault.BadRecord slot) = fault.BadRecord slot
asked_for digest fault.Spent = fault.Spent
asked_for digest fault.DiskFault = fault.DiskFault
asked_for digest fault.OutOfMemory = fault.OutOfMemory
