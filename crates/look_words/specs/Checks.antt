-- What each end of the word `check` says.
use Rattle.std.specs.Prelude.{ℕ, ◌≡◌, ◌<◌, ◌≤◌, ◌+◌, ◌^◌, ◌⊎◌, Bool, true, false, IsTrue, List, length, Option, Some, Ok, ⊤}
use Rattle.std.specs.Option.{option_map_or}
use Rattle.base.specs.Causes.{Rose}
use Rattle.cabinet.specs.declared.kept.Kept.{Kept}
use Rattle.cabinet_records.specs.Replay.{Replayed, opening_number}
use Rattle.catalog.specs.declared.catalogue.Catalogue.{Catalogue}
use Rattle.command_setup.specs.Refusals.{status_of_refusal}
use Rattle.command_setup.specs.Setup.{AreRead, HasRisen, IsRefused as AreRefused}
use Rattle.command_setup.specs.declared.configuration.Unconfigured.{Unconfigured}
use Rattle.command_setup.specs.declared.configuration.TheConstants.{CATALOGUE_LIMIT}
use Rattle.command_status.specs.declared.status.Status.{Status}
use Rattle.command_status.specs.declared.status.Status.TheVariants as status
use Rattle.config_text.specs.Text.{catalogue_of}
use Rattle.durable_cabinet.specs.Images.{OpensTo}
use Rattle.opened_cache.specs.Change.{DiskChange, HasFailed, HasWritten, IsCutShort}
use Rattle.opened_cache.specs.Opened.{IsRefused}
use Rattle.sessions.specs.Outside.{InputChange, OutputChange}
use Rattle.gate_journal.specs.declared.fault.OpenFault.TheVariants as fault
use Rattle.opened_cache.specs.Texts.{Sends}
use Rattle.truncation_list.specs.declared.book.Book.{Book}
use Rattle.look_words.specs.Texts.{check_text, looked_text}

-- the disk holds a cache of the catalogue, whose records come to this, and one more opening can be numbered: a start would open it
pub record IsInOrder (c : Catalogue) (d : DiskChange) (r : Replayed) : Type 0 where
  pub opens : IsTrue d.told → OpensTo c d.from.seen r
  pub number : opening_number r + 1 < 2 ^ 24

-- how what records are restored to is told: that the numbers of openings are spent, or a text
abbrev pub TellsRestored : Catalogue → List ℕ → Option ℕ → List Kept → Book → OutputChange → Type 0 → Status → Type 0
TellsRestored c document opening kept book o Stays s =
    ((2 ^ 24 ≤ option_map_or (λ e. e) opening 0 + 1) × (s ≡ status.Cache fault.Spent) × Stays)
    ⊎ ((option_map_or (λ e. e) opening 0 + 1 < 2 ^ 24) × Sends o (looked_text c document kept book) s)

-- What each end says where both files were read; `Stays` is that the output stays as it is. Each refusal is the one of a start.
abbrev pub Checks : Catalogue → List ℕ → DiskChange → OutputChange → Type 0 → Status → Type 0
Checks c document d o Stays status.Done = (r : Replayed) × IsInOrder c d r × HasWritten o (check_text c document r)
Checks c document d o Stays status.WriteFault = (r : Replayed) × IsInOrder c d r × IsCutShort o (check_text c document r)
Checks c document d o Stays (status.Cache cause) = IsRefused c d cause × Stays
Checks c document d o Stays status.DiskFault = HasFailed d × Stays
Checks c document d o Stays status.OutOfMemory = Stays
Checks c document d o Stays status.ReadFault = ⊥
Checks c document d o Stays status.TooLong = ⊥
Checks c document d o Stays (status.Form cause) = ⊥
Checks c document d o Stays status.CutsFull = ⊥
Checks c document d o Stays (status.Line n) = ⊥
Checks c document d o Stays (status.Stream session) = ⊥
Checks c document d o Stays status.Usage = ⊥
Checks c document d o Stays (status.Catalogue fault) = ⊥
Checks c document d o Stays status.ListenFault = ⊥
Checks c document d o Stays status.ThreadFault = ⊥

-- what was seen of the inputs, of the disk and of the output, and that each of it stays as it is
pub record CheckChange : Type 1 where
  pub catalogue : InputChange
  pub capabilities : InputChange
  pub disk : DiskChange
  pub output : OutputChange
  pub catalogue_stays : Type 0
  pub capabilities_stay : Type 0
  pub disk_stays : Type 0
  pub output_stays : Type 0

-- Words that are none of a check touch nothing. Else a file was refused and nothing else was touched, or both were read, and the disk was looked at.
abbrev pub CheckTells : Bool → CheckChange → Status → Type 0
CheckTells false h s = (s ≡ status.Usage) × h.catalogue_stays × h.capabilities_stay × h.disk_stays × h.output_stays
CheckTells true h s =
    ((e : Unconfigured) × (s ≡ status_of_refusal e) × AreRefused h.catalogue h.capabilities h.capabilities_stay e × h.disk_stays × h.output_stays)
    ⊎ ((c : Catalogue) × (document : List ℕ) × AreRead h.catalogue h.capabilities c document × Checks c document h.disk h.output h.output_stays s)

-- WHAT IS IN ORDER IS DONE

-- the files are modelled, and a start would take them: the first is the text of this catalogue, neither has more bytes than it may have, and the
-- disk opens to these records and has a number left
pub record IsReady (h : CheckChange) (c : Catalogue) (r : Replayed) : Type 0 where
  pub text : List ℕ
  pub document : List ℕ
  pub catalogue : h.catalogue.from ≡ Some text
  pub short : length text ≤ CATALOGUE_LIMIT
  pub comes : catalogue_of text ≡ Ok c
  pub capabilities : h.capabilities.from ≡ Some document
  pub document_short : length document ≤ 4194304
  pub told : IsTrue h.disk.told
  pub order : IsInOrder c h.disk r

-- no read failed, and neither the disk nor the output did
pub record NothingFails (h : CheckChange) : Type 0 where
  pub catalogue : HasRisen h.catalogue → ⊥
  pub capabilities : HasRisen h.capabilities → ⊥
  pub disk : HasFailed h.disk → ⊥
  pub output : Rose h.output.writes.before h.output.writes.after → ⊥

-- where a start would take the files and nothing fails, a check is done, or memory ran out
abbrev pub IsComplete : Bool → CheckChange → Status → Type 0
IsComplete false h s = ⊤
IsComplete true h s = (c : Catalogue) (r : Replayed) → IsReady h c r → NothingFails h → (s ≡ status.Done) ⊎ (s ≡ status.OutOfMemory)
