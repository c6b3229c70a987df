-- What each end of the word `list` says.
use Rattle.std.specs.Prelude.{ℕ, ◌≡◌, ◌⊎◌, IsTrue, List, ◌++◌, Option, Some, None, Err, Ok}
use Rattle.std.specs.Io.KnownBytes.{Appends}
use Rattle.cabinet_records.specs.Replay.{Replayed}
use Rattle.catalog.specs.declared.catalogue.Catalogue.{Catalogue}
use Rattle.catalog.specs.LookUp.{layer_named}
use Rattle.command_setup.specs.Refusals.{status_of_refusal}
use Rattle.command_setup.specs.Setup.{Configures, IsRead}
use Rattle.command_setup.specs.declared.configuration.Unconfigured.{Unconfigured}
use Rattle.command_status.specs.declared.status.Status.{Status}
use Rattle.command_status.specs.declared.status.Status.TheVariants as status
use Rattle.durable_cabinet.specs.Images.{OpensTo}
use Rattle.job_forms.specs.declared.fault.JobFault.TheVariants as job_fault
use Rattle.job_forms.specs.declared.fault.JobField.TheVariants as field
use Rattle.opened_cache.specs.Change.{DiskChange, HasFailed, HasWritten, IsCutShort}
use Rattle.opened_cache.specs.Opened.{IsRefused}
use Rattle.sessions.specs.Outside.{InputChange, OutputChange}
use Rattle.look_words.specs.declared.words.Listed.{Listed}
use Rattle.look_words.specs.declared.words.Listed.TheVariants as listed
use Rattle.look_words.specs.Texts.{list_text}

-- the records of the disk come to this, where it is modelled
abbrev pub IsKeptSo : Catalogue → DiskChange → Replayed → Type 0
IsKeptSo c d r = IsTrue d.told → OpensTo c d.from.seen r

-- a front of the text was written, up to all of it
pub record HasBegun (o : OutputChange) (text : List ℕ) : Type 0 where
  pub front : List ℕ
  pub rest : List ℕ
  pub whole : text ≡ front ++ rest
  pub written : Appends o.from o.to front

-- what each end says of a list of one layer, or of all; `Stays` is that the output stays as it is
abbrev pub Lists : Catalogue → Option ℕ → DiskChange → OutputChange → Type 0 → Status → Type 0
Lists c layer d o Stays status.Done = (r : Replayed) × IsKeptSo c d r × HasWritten o (list_text c layer r.kept)
Lists c layer d o Stays status.WriteFault = (r : Replayed) × IsKeptSo c d r × IsCutShort o (list_text c layer r.kept)
Lists c layer d o Stays (status.Cache cause) = IsRefused c d cause × Stays
Lists c layer d o Stays status.DiskFault = HasFailed d × Stays
Lists c layer d o Stays status.OutOfMemory = Stays ⊎ ((r : Replayed) × IsKeptSo c d r × HasBegun o (list_text c layer r.kept))
Lists c layer d o Stays status.ReadFault = ⊥
Lists c layer d o Stays status.TooLong = ⊥
Lists c layer d o Stays (status.Form cause) = ⊥
Lists c layer d o Stays status.CutsFull = ⊥
Lists c layer d o Stays (status.Line n) = ⊥
Lists c layer d o Stays (status.Stream session) = ⊥
Lists c layer d o Stays status.Usage = ⊥
Lists c layer d o Stays (status.Catalogue fault) = ⊥
Lists c layer d o Stays status.ListenFault = ⊥
Lists c layer d o Stays status.ThreadFault = ⊥

-- what was seen of the catalogue's input, of the disk and of the output, and that each of them stays as it is
pub record ListChange : Type 1 where
  pub catalogue : InputChange
  pub disk : DiskChange
  pub output : OutputChange
  pub catalogue_stays : Type 0
  pub disk_stays : Type 0
  pub output_stays : Type 0

-- a layer that the catalogue doesn't have is refused before the disk is touched
abbrev pub ListsLayer : Catalogue → Option ℕ → DiskChange → OutputChange → Type 0 → Type 0 → Status → Type 0
ListsLayer c None d o DiskStays Stays s = (s ≡ status.Form (job_fault.Bad field.Layer)) × DiskStays × Stays
ListsLayer c (Some layer) d o DiskStays Stays s = Lists c (Some layer) d o Stays s

-- what each end says by what is asked for, with this name of a layer, where the catalogue was read
abbrev pub ListsRead : Catalogue → Listed → List ℕ → DiskChange → OutputChange → Type 0 → Type 0 → Status → Type 0
ListsRead c listed.All name d o DiskStays Stays s = Lists c None d o Stays s
ListsRead c listed.OfLayer name d o DiskStays Stays s = ListsLayer c (layer_named c name) d o DiskStays Stays s
ListsRead c listed.Nothing name d o DiskStays Stays s = (s ≡ status.Usage) × DiskStays × Stays

-- the catalogue was refused and nothing else was touched, or it was read, and the list ended so
abbrev pub ListTellsOf : Listed → List ℕ → ListChange → Status → Type 0
ListTellsOf what name h s =
    ((e : Unconfigured) × (s ≡ status_of_refusal e) × Configures h.catalogue (Err e) × h.disk_stays × h.output_stays)
    ⊎ ((c : Catalogue) × IsRead h.catalogue (Ok c) × ListsRead c what name h.disk h.output h.disk_stays h.output_stays s)

-- what each end says, by what the words ask for, with this name of a layer; words that are none of a list touch nothing
abbrev pub ListTells : Listed → List ℕ → ListChange → Status → Type 0
ListTells listed.Nothing name h s = (s ≡ status.Usage) × h.catalogue_stays × h.disk_stays × h.output_stays
ListTells listed.All name h s = ListTellsOf listed.All name h s
ListTells listed.OfLayer name h s = ListTellsOf listed.OfLayer name h s
