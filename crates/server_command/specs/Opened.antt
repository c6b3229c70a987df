-- How the cache of a server is opened.
use Rattle.std.specs.Prelude.{All, ℕ, ◌≡◌, Bool, IsTrue, List, Option, Some}
use Rattle.cabinet.specs.State.{State}
use Rattle.cabinet_records.specs.Replay.{Replayed}
use Rattle.catalog.specs.declared.catalogue.Catalogue.{Catalogue}
use Rattle.base.specs.Readings.{Readings}
use Rattle.command_setup.specs.Held.{MayBe}
use Rattle.disk_model.specs.Content.{Content}
use Rattle.durable_cabinet.specs.Filed.{IsRefusedAs, opened_as}
use Rattle.durable_cabinet.specs.Images.{IsSoundImage, OpensTo}
use Rattle.gate_journal.specs.declared.fault.OpenFault.{OpenFault}

-- the disk of a server: whether it is modelled, what a read of it gives, and how often disks have failed
pub record ServerDisk (D : Type 0) : Type 0 where
  pub disk : D
  pub told : Bool
  pub seen : Content
  pub faults : D → ℕ

-- each kept blob of the disk is the text of its block in the picture of its number, by the catalogue of the text
abbrev pub HoldsPictures : Option (List ℕ) → Content → Type 0
HoldsPictures text seen = (c : Catalogue) → MayBe text c → IsSoundImage c seen

-- the cabinet begins with the records that the disk opens to, where that is modelled
pub record IsOpenedFromDisk {D : Type 0} (d : ServerDisk D) (c : Catalogue) (clock : Readings) (s : State) : Type 0 where
  pub replayed : Replayed
  pub opens : IsTrue d.told → OpensTo c d.seen replayed
  pub is : s ≡ opened_as d.told d.seen c clock replayed

-- the cache isn't opened for this cause, and the disk was handed back, which may have failed once more
abbrev pub IsUnopened : {D : Type 0} → ServerDisk D → OpenFault → Catalogue → Type 0
IsUnopened {D} d f c = (left : D) × IsRefusedAs d.told c d.seen (d.faults d.disk) (d.faults left) f

-- each source makes the pictures of the number that the catalogue of the text names
abbrev pub TellAll : {S : Type 0} → Option (List ℕ) → (S → Option ℕ) → List S → Type 0
TellAll text tells sources = (c : Catalogue) → MayBe text c → All (λ s. tells s ≡ Some c.source) sources
