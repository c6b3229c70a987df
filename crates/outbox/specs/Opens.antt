-- What an opening of an outbox comes to.
use Rattle.std.specs.Prelude.{◌≡◌, ℕ, List, length, Option, Some, None, Result, Ok, Err}
use Rattle.catalog.specs.declared.catalogue.Catalogue.{Catalogue}
use Rattle.gate_journal.specs.declared.fault.OpenFault.{OpenFault}
use Rattle.gate_journal.specs.declared.fault.OpenFault.TheVariants as fault
use Rattle.truncation_list.specs.declared.cover.Cover.{Cover}
use Rattle.outbox.specs.Files.{ArePosts, IsBadBehind}
use Rattle.outbox.specs.Posts.{ShownOutbox}

-- the disk after an opening, which a refusal hands back
abbrev pub disk_of : {D : Type 0} → Result (ShownOutbox D) (OpenFault × D) → D
disk_of (Ok outbox) = outbox.file.disk
disk_of (Err refusal) = refusal.1

-- a fault with this digest as the one that was asked for
abbrev pub asked_for : List ℕ → OpenFault → OpenFault
asked_for digest fault.NotACache = fault.NotACache
asked_for digest (fault.CatalogueDiffers found asked) = fault.CatalogueDiffers found digest
asked_for digest (fault.BadRecord slot) = fault.BadRecord slot
asked_for digest fault.Spent = fault.Spent
asked_for digest fault.DiskFault = fault.DiskFault
asked_for digest fault.OutOfMemory = fault.OutOfMemory

-- WHAT A READER KEEPS TO

-- the catalogue of a reader, and the bodies that it was shown
pub record Read : Type 0 where
  pub catalogue : Catalogue
  pub bodies : List (List ℕ)

-- the bodies are those of these posts, or the one in this slot is the first that is no post's
abbrev pub StandsAt : Catalogue → List (List ℕ) → List Cover → Option ℕ → Type 0
StandsAt c bodies posts None = ArePosts c bodies posts
StandsAt c bodies posts (Some slot) = IsBadBehind c bodies slot

pub record IsReadTo (c : Catalogue) (bodies : List (List ℕ)) (posts : List Cover) (count : ℕ) (bad : Option ℕ) : Type 0 where
  pub counted : count ≡ length bodies
  pub stands : StandsAt c bodies posts bad
