-- How what is taken over comes into the file of the new cache.
use Rattle.std.specs.Prelude.{ℕ, ◌≡◌, ◌+◌, ◌∷◌, ◌++◌, [], Bool, true, false, IsTrue, List}
use Rattle.cabinet.specs.declared.kept.Kept.{Kept}
use Rattle.cache_file.specs.File.{HoldsBlob}
use Rattle.catalog.specs.declared.catalogue.Catalogue.{Catalogue}
use Rattle.catalogue_change.specs.Alike.{Stays}
use Rattle.disk_model.specs.Content.{Content, bytes_at}
use Rattle.disk_model.specs.Images.{DiskState}
use Rattle.gate_journal.specs.declared.journal.Journal.{Journal}
use Rattle.gate_journal.specs.Sound.{IsSettled, IsSound}
use Rattle.carry_over.specs.declared.choosing.Choice.{Choice}
use Rattle.carry_over.specs.declared.choosing.Choice.TheVariants as choice
use Rattle.carry_over.specs.Chosen.{HasRoomIn}

-- why a metatile is chosen or not
abbrev pub IsChoice : Catalogue → Catalogue → Kept → Choice → Type 0
IsChoice c d t choice.Gone = Stays c d t.meta → ⊥
IsChoice c d t choice.Roomless = Stays c d t.meta × (HasRoomIn d t → ⊥)
IsChoice c d t choice.Taken = Stays c d t.meta × HasRoomIn d t

-- what it adds to the chosen ones, and to those without room
abbrev pub Adds : Kept → Choice → List Kept → ℕ → List Kept → ℕ → Type 0
Adds t choice.Gone us n vs m = (vs ≡ us) × (m ≡ n)
Adds t choice.Roomless us n vs m = (vs ≡ us) × (m ≡ n + 1)
Adds t choice.Taken us n vs m = (vs ≡ us ++ t ∷ []) × (m ≡ n)

-- a disk holds in a metatile's region, counted from where its blobs begin, the bytes that a content has in that region, counted from where that one's begin
abbrev pub IsCopyOn : ℕ → Content → ℕ → DiskState → Kept → Type 0
IsCopyOn from seen start disk t = HoldsBlob start t.place (bytes_at seen (from + t.place) t.length) disk

-- a settled file that agrees with its disk
pub record IsWhole (told : Bool) (j : Journal) (disk : DiskState) : Type 0 where
  pub settled : IsSettled j
  pub sound : IsTrue told → IsSound j disk

-- one that was read is put behind the others, else it is counted
abbrev pub Notes : Kept → Bool → List Kept → ℕ → List Kept → ℕ → Type 0
Notes t true us n vs m = (vs ≡ us ++ t ∷ []) × (m ≡ n)
Notes t false us n vs m = (vs ≡ us) × (m ≡ n + 1)
