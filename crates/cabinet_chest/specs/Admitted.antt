-- Which commands a turn may do, by the catalogue alone.
use Rattle.std.specs.Prelude.{◌≡◌, ◌≤◌, length, ⊤}
use Rattle.catalog.specs.declared.catalogue.Catalogue.{Catalogue}
use Rattle.catalog.specs.LookUp.{IsTile}
use Rattle.raster_field.specs.Blocks.{IsMeta, blob_size, block_text}
use Rattle.served_covers.specs.OfCatalogue.{IsCoverOf}
use Rattle.cabinet_chest.specs.declared.command.Command.{Command}
use Rattle.cabinet_chest.specs.declared.command.Command.TheVariants as command

-- tiles, metatiles and covers are of the catalogue, a blob has its metatile's length, and there is a layer of the number, or it is
-- how many there are
abbrev pub Admits : Catalogue → Command → Type 0
Admits c (command.Ask a) = IsTile c a
Admits c (command.Force m) = IsMeta c m
Admits c (command.Finish t blob) = IsMeta c t.meta × (length blob ≡ blob_size c t.meta)
Admits c (command.Abandon t) = ⊤
Admits c (command.Cut cover) = IsCoverOf c cover
Admits c command.Expire = ⊤
Admits c command.SaveUses = ⊤
Admits c (command.Usage layer) = layer ≤ length c.layers

-- a sound cabinet stays so: a blob that is handed in is that of the picture of its number
abbrev pub KeepsSound : Catalogue → Command → Type 0
KeepsSound c (command.Ask a) = ⊤
KeepsSound c (command.Force m) = ⊤
KeepsSound c (command.Finish t blob) = blob ≡ block_text c t.number t.meta
KeepsSound c (command.Abandon t) = ⊤
KeepsSound c (command.Cut cover) = ⊤
KeepsSound c command.Expire = ⊤
KeepsSound c command.SaveUses = ⊤
KeepsSound c (command.Usage layer) = ⊤

abbrev pub TakesNoMemory : Command → Type 0
TakesNoMemory (command.Ask a) = ⊥
TakesNoMemory (command.Force m) = ⊥
TakesNoMemory (command.Finish t blob) = ⊤
TakesNoMemory (command.Abandon t) = ⊤
TakesNoMemory (command.Cut cover) = ⊥
TakesNoMemory command.Expire = ⊤
TakesNoMemory command.SaveUses = ⊤
TakesNoMemory (command.Usage layer) = ⊤
