-- Blobs that turns hand in are cut out of what the source gave.
use Rattle.std.specs.Prelude.{List, ⊤}
use Rattle.std.specs.List.{AllByRecursion}
use Rattle.cabinet_chest.specs.declared.command.Command.{Command}
use Rattle.cabinet_chest.specs.declared.command.Command.TheVariants as command
use Rattle.cabinet_chest.specs.declared.shown.Note.{Note}
use Rattle.cache_core.specs.Given.{IsCutOf}
use Rattle.catalog.specs.declared.catalogue.Catalogue.{Catalogue}
use Rattle.source_render.specs.Renders.{GivenImage}
use Rattle.turnstile.specs.declared.view.Made.{Made}

-- a command that hands a blob in hands in one that is cut out of an image of its ticket
abbrev pub IsFromSource : Catalogue → List GivenImage → Command → Type 0
IsFromSource c gave (command.Ask a) = ⊤
IsFromSource c gave (command.Force m) = ⊤
IsFromSource c gave (command.Finish t blob) = IsCutOf c gave t blob
IsFromSource c gave (command.Abandon t) = ⊤
IsFromSource c gave (command.Cut cover) = ⊤
IsFromSource c gave command.Expire = ⊤
IsFromSource c gave command.SaveUses = ⊤
IsFromSource c gave (command.Usage layer) = ⊤

-- each blob that these turns hand in is cut out of an image that the source gave for its ticket
abbrev pub AreFromSource : Catalogue → List GivenImage → List (Made Note) → Type 0
AreFromSource c gave turns = AllByRecursion (λ m. IsFromSource c gave m.note.command) turns
