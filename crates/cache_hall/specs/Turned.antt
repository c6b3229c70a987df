-- What a pass of a hall makes: turns at one cabinet.
use Rattle.std.specs.Prelude.{◌≡◌, List, Some}
use Rattle.atomic_table.specs.Seated.{TableId}
use Rattle.cabinet_chest.specs.declared.command.Command.{Command}
use Rattle.cabinet_chest.specs.declared.command.Reply.{Reply}
use Rattle.cabinet_chest.specs.declared.shown.Note.{Note}
use Rattle.cache_access.specs.Turned.{AreTurns, GainsOne as GainsOneBy}
use Rattle.catalog.specs.declared.catalogue.Catalogue.{Catalogue}
use Rattle.turnstile.specs.declared.view.Made.{Made}
use Rattle.turnstile.specs.Passes.{Holding, seen_by}

-- a pass of a hall as contracts see it
abbrev pub HallPass : Type 0
HallPass = Holding Catalogue Note

-- the pass is one of this turnstile, at a cabinet of this catalogue
pub record IsPassOf (table : TableId) (c : Catalogue) (pass : HallPass) : Type 0 where
  pub same_table : pass.table ≡ table
  pub charter : pass.charter ≡ Some c

-- what a call did to its pass: it made these turns
pub record GainsTurns (c : Catalogue) (before after : HallPass) (gained : List (Made Note)) : Type 0 where
  pub is : after ≡ seen_by before after.book gained
  pub turns : AreTurns c before.told before.book gained after.book

-- a call made one turn, of this command and with this reply
abbrev pub GainsOne : Catalogue → HallPass → HallPass → Command → Reply → Type 0
GainsOne c before after does answer = GainsOneBy (GainsTurns c) before after does answer
