-- What the upkeep of a cache may do.
use Rattle.std.specs.Prelude.{All, Bool, ◌≡◌, ◌⊎◌, ◌||◌, IsTrue, List, is_some}
use Rattle.std.specs.List.{Contains, list_any}
use Rattle.cabinet_chest.specs.declared.command.Command.TheVariants as command
use Rattle.cabinet_chest.specs.declared.shown.Note.{Note}
use Rattle.cache_hall.specs.Turned.{GainsTurns, HallPass}
use Rattle.catalog.specs.declared.catalogue.Catalogue.{Catalogue}
use Rattle.turnstile.specs.declared.view.Made.{Made}

-- some quota is set: that of all layers, or a layer's
abbrev pub has_quota : Catalogue → Bool
has_quota c = is_some c.quota || list_any (λ l. is_some l.quota) c.layers

-- the turn drops a metatile of a scope whose quota is exceeded, or saves uses, where there is something to drop or to save; uses are saved
-- only where some quota is set
abbrev pub IsUpkeep : Catalogue → Made Note → Type 0
IsUpkeep c turn = (turn.note.command ≡ command.Expire) ⊎ ((turn.note.command ≡ command.SaveUses) × IsTrue (has_quota c))

-- a pass made such turns and no others: none that truncates, asks for a tile or begins a render
pub record HasKeptUp (c : Catalogue) (before after : HallPass) : Type 0 where
  pub turns : List (Made Note)
  pub gains : GainsTurns c before after turns
  pub all : All (IsUpkeep c) turns

-- a pass that was this one has kept the cache up, and is among those
pub record IsKeptUpBy (c : Catalogue) (before : HallPass) (passes : List HallPass) : Type 0 where
  pub after : HallPass
  pub kept_up : HasKeptUp c before after
  pub among : Contains passes after
