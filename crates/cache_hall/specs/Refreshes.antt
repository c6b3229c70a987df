-- What a refresh over a hall does: that of a refresh over any access, by a pass.
use Rattle.std.specs.Prelude.{◌≡◌, Bool, true, List, Result}
use Rattle.cabinet_chest.specs.declared.shown.Note.{Note}
use Rattle.cache_access.specs.declared.fault.GetFault.{GetFault}
use Rattle.cache_access.specs.declared.refreshed.Refreshed.{Refreshed}
use Rattle.cache_access.specs.Refreshes.{CameTo as CameToIf, Refreshes as RefreshesBy}
use Rattle.catalog.specs.declared.catalogue.Catalogue.{Catalogue}
use Rattle.metatile_plan.specs.declared.metatile.MetaKey.{MetaKey}
use Rattle.source_render.specs.Renders.{GivenImage}
use Rattle.truncation_list.specs.declared.book.FrontedBook.{FrontedBook}
use Rattle.turnstile.specs.declared.view.Made.{Made}
use Rattle.cache_hall.specs.Turned.{GainsTurns, HallPass}

-- what a pass made for a refresh that came to this; the blob that is handed in is the metatile's, if the pass is told that the cabinet is
-- sound
abbrev pub CameTo : Catalogue → Bool → MetaKey → Bool → FrontedBook → List (Made Note) → Result Refreshed GetFault → Type 0
CameTo c told m force seen gained result = CameToIf c (told ≡ true) m force seen gained result

-- THE WHOLE: what a refresh did to its pass, and came to, by a source that has given these images
abbrev pub Refreshes : Catalogue → List GivenImage → MetaKey → Bool → HallPass → HallPass → Result Refreshed GetFault → Type 0
Refreshes c gave m force before after result = RefreshesBy (GainsTurns c) c gave (before.told ≡ true) m force before.book before after result
