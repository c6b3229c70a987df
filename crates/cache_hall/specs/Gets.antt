-- What a get over a hall does: that of a get over any access, by a pass.
use Rattle.std.specs.Prelude.{◌≡◌, Bool, true, List, Result}
use Rattle.cabinet_chest.specs.declared.shown.Note.{Note}
use Rattle.cache_access.specs.declared.fault.GetFault.{GetFault}
use Rattle.cache_access.specs.Gets.{Gets as GetsBy, HasGot as HasGotIf, IsGot as IsGotIf}
use Rattle.cache_core.specs.declared.outcome.Tile.{Tile}
use Rattle.catalog.specs.declared.catalogue.Catalogue.{Catalogue}
use Rattle.matrix_geometry.specs.declared.address.Address.{Address}
use Rattle.source_render.specs.Renders.{GivenImage}
use Rattle.truncation_list.specs.declared.book.FrontedBook.{FrontedBook}
use Rattle.turnstile.specs.declared.view.Made.{Made}
use Rattle.cache_hall.specs.Turned.{GainsTurns, HallPass}

-- THE TILE of a get by a pass that had seen this book, and what the pass made; its bytes are the encoded tile's, if the pass is told that
-- the cabinet is sound
abbrev pub HasGot : Catalogue → Bool → Address → FrontedBook → List (Made Note) → Tile → Type 0
HasGot c told a seen gained tile = HasGotIf c (told ≡ true) a seen gained tile

-- what a pass made for a get that came to this
abbrev pub IsGot : Catalogue → Bool → Address → FrontedBook → List (Made Note) → Result Tile GetFault → Type 0
IsGot c told a seen gained result = IsGotIf c (told ≡ true) a seen gained result

-- THE WHOLE: what a get did to its pass, and came to, by a source that has given these images
abbrev pub Gets : Catalogue → List GivenImage → Address → HallPass → HallPass → Result Tile GetFault → Type 0
Gets c gave a before after result = GetsBy (GainsTurns c) c gave (before.told ≡ true) a before.book before after result
