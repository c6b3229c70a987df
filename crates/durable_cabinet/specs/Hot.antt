-- The hot tier of a cabinet on a disk: the texts of the tiles that were read lately, each with the number of its render.
use Rattle.std.specs.Prelude.{ℕ, ◌≡◌, ◌≢◌, ◌≤◌, Bool, List, Some}
use Rattle.std.specs.List.{AllByRecursion}
use Rattle.cabinet.specs.declared.kept.Kept.{Kept}
use Rattle.cabinet.specs.History.{CabinetStanding, kept_of}
use Rattle.cabinet.specs.State.{State, now}
use Rattle.catalog.specs.declared.catalogue.Catalogue.{Catalogue}
use Rattle.disk_model.specs.Content.{Content}
use Rattle.matrix_geometry.specs.declared.address.Address.{Address}
use Rattle.raster_field.specs.Blocks.{block_of}
use Rattle.durable_cabinet.specs.Tiles.{IsTilePartOf}
use Rattle.durable_cabinet.specs.declared.texts.HotText.{HotText}
use Rattle.durable_cabinet.specs.declared.texts.TileKey.{TileKey}

-- a text in the tier: its tile, the number of its render, and its bytes
pub record HotTile : Type 0 where
  pub address : Address
  pub number : ℕ
  pub bytes : List ℕ

abbrev pub hot_tile : Address → ℕ → List ℕ → HotTile
hot_tile a number bytes = record { address = a; number = number; bytes = bytes }

-- the tile of a key
abbrev pub address_of : TileKey → Address
address_of k = record { theme = k.theme; grid = k.grid; z = k.z; row = k.row; col = k.col }

-- the text that an entry of the tier holds
abbrev pub tile_of : TileKey × HotText → HotTile
tile_of e = hot_tile (address_of e.0) e.1.number e.1.text

-- The text's number was given, and its render has ended; and where that is the number of what is kept of the tile's metatile, the text
-- is the tile's part of it.
pub record IsHotTile (told : Bool) (c : Catalogue) (standing : CabinetStanding) (seen : Content) (x : HotTile) : Type 0 where
  pub given : x.number ≤ standing.front
  pub ended : AllByRecursion (λ r. r.number ≢ x.number) standing.out
  pub part : (t : Kept) → kept_of (block_of c x.address) standing ≡ Some t → t.number ≡ x.number → IsTilePartOf told c seen x.address t x.bytes

-- THE TIER of a cabinet
abbrev pub IsHot : Bool → State → Content → List HotTile → Type 0
IsHot told s seen tier = AllByRecursion (IsHotTile told s.catalogue (now s) seen) tier

-- what may be in the tier of the first cabinet may be in that of the second, whatever the disk holds
abbrev pub StaysHot : State → State → Type 0
StaysHot s u = (told : Bool) (seen : Content) (x : HotTile) → IsHotTile told s.catalogue (now s) seen x → IsHotTile told u.catalogue (now u) seen x
