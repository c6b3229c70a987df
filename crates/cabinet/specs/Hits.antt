-- Which metatiles and which tiles of a catalogue a cover is for.
use Rattle.std.specs.Prelude.{Bool, false}
use Rattle.std.specs.Option.{option_map_or}
use Rattle.catalog.specs.declared.catalogue.Catalogue.{Catalogue}
use Rattle.catalog.specs.LookUp.{matrix_in}
use Rattle.matrix_geometry.specs.declared.address.Address.{Address}
use Rattle.metatile_plan.specs.declared.metatile.MetaKey.{MetaKey}
use Rattle.metatile_locks.specs.Running.{block}
use Rattle.raster_field.specs.Blocks.{factors_at}
use Rattle.truncation_list.specs.declared.cover.Cover.{Cover}
use Rattle.truncation_list.specs.Covers.{covers, hits}

-- the cover is for some tile of the metatile
abbrev pub hits_of : Catalogue → Cover → MetaKey → Bool
hits_of c cover m = option_map_or (λ x. hits cover x (block (factors_at c m.theme) x m)) (matrix_in c m.grid m.z) false

-- the cover is for the tile
abbrev pub covers_in : Catalogue → Cover → Address → Bool
covers_in c cover a = option_map_or (λ x. covers cover x a) (matrix_in c a.grid a.z) false
