-- The blob that is cut out of an image of a metatile's window, in the terms of a catalogue.
use Rattle.std.specs.Prelude.{ℕ, List, []}
use Rattle.std.specs.Option.{option_map_or}
use Rattle.catalog.specs.declared.catalogue.Catalogue.{Catalogue}
use Rattle.catalog.specs.LookUp.{matrix_in}
use Rattle.metatile_plan.specs.declared.metatile.MetaKey.{MetaKey}
use Rattle.raster_field.specs.Blocks.{factors_at}
use Rattle.raster_field.specs.Rasters.{Image}
use Rattle.ppm_slice.specs.Cut.{cut_block}

-- the encoded tiles of a metatile, row by row, cut out of an image of its window; the gutter is left over
abbrev pub blob_cut : Catalogue → MetaKey → Image → List ℕ
blob_cut c k image = option_map_or (λ m. cut_block (factors_at c k.theme) m k image) (matrix_in c k.grid k.z) []
