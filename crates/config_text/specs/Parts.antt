-- A layer by its parts, each read by a function of its own. The reading that promises cite is that of Layers, which is the same.
use Rattle.std.specs.Prelude.{ℕ, ◌^◌, List, [], length, Result, Ok, codes}
use Rattle.serde_json.specs.Data.{Data}
use Rattle.serde_json.specs.Find.{get}
use Rattle.catalog.specs.declared.grid.Grid.{Grid}
use Rattle.catalog.specs.declared.layer.Dimension.{Dimension}
use Rattle.catalog.specs.declared.layer.Layer.{Layer}
use Rattle.catalog.specs.declared.layer.Style.{Style}
use Rattle.catalog.specs.declared.fault.Field.TheVariants as field
use Rattle.catalog.specs.declared.fault.CatalogueFault.{CatalogueFault}
use Rattle.catalog.specs.declared.fault.CatalogueFault.TheVariants.{Limit}
use Rattle.catalog.specs.FirstFault.{unless, are_small}
use Rattle.config_text.specs.declared.measures.Measures.{Measures}
use Rattle.config_text.specs.Ages.{ages}
use Rattle.config_text.specs.Layers.{dimension_of, factors, grid_number, style_of}
use Rattle.config_text.specs.Member.{required, or, if_any, name_beside, names, objects, whole}
use Rattle.config_text.specs.Reading.{◌>>=◌, entries, tested}

unfoldable pub numbers_in : ℕ → List Grid → Data → Result (List ℕ) CatalogueFault
numbers_in at grids d = do
  grid_names ← required (names 1 16) field.LayerGrids at (get (codes "grids") d)
  entries (grid_number at grids) [] grid_names

unfoldable pub styles_in : ℕ → Data → Result (List Style) CatalogueFault
styles_in at d = do
  ss ← required (objects 1 32) field.Styles at (get (codes "styles") d)
  entries style_of [] ss

unfoldable pub dims_in : ℕ → Data → Result (List Dimension) CatalogueFault
dims_in at d = do
  ds ← or [] (objects 0 4) field.Dimensions at (get (codes "dimensions") d)
  entries dimension_of [] ds

unfoldable pub measures_in : ℕ → Data → Result Measures CatalogueFault
measures_in at d = do
  meta ← or (record { w = 4; h = 4 }) factors field.Meta at (get (codes "meta") d)
  gutter ← or 0 (whole 0 64) field.Gutter at (get (codes "gutter") d)
  cell ← or 1 (whole 1 1000000000) field.Cell at (get (codes "cell") d)
  quota ← if_any (whole 0 (2 ^ 50)) field.LayerQuota at (get (codes "quota") d)
  Ok (record { meta = meta; gutter = gutter; cell = cell; quota = quota })

unfoldable pub layer_in : List Grid → List Layer → Data → Result Layer CatalogueFault
layer_in grids before d = do
  id ← required (name_beside (λ l. l.id) before) field.LayerId (length before) (get (codes "id") d)
  numbers ← numbers_in (length before) grids d
  styles ← styles_in (length before) d
  dims ← dims_in (length before) d
  m ← measures_in (length before) d
  ages ← or [] ages field.Ages (length before) (get (codes "ages") d)
  tested (unless (are_small grids numbers m.meta.w m.meta.h m.gutter) (Limit field.Meta (length before))) (record { id = id; grids = numbers; styles = styles; dims = dims; meta_x = m.meta.w; meta_y = m.meta.h; gutter = m.gutter; cell = m.cell; quota = m.quota; ages = ages })
