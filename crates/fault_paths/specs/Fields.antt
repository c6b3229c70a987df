-- What the member of each field stands in, and its name in the text of a catalogue.
use Rattle.std.specs.Prelude.{ℕ, List, codes}
use Rattle.catalog.specs.declared.fault.Field.{Field}
use Rattle.catalog.specs.declared.fault.Field.TheVariants as field
use Rattle.fault_paths.specs.declared.fields.Owner.{Owner}
use Rattle.fault_paths.specs.declared.fields.Owner.TheVariants as owner

abbrev pub owner_of : Field → Owner
owner_of field.Source = owner.Outermost
owner_of field.KeptLimit = owner.Outermost
owner_of field.CutLimit = owner.Outermost
owner_of field.BlobBytes = owner.Outermost
owner_of field.Quota = owner.Outermost
owner_of field.Policy = owner.Outermost
owner_of field.Grids = owner.Outermost
owner_of field.Layers = owner.Outermost
owner_of field.GridId = owner.Grid
owner_of field.Meters = owner.Grid
owner_of field.Corner = owner.Grid
owner_of field.Matrices = owner.Grid
owner_of field.MatrixId = owner.Matrix
owner_of field.MatrixCorner = owner.Matrix
owner_of field.Span = owner.Matrix
owner_of field.Scale = owner.Matrix
owner_of field.Tile = owner.Matrix
owner_of field.Size = owner.Matrix
owner_of field.LayerId = owner.Layer
owner_of field.LayerGrids = owner.Layer
owner_of field.Styles = owner.Layer
owner_of field.StyleId = owner.Style
owner_of field.Breaks = owner.Style
owner_of field.Dimensions = owner.Layer
owner_of field.DimensionId = owner.Dimension
owner_of field.Values = owner.Dimension
owner_of field.Default = owner.Dimension
owner_of field.Meta = owner.Layer
owner_of field.Gutter = owner.Layer
owner_of field.Cell = owner.Layer
owner_of field.LayerQuota = owner.Layer
owner_of field.Ages = owner.Layer

abbrev pub name_of : Field → List ℕ
name_of field.Source = codes "source"
name_of field.KeptLimit = codes "keptLimit"
name_of field.CutLimit = codes "cutLimit"
name_of field.BlobBytes = codes "blobBytes"
name_of field.Quota = codes "quota"
name_of field.Policy = codes "policy"
name_of field.Grids = codes "grids"
name_of field.Layers = codes "layers"
name_of field.GridId = codes "id"
name_of field.Meters = codes "metersPerUnit"
name_of field.Corner = codes "corner"
name_of field.Matrices = codes "matrices"
name_of field.MatrixId = codes "id"
name_of field.MatrixCorner = codes "corner"
name_of field.Span = codes "span"
name_of field.Scale = codes "scale"
name_of field.Tile = codes "tile"
name_of field.Size = codes "size"
name_of field.LayerId = codes "id"
name_of field.LayerGrids = codes "grids"
name_of field.Styles = codes "styles"
name_of field.StyleId = codes "id"
name_of field.Breaks = codes "breaks"
name_of field.Dimensions = codes "dimensions"
name_of field.DimensionId = codes "id"
name_of field.Values = codes "values"
name_of field.Default = codes "default"
name_of field.Meta = codes "meta"
name_of field.Gutter = codes "gutter"
name_of field.Cell = codes "cell"
name_of field.LayerQuota = codes "quota"
name_of field.Ages = codes "ages"
