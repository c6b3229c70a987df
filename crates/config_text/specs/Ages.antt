-- The age limits of a layer.
use Rattle.std.specs.Prelude.{ℕ, ◌&&◌, List, [], length, map, min, Bool, nat_le, Result, Ok}
use Rattle.std.specs.List.{list_all}
use Rattle.serde_json.specs.Data.{Data}
use Rattle.json_forms.specs.Forms.{number_of}
use Rattle.catalog.specs.declared.layer.Age.{Age}
use Rattle.catalog.specs.declared.fault.Field.{Field}
use Rattle.catalog.specs.declared.fault.Field.TheVariants as field
use Rattle.catalog.specs.declared.fault.CatalogueFault.{CatalogueFault}
use Rattle.catalog.specs.declared.fault.CatalogueFault.TheVariants.{Bad, Limit}
use Rattle.catalog.specs.FirstFault.{unless, zooms_rise}
use Rattle.config_text.specs.declared.row.AgeRow.{AgeRow}
use Rattle.config_text.specs.Reading.{◌>>=◌, tested, entries}
use Rattle.config_text.specs.Member.{Form, of_kind, items}
use Rattle.config_text.specs.Shape.{two}

-- a row of two whole numbers: a zoom, and seconds
unfoldable pub age_row : ℕ → Data → Result AgeRow CatalogueFault
age_row at d = do
  pair ← two field.Ages at d
  zoom ← of_kind (number_of pair.0) field.Ages at
  seconds ← of_kind (number_of pair.1) field.Ages at
  Ok (record { zoom = zoom; seconds = seconds })

-- a zoom of at most 29, and seconds of 32 bits
abbrev pub is_age : AgeRow → Bool
is_age row = nat_le row.zoom 29 && nat_le row.seconds 4294967295

abbrev pub age_of : AgeRow → Age
age_of row = record { zoom = min row.zoom 29; seconds = min row.seconds 4294967295 }

-- the number of the rows, then their values, then their order; a value beyond its limit is of another form here
unfoldable pub ages_in : List AgeRow → Field → ℕ → Result (List Age) CatalogueFault
ages_in rows f at = do
  few ← tested (unless (nat_le (length rows) 30) (Limit f at)) rows
  ages ← tested (unless (list_all is_age few) (Bad f at)) (map age_of few)
  tested (unless (zooms_rise 0 ages) (Bad f at)) ages

-- the form of every row comes first
unfoldable pub ages : Form (List Age)
ages f at d = do
  ds ← items f at d
  rows ← entries (λ before. age_row at) [] ds
  ages_in rows f at
