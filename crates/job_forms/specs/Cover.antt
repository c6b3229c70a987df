-- The cover of a text, or its first fault in the order of the members.
use Rattle.std.specs.Prelude.{ℕ, List, ok_or, Ok, codes}
use Rattle.serde_json.specs.Data.{Data}
use Rattle.serde_json.specs.Find.{get}
use Rattle.json_forms.specs.Forms.{object_of}
use Rattle.catalog.specs.declared.catalogue.Catalogue.{Catalogue}
use Rattle.matrix_geometry.specs.declared.theme.Filter.{Filter}
use Rattle.truncation_list.specs.declared.cover.Cover.{Cover}
use Rattle.job_forms.specs.declared.fault.JobField.TheVariants as field
use Rattle.job_forms.specs.declared.fault.JobFault.TheVariants.{NotJson}
use Rattle.job_forms.specs.Bounds.{box_if_any}
use Rattle.job_forms.specs.Members as forms
use Rattle.job_forms.specs.Members.{required, if_any, matrices_of}
use Rattle.job_forms.specs.Outcome.{Outcome, ◌>>=◌}
use Rattle.job_forms.specs.Values.{values_or_any}

-- the first and the last matrix
unfoldable pub zooms_in : Catalogue → ℕ → Data → Outcome (ℕ × ℕ)
zooms_in c grid d = do
  start ← required (forms.zoom 0 (matrices_of c grid)) field.ZoomStart (get (codes "zoomStart") d)
  stop ← required (forms.zoom start (matrices_of c grid)) field.ZoomStop (get (codes "zoomStop") d)
  Ok (start, stop)

-- the filter that the last rows are for
unfoldable pub filter_in : Catalogue → ℕ → Data → Outcome Filter
filter_in c layer d = do
  format ← if_any forms.format field.Format (get (codes "format") d)
  style ← if_any (forms.style c layer) field.Style (get (codes "style") d)
  dims ← values_or_any c layer (get (codes "dimensions") d)
  Ok (record { style = style; dims = dims })

-- all rows: a member a line
unfoldable pub cover_in : Catalogue → Data → Outcome Cover
cover_in c d = do
  layer ← required (forms.layer c) field.Layer (get (codes "layer") d)
  grid ← required (forms.grid c layer) field.Grid (get (codes "grid") d)
  zooms ← zooms_in c grid d
  bounds ← box_if_any (get (codes "bounds") d)
  filter ← filter_in c layer d
  Ok (record { layer = layer; grid = grid; z_start = zooms.0; z_stop = zooms.1; bounds = bounds; filter = filter })

-- the cover of a text
unfoldable pub cover_of : Catalogue → List ℕ → Outcome Cover
cover_of c text = ok_or (object_of text) NotJson >>= cover_in c
