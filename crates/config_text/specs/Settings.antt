-- The members of the outermost object before its lists, in order.
use Rattle.std.specs.Prelude.{◌^◌, Result, Ok, Err, codes, if◌then◌else◌}
use Rattle.std.specs.Str.{bytes_eq}
use Rattle.serde_json.specs.Data.{Data}
use Rattle.serde_json.specs.Find.{get, as_str}
use Rattle.catalog.specs.declared.catalogue.Policy.{Policy}
use Rattle.catalog.specs.declared.catalogue.Policy.TheVariants.{Lru, Lfu}
use Rattle.catalog.specs.declared.fault.Field.TheVariants as field
use Rattle.catalog.specs.declared.fault.CatalogueFault.{CatalogueFault}
use Rattle.catalog.specs.declared.fault.CatalogueFault.TheVariants.{Bad}
use Rattle.config_text.specs.declared.settings.Settings.{Settings}
use Rattle.config_text.specs.Reading.{◌>>=◌}
use Rattle.config_text.specs.Member.{Form, required, or, if_any, of_kind, whole}

-- "lru" or "lfu"
unfoldable pub policy : Form Policy
policy f at d = do
  text ← of_kind (as_str d) f at
  if bytes_eq text (codes "lru") then Ok Lru else (if bytes_eq text (codes "lfu") then Ok Lfu else Err (Bad f at))

unfoldable pub settings_of : Data → Result Settings CatalogueFault
settings_of d = do
  source ← or 0 (whole 0 4294967295) field.Source 0 (get (codes "source") d)
  kept_limit ← or 1048576 (whole 1 1048576) field.KeptLimit 0 (get (codes "keptLimit") d)
  cut_limit ← or 65536 (whole 1 65536) field.CutLimit 0 (get (codes "cutLimit") d)
  blob_bytes ← required (whole 1 (2 ^ 40)) field.BlobBytes 0 (get (codes "blobBytes") d)
  quota ← if_any (whole 0 (2 ^ 50)) field.Quota 0 (get (codes "quota") d)
  kind ← or Lru policy field.Policy 0 (get (codes "policy") d)
  Ok (record { source = source; kept_limit = kept_limit; cut_limit = cut_limit; blob_bytes = blob_bytes; quota = quota; policy = kind })
