-- The catalogue of a text, or its first fault.
use Rattle.std.specs.Prelude.{ℕ, ◌==◌, List, length, if◌then◌else◌, Result, Ok}
use Rattle.sha2.specs.Sha256.{sha256}
use Rattle.serde_json.specs.Data.{Data}
use Rattle.catalog.specs.Demo.{demo}
use Rattle.catalog.specs.declared.catalogue.Catalogue.{Catalogue}
use Rattle.catalog.specs.declared.fault.CatalogueFault.{CatalogueFault}
use Rattle.config_text.specs.Reading.{◌>>=◌, object_of}
use Rattle.config_text.specs.Settings.{settings_of}
use Rattle.config_text.specs.Grids.{grids_of}
use Rattle.config_text.specs.Layers.{layers_of}

-- SHA-256 (FIPS 180-4)
unfoldable pub digest_of : List ℕ → List ℕ
digest_of text = sha256 text

-- the members in order
unfoldable pub catalogue_in : List ℕ → Data → Result Catalogue CatalogueFault
catalogue_in digest d = do
  s ← settings_of d
  grids ← grids_of d
  layers ← layers_of grids d
  Ok (record { digest = digest; source = s.source; kept_limit = s.kept_limit; cut_limit = s.cut_limit; blob_bytes = s.blob_bytes; quota = s.quota; policy = s.policy; grids = grids; layers = layers })

-- a text of no bytes is the built-in catalogue
unfoldable pub catalogue_of : List ℕ → Result Catalogue CatalogueFault
catalogue_of text = if length text == 0 then Ok demo else (object_of text >>= catalogue_in (digest_of text))
