-- What the catalogue's file and the disk of a cache hold, where they are modelled.
use Rattle.std.specs.Prelude.{ℕ, ◌≡◌, Bool, IsTrue, List, Option, Some, None, Ok, ⊤}
use Rattle.catalog.specs.declared.catalogue.Catalogue.{Catalogue}
use Rattle.config_text.specs.Text.{catalogue_of}
use Rattle.disk_model.specs.Content.{Content}
use Rattle.durable_cabinet.specs.Images.{IsOurs}

-- the catalogue of a text that an input has; where the text isn't modelled, any
abbrev pub MayBe : Option (List ℕ) → Catalogue → Type 0
MayBe None c = ⊤
MayBe (Some text) c = catalogue_of text ≡ Ok c

-- a disk that is modelled holds a file of this program, by the catalogue of the text
abbrev pub HoldsFile : Option (List ℕ) → Bool → Content → Type 0
HoldsFile text told seen = (c : Catalogue) → MayBe text c → IsTrue told → IsOurs c seen
