-- What a command sees of what it is handed.
use Rattle.std.specs.Prelude.{ℕ, ◌≡◌, List}
use Rattle.catalog.specs.declared.catalogue.Catalogue.{Catalogue}
use Rattle.command_setup.specs.Setup.{AreRead, IsRefused}
use Rattle.command_setup.specs.declared.configuration.Unconfigured.{Unconfigured}
use Rattle.command_status.specs.declared.status.Status.{Status}
use Rattle.sessions.specs.Outside.{InputChange, OutputChange, Outside, counts}
use Rattle.command_setup.specs.Refusals.{status_of_refusal}

-- what a command saw of its inputs, of its source and of its output, and how often its disk failed; `input` is what the words speak
-- of: the lines of a schedule, the bytes of a connection, a cover or a job
pub record CommandChange : Type 0 where
  pub catalogue : InputChange
  pub capabilities : InputChange
  pub input : InputChange
  pub outside : Outside

-- that each of them stays as it is, a fact of its own for each
pub record Stays : Type 1 where
  pub catalogue : Type 0
  pub capabilities : Type 0
  pub input : Type 0
  pub output : Type 0
  pub source : Type 0

-- what a run on a cabinet in memory sees: it has no disk, and so no fault of one
abbrev pub without_disk : CommandChange → CommandChange
without_disk h = record {
  catalogue = h.catalogue;
  capabilities = h.capabilities;
  input = h.input;
  outside = record { told = h.outside.told; renders = h.outside.renders; disk = counts 0 0; writes = h.outside.writes; from = h.outside.from; to = h.outside.to };
}

-- the output alone
abbrev pub output_of : Outside → OutputChange
output_of o = record { writes = o.writes; from = o.from; to = o.to }

-- the catalogue or the capabilities document was refused, and nothing else was touched
abbrev pub IsUnready : CommandChange → Stays → Status → Type 0
IsUnready h stays s =
    (e : Unconfigured) × (s ≡ status_of_refusal e) × IsRefused h.catalogue h.capabilities stays.capabilities e × stays.input × stays.output × stays.source

-- both files were read, and this holds of the catalogue and of the document
abbrev pub WithBoth : CommandChange → (Catalogue → List ℕ → Type 0) → Type 0
WithBoth h P = (c : Catalogue) × (document : List ℕ) × AreRead h.catalogue h.capabilities c document × P c document
