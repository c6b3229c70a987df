-- What a job on the cache of a disk came to.
use Rattle.std.specs.Prelude.{ℕ, ◌≡◌, ◌⊎◌, Ok, Err}
use Rattle.catalog.specs.declared.catalogue.Catalogue.{Catalogue}
use Rattle.base.specs.Readings.{Readings}
use Rattle.command_setup.specs.Setup.{Configures, IsRead}
use Rattle.command_setup.specs.declared.configuration.Unconfigured.{Unconfigured}
use Rattle.command_status.specs.declared.status.Status.{Status}
use Rattle.job_words.specs.Ends.{RunsJob}
use Rattle.opened_cache.specs.Change.{DiskChange}
use Rattle.tile_command.specs.Change.{Stays}
use Rattle.command_setup.specs.Refusals.{status_of_refusal}
use Rattle.sessions.specs.Outside.{InputChange, Outside}

-- what each status says of a job, and of the count of its places that could not be kept: the catalogue was refused and nothing else was touched,
-- or it was read and the word ended
abbrev pub JobTells : InputChange → InputChange → Outside → Stays → DiskChange → Type 0 → Readings → ℕ → Status → Type 0
JobTells catalogue i o stays d DiskStays clock unkept s =
    ((e : Unconfigured) × (s ≡ status_of_refusal e) × Configures catalogue (Err e) × stays.input × stays.output × stays.source × DiskStays × (unkept ≡ 0))
    ⊎ ((c : Catalogue) × IsRead catalogue (Ok c) × RunsJob c clock i o d DiskStays (stays.output × stays.source) unkept s)
