-- What a word on the cache of a disk came to.
use Rattle.std.specs.Prelude.{ℕ, ◌≡◌, ◌⊎◌, List, Ok, Err, ⊤}
use Rattle.cabinet.specs.State.{State}
use Rattle.catalog.specs.declared.catalogue.Catalogue.{Catalogue}
use Rattle.base.specs.Readings.{Readings}
use Rattle.command_setup.specs.Setup.{Configures, IsRead}
use Rattle.command_setup.specs.declared.configuration.Unconfigured.{Unconfigured}
use Rattle.command_status.specs.declared.status.Status.{Status}
use Rattle.command_words.specs.declared.words.KeptWord.{KeptWord}
use Rattle.command_words.specs.declared.words.KeptWord.TheVariants as kept
use Rattle.command_words.specs.declared.words.UpkeepWord.{UpkeepWord}
use Rattle.command_words.specs.declared.words.UpkeepWord.TheVariants as upkeep
use Rattle.opened_cache.specs.Change.{DiskChange}
use Rattle.sessions.specs.Outside.{InputChange, OutputChange, Outside}
use Rattle.opened_cache.specs.Crash.{LastsThrough}
use Rattle.disk_words.specs.Ends.{DropsAll, Makes, TellsUsage, Truncates}
use Rattle.disk_words.specs.Runs.{RunsSchedule, RunsSession}
use Rattle.tile_command.specs.Change.{CommandChange, IsUnready, Stays, WithBoth}
use Rattle.command_setup.specs.Refusals.{status_of_refusal}

-- RUNS, with P of the cabinet after each line of a schedule and after each message of a session

-- a run ended so
abbrev pub HasRun : (State → Type 0) → InputChange → Outside → Stays → DiskChange → Readings → KeptWord → Catalogue → List ℕ → Status → Type 0
HasRun P i o stays d clock kept.Schedule c document e = RunsSchedule P c clock document i o d stays.input (stays.output × stays.source) e
HasRun P i o stays d clock kept.Replay c document e = RunsSession P c clock document i o d stays.input (stays.output × stays.source) e

-- what each status says of a run: it was refused before the disk was touched, or the catalogue and the document were read and it ended
abbrev pub RunTells : (State → Type 0) → CommandChange → Stays → DiskChange → Type 0 → Readings → KeptWord → Status → Type 0
RunTells P h stays d DiskStays clock w s =
    (IsUnready h stays s × DiskStays)
    ⊎ WithBoth h (λ c document. HasRun P h.input h.outside stays d clock w c document s)

-- UPKEEP

-- a step of upkeep ended so; a cover is the only input of one
abbrev pub HasKeptUp : InputChange → OutputChange → Stays → DiskChange → Type 0 → Readings → UpkeepWord → Catalogue → Status → Type 0
HasKeptUp i o stays d DiskStays clock upkeep.Make c e = Makes c d o stays.output e × stays.input
HasKeptUp i o stays d DiskStays clock upkeep.Truncate c e = Truncates c clock i d o DiskStays stays.output e
HasKeptUp i o stays d DiskStays clock upkeep.Expire c e = DropsAll c clock d o stays.output e × stays.input
HasKeptUp i o stays d DiskStays clock upkeep.Usage c e = TellsUsage c clock d o stays.output e × stays.input

-- what each status says of a step of upkeep: the catalogue was refused and nothing else was touched, or it was read and the step ended
abbrev pub UpkeepTells : InputChange → InputChange → OutputChange → Stays → DiskChange → Type 0 → Readings → UpkeepWord → Status → Type 0
UpkeepTells catalogue i o stays d DiskStays clock w s =
    ((e : Unconfigured) × (s ≡ status_of_refusal e) × Configures catalogue (Err e) × stays.input × stays.output × DiskStays)
    ⊎ ((c : Catalogue) × IsRead catalogue (Ok c) × HasKeptUp i o stays d DiskStays clock w c s)

-- A CRASH

-- the disk stays as it is, or it is the cache of the catalogue that was read, and at every moment each image answers for each cut for
-- which every image at entry answers
abbrev pub HasLasted : InputChange → DiskChange → Type 0 → Type 0
HasLasted catalogue d DiskStays = DiskStays ⊎ ((c : Catalogue) × IsRead catalogue (Ok c) × LastsThrough c d)

-- so it is of each step of upkeep but the making: a cache that is made anew has no cut of the one before it
abbrev pub StepLasts : Catalogue → DiskChange → UpkeepWord → Type 0
StepLasts c d upkeep.Make = ⊤
StepLasts c d upkeep.Truncate = LastsThrough c d
StepLasts c d upkeep.Expire = LastsThrough c d
StepLasts c d upkeep.Usage = LastsThrough c d

abbrev pub UpkeepLasts : InputChange → DiskChange → Type 0 → UpkeepWord → Type 0
UpkeepLasts catalogue d DiskStays w = DiskStays ⊎ ((c : Catalogue) × IsRead catalogue (Ok c) × StepLasts c d w)
