-- What a command came to.
use Rattle.std.specs.Prelude.{ℕ, ◌≡◌, ◌≢◌, ◌↔◌, Bool, IsTrue, List, Option, Some, None, ⊤}
use Rattle.cabinet.specs.State.{State}
use Rattle.catalog.specs.declared.catalogue.Catalogue.{Catalogue}
use Rattle.base.specs.Readings.{Readings}
use Rattle.command_setup.specs.Held.{HoldsFile, MayBe}
use Rattle.command_status.specs.declared.status.Status.{Status}
use Rattle.command_status.specs.declared.status.Status.TheVariants as status
use Rattle.command_words.specs.declared.words.UpkeepWord.{UpkeepWord}
use Rattle.command_words.specs.declared.words.UpkeepWord.TheVariants as upkeep
use Rattle.command_words.specs.declared.words.Word.{Word}
use Rattle.command_words.specs.declared.words.Word.TheVariants as word
use Rattle.disk_model.specs.Content.{Content}
use Rattle.durable_cabinet.specs.Images.{IsOurs}
use Rattle.opened_cache.specs.Change.{DiskChange}
use Rattle.tile_command.specs.Causes.{HasCause, IsComplete}
use Rattle.tile_command.specs.Change.{CommandChange, Stays, output_of, without_disk}
use Rattle.tile_command.specs.Exact.{IsExact}
use Rattle.tile_command.specs.Job.{JobTells}
use Rattle.tile_command.specs.Kept.{HasLasted, RunTells, UpkeepLasts, UpkeepTells}
use Rattle.tile_command.specs.Memory.{MemoryTells}

-- WHAT IT NEEDS

-- the disk of each step of upkeep but the making, which needs nothing of it, holds a file of this program
abbrev pub IsFitUnder : Catalogue → UpkeepWord → Bool → Content → Type 0
IsFitUnder c upkeep.Make told seen = ⊤
IsFitUnder c upkeep.Truncate told seen = IsTrue told → IsOurs c seen
IsFitUnder c upkeep.Expire told seen = IsTrue told → IsOurs c seen
IsFitUnder c upkeep.Usage told seen = IsTrue told → IsOurs c seen

abbrev pub IsFitForUpkeep : UpkeepWord → Option (List ℕ) → Bool → Content → Type 0
IsFitForUpkeep w text told seen = (c : Catalogue) → MayBe text c → IsFitUnder c w told seen

abbrev pub IsFitFor : Option Word → Option (List ℕ) → Bool → Content → Type 0
IsFitFor None text told seen = ⊤
IsFitFor (Some (word.InMemory w)) text told seen = ⊤
IsFitFor (Some (word.Kept w)) text told seen = HoldsFile text told seen
IsFitFor (Some (word.Upkeep w)) text told seen = IsFitForUpkeep w text told seen
IsFitFor (Some word.Job) text told seen = HoldsFile text told seen

-- WHAT IT CAME TO

-- What each status says, by what the words ask for; the clock has given this before. Words that are no command touch nothing. Of a run on the cache of
-- the disk P holds of the cabinet after each line of its schedule, or after each message of its session; of a job's places so many could not be
-- kept.
abbrev pub StatusSays : (State → Type 0) → CommandChange → Stays → DiskChange → Type 0 → Readings → Option Word → ℕ → Status → Type 0
StatusSays P h stays d DiskStays clock None unkept s = stays.catalogue × stays.capabilities × stays.input × stays.output × stays.source × DiskStays
StatusSays P h stays d DiskStays clock (Some (word.InMemory w)) unkept s = MemoryTells (without_disk h) stays clock w s × DiskStays
StatusSays P h stays d DiskStays clock (Some (word.Kept w)) unkept s = RunTells P h stays d DiskStays clock w s
StatusSays P h stays d DiskStays clock (Some (word.Upkeep w)) unkept s =
    UpkeepTells h.catalogue h.input (output_of h.outside) stays d DiskStays clock w s × stays.capabilities × stays.source
StatusSays P h stays d DiskStays clock (Some word.Job) unkept s = JobTells h.catalogue h.input h.outside stays d DiskStays clock unkept s × stays.capabilities

-- what a crash leaves, by what the words ask for
abbrev pub HasLastedBy : CommandChange → DiskChange → Type 0 → Option Word → Type 0
HasLastedBy h d DiskStays None = DiskStays
HasLastedBy h d DiskStays (Some (word.InMemory w)) = DiskStays
HasLastedBy h d DiskStays (Some (word.Kept w)) = HasLasted h.catalogue d DiskStays
HasLastedBy h d DiskStays (Some (word.Upkeep w)) = UpkeepLasts h.catalogue d DiskStays w
HasLastedBy h d DiskStays (Some word.Job) = HasLasted h.catalogue d DiskStays

-- THE CONTRACT

-- what was seen of a command: of what it was handed, and that each of it stays as it is; of its disk, and that it stays so; the clock that it was
-- handed, what its words ask for, how it ended, and how many places of a job could not be kept
pub record CommandRun : Type 1 where
  pub change : CommandChange
  pub stays : Stays
  pub disk : DiskChange
  pub disk_stays : Type 0
  pub clock : Readings
  pub word : Option Word
  pub status : Status
  pub unkept : ℕ

-- A command is told as no command exactly where its words are none. Each status says what it came to, and comes for no other cause than its
-- own: so what is in order is done, and what is refused of the files is told. Where the words are no job, no place is counted. At every moment a crash
-- leaves of the disk what the word lets it.
pub record Commands (P : State → Type 0) (r : CommandRun) : Type 0 where
  pub usage : (r.status ≡ status.Usage) ↔ (r.word ≡ None)
  pub served : StatusSays P r.change r.stays r.disk r.disk_stays r.clock r.word r.unkept r.status
  pub no_job : r.word ≢ Some word.Job → r.unkept ≡ 0
  pub cause : HasCause r.change r.disk r.clock r.word r.status
  pub complete : IsComplete r.change r.disk r.clock r.word r.status
  pub exact : IsExact r.change r.disk r.clock r.word r.status
  pub lasts : HasLastedBy r.change r.disk r.disk_stays r.word
