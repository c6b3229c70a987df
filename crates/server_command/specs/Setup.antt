-- What comes of the setting up.
-- A tie between the code and its definitions: the promise can be read without it.
use Rattle.std.specs.Prelude.{All, ℕ, ◌≡◌, ◌⊎◌, Bool, List}
use Rattle.atomic_table.specs.Seated.{TableId}
use Rattle.cabinet.specs.State.{State}
use Rattle.cache_hall.specs.Turned.{HallPass}
use Rattle.catalog.specs.declared.catalogue.Catalogue.{Catalogue}
use Rattle.base.specs.Readings.{Readings}
use Rattle.command_setup.specs.Setup.{AreRead, IsRefused}
use Rattle.command_setup.specs.declared.configuration.Unconfigured.{Unconfigured}
use Rattle.command_status.specs.declared.status.Status.TheVariants as status
use Rattle.command_status.specs.declared.status.Status.{Status}
use Rattle.command_setup.specs.Refusals.{status_of_refusal}
use Rattle.command_status.specs.Statuses.{status_of_opening}
use Rattle.gate_journal.specs.declared.fault.OpenFault.{OpenFault}
use Rattle.layer_recipes.specs.declared.book.RecipeBook.{RecipeBook}
use Rattle.server_workers.specs.First.{first_pass}
use Rattle.sessions.specs.Outside.{InputChange}
use Rattle.server_command.specs.Ends.{end_of_recipes}
use Rattle.server_command.specs.Opened.{IsOpenedFromDisk, IsUnopened, ServerDisk}
use Rattle.server_command.specs.Recipes.{AreUnread, Recites}
use Rattle.server_command.specs.declared.ends.ServerEnd.{ServerEnd}
use Rattle.server_command.specs.declared.ends.ServerEnd.TheVariants as end
use Rattle.server_command.specs.declared.recipes.UnreadRecipes.{UnreadRecipes}

-- each pass is a first one of this table, at the cabinet that the disk opens to
pub record AreFirst {D : Type 0} (d : ServerDisk D) (c : Catalogue) (clock : Readings) (told : Bool) (table : TableId) (passes : List HallPass) : Type 0 where
  pub opened : State
  pub is_opened : IsOpenedFromDisk d c clock opened
  pub first : All (λ p. p ≡ first_pass table c told opened) passes

-- the files were read, and the passes are first ones at the cabinet that the disk opens to
pub record IsStaged {D : Type 0} (catalogue capabilities recipes : InputChange) (d : ServerDisk D) (clock : Readings) (told : Bool) (c : Catalogue) (document : List ℕ) (book : RecipeBook) (table : TableId) (passes : List HallPass) : Type 0 where
  pub read : AreRead catalogue capabilities c document
  pub recites : Recites recipes c book
  pub first : AreFirst d c clock told table passes

-- memory ran out, or the cache isn't opened and the status tells why
abbrev pub Refuses : {D : Type 0} → ServerDisk D → Catalogue → Status → Type 0
Refuses d c e = (e ≡ status.OutOfMemory) ⊎ ((f : OpenFault) × (e ≡ status_of_opening f) × IsUnopened d f c)

-- under the catalogue that was read the recipes are refused, or the rest is, and the end tells why
abbrev pub RefusesRest : {D : Type 0} → InputChange → ServerDisk D → Catalogue → ServerEnd → Type 0
RefusesRest recipes d c e =
    ((u : UnreadRecipes) × (e ≡ end_of_recipes u) × AreUnread recipes c u)
    ⊎ ((book : RecipeBook) × Recites recipes c book × (s : Status) × (e ≡ end.Ended s) × Refuses d c s)

-- one of the first two files was refused and the end tells why, and the recipes stayed as they were; or both were read, and what comes after
-- them was refused
abbrev pub IsUnready : {D : Type 0} → InputChange → InputChange → InputChange → ServerDisk D → Type 0 → Type 0 → ServerEnd → Type 0
IsUnready catalogue capabilities recipes d CapabilitiesStay RecipesStay e =
    ((r : Unconfigured) × (e ≡ end.Ended (status_of_refusal r)) × IsRefused catalogue capabilities CapabilitiesStay r × RecipesStay)
    ⊎ ((c : Catalogue) × (document : List ℕ) × AreRead catalogue capabilities c document × RefusesRest recipes d c e)
