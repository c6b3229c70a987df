-- What each end of a server says.
use Rattle.std.specs.Prelude.{ℕ, ◌≡◌, ◌⊎◌, Bool, List, length}
use Rattle.atomic_table.specs.Seated.{TableId}
use Rattle.cabinet.specs.State.{State}
use Rattle.catalog.specs.declared.catalogue.Catalogue.{Catalogue}
use Rattle.base.specs.Causes.{Rose}
use Rattle.base.specs.Readings.{Readings}
use Rattle.command_setup.specs.Setup.{AreRead, IsRefused}
use Rattle.command_setup.specs.declared.configuration.Unconfigured.{Unconfigured}
use Rattle.command_setup.specs.declared.configuration.Unconfigured.TheVariants as unconfigured
use Rattle.command_status.specs.declared.status.Status.TheVariants as status
use Rattle.command_status.specs.declared.status.Status.{Status}
use Rattle.gate_journal.specs.declared.fault.OpenFault.{OpenFault}
use Rattle.gate_journal.specs.declared.fault.OpenFault.TheVariants as fault
use Rattle.layer_recipes.specs.declared.book.RecipeBook.{RecipeBook}
use Rattle.server_workers.specs.First.{first_pass}
use Rattle.server_workers.specs.Served.{HasServedOver, Listened}
use Rattle.server_workers.specs.Stints.{LinkReading, Service, SourceReading}
use Rattle.sessions.specs.Outside.{FaultCounts, InputChange}
use Rattle.server_command.specs.Opened.{IsOpenedFromDisk, IsUnopened, ServerDisk}
use Rattle.server_command.specs.Recipes.{AreRefused, AreUnread, Recites}
use Rattle.server_command.specs.declared.ends.ServerEnd.{ServerEnd}
use Rattle.server_command.specs.declared.ends.ServerEnd.TheVariants as end
use Rattle.server_command.specs.declared.recipes.UnreadRecipes.{UnreadRecipes}
use Rattle.server_command.specs.declared.recipes.UnreadRecipes.TheVariants as unread

-- WHAT A SERVER IS HANDED

-- its three files and its clock; how many links it is to serve, how contracts read them and its sources, which its listener had given before and after, and
-- how often that had failed; and whether its caller told it that the cache is sound
pub record ServerChange (L S : Type 0) : Type 0 where
  pub catalogue : InputChange
  pub capabilities : InputChange
  pub recipes : InputChange
  pub clock : Readings
  pub connections : ℕ
  pub reading : LinkReading L
  pub sources : SourceReading S
  pub given_before : List L
  pub given_after : List L
  pub accepts : FaultCounts
  pub told : Bool

-- WHAT IT CAME TO

-- both files were read, and this holds of their catalogue and of the capabilities document
abbrev pub WithBoth : {L S : Type 0} → ServerChange L S → (Catalogue → List ℕ → Type 0) → Type 0
WithBoth h P = (c : Catalogue) × (document : List ℕ) × AreRead h.catalogue h.capabilities c document × P c document

-- so they were, and the recipes after them: this holds of all three
abbrev pub WithAll : {L S : Type 0} → ServerChange L S → (Catalogue → List ℕ → RecipeBook → Type 0) → Type 0
WithAll h P = WithBoth h (λ c document. (book : RecipeBook) × Recites h.recipes c book × P c document book)

-- how the links of a server are served: by passes that had seen the opened cabinet's book, and from places at one board of jobs
abbrev pub service_of : {L S : Type 0} → ServerChange L S → Catalogue → List ℕ → RecipeBook → TableId → TableId → State → Service L S
service_of h c document book table board opened =
    record { reading = h.reading; sources = h.sources; document = document; catalogue = c; recipes = book; board = board; first = first_pass table c h.told opened }

-- how many links were asked for, those that the listener had given, and how often its accepts had failed
abbrev pub listened : {L S : Type 0} → ServerChange L S → Listened L
listened h = record { connections = h.connections; given_before = h.given_before; given_after = h.given_after; accepts = h.accepts }

-- The cache of the disk was opened under the catalogue, and the links that the listener gave were served over it, by passes that had seen
-- the opened cabinet's book.
pub record HasOpenedAndServed {L S D : Type 0} (h : ServerChange L S) (d : ServerDisk D) (c : Catalogue) (document : List ℕ) (book : RecipeBook) : Type 0 where
  pub opened : State
  pub is_opened : IsOpenedFromDisk d c h.clock opened
  pub table : TableId
  pub board : TableId
  pub over : HasServedOver (service_of h c document book table board opened) (listened h)

-- so it was, and as many links were given as were asked for
abbrev pub HasServedAll : {L S D : Type 0} → ServerChange L S → ServerDisk D → Catalogue → List ℕ → RecipeBook → Type 0
HasServedAll h d c document book = (s : HasOpenedAndServed h d c document book) × (length s.over.links ≡ h.connections)

-- A cache is refused by neither a fault of the disk nor want of memory, which have statuses of their own.
abbrev pub IsCacheRefused : {L S D : Type 0} → ServerChange L S → ServerDisk D → OpenFault → Type 0
IsCacheRefused h d fault.DiskFault = ⊥
IsCacheRefused h d fault.OutOfMemory = ⊥
IsCacheRefused h d fault.NotACache = WithAll h (λ c _ _. IsUnopened d fault.NotACache c)
IsCacheRefused h d (fault.CatalogueDiffers found asked) = WithAll h (λ c _ _. IsUnopened d (fault.CatalogueDiffers found asked) c)
IsCacheRefused h d (fault.BadRecord slot) = WithAll h (λ c _ _. IsUnopened d (fault.BadRecord slot) c)
IsCacheRefused h d fault.Spent = WithAll h (λ c _ _. IsUnopened d fault.Spent c)

-- one of the first two files was refused for this cause, and the recipes stayed as they were; or both were read, and for that cause no recipes
-- were
abbrev pub IsUnread : {L S : Type 0} → ServerChange L S → Type 0 → Type 0 → Unconfigured → UnreadRecipes → Type 0
IsUnread h CapabilitiesStay RecipesStay r u = (IsRefused h.catalogue h.capabilities CapabilitiesStay r × RecipesStay) ⊎ WithBoth h (λ c _. AreUnread h.recipes c u)

-- What each status says. Every one but `Done` and `ListenFault` comes before the first link is asked for: the listener stays as it was.
abbrev pub HasEndedAs : {L S D : Type 0} → ServerChange L S → ServerDisk D → (CapabilitiesStay RecipesStay ListenerStays : Type 0) → Status → Type 0
HasEndedAs h d CapabilitiesStay RecipesStay ListenerStays status.Done = WithAll h (HasServedAll h d)
HasEndedAs h d CapabilitiesStay RecipesStay ListenerStays status.ListenFault = WithAll h (HasOpenedAndServed h d) × Rose h.accepts.before h.accepts.after
HasEndedAs h d CapabilitiesStay RecipesStay ListenerStays (status.Catalogue f) = IsRefused h.catalogue h.capabilities CapabilitiesStay (unconfigured.Fault f) × RecipesStay × ListenerStays
HasEndedAs h d CapabilitiesStay RecipesStay ListenerStays status.ReadFault = IsUnread h CapabilitiesStay RecipesStay unconfigured.ReadFault unread.ReadFault × ListenerStays
HasEndedAs h d CapabilitiesStay RecipesStay ListenerStays status.TooLong = IsUnread h CapabilitiesStay RecipesStay unconfigured.TooLong unread.TooLong × ListenerStays
HasEndedAs h d CapabilitiesStay RecipesStay ListenerStays (status.Cache f) = IsCacheRefused h d f × ListenerStays
HasEndedAs h d CapabilitiesStay RecipesStay ListenerStays status.DiskFault = WithAll h (λ c _ _. IsUnopened d fault.DiskFault c) × ListenerStays
HasEndedAs h d CapabilitiesStay RecipesStay ListenerStays status.OutOfMemory = ListenerStays
HasEndedAs h d CapabilitiesStay RecipesStay ListenerStays status.ThreadFault = ListenerStays
HasEndedAs h d CapabilitiesStay RecipesStay ListenerStays status.Usage = ⊥
HasEndedAs h d CapabilitiesStay RecipesStay ListenerStays status.WriteFault = ⊥
HasEndedAs h d CapabilitiesStay RecipesStay ListenerStays (status.Line n) = ⊥
HasEndedAs h d CapabilitiesStay RecipesStay ListenerStays status.CutsFull = ⊥
HasEndedAs h d CapabilitiesStay RecipesStay ListenerStays (status.Stream session) = ⊥
HasEndedAs h d CapabilitiesStay RecipesStay ListenerStays (status.Form cause) = ⊥

-- What each end says. Recipes are refused for the first fault of their text, and the listener stays as it was.
abbrev pub HasEnded : {L S D : Type 0} → ServerChange L S → ServerDisk D → (CapabilitiesStay RecipesStay ListenerStays : Type 0) → ServerEnd → Type 0
HasEnded h d CapabilitiesStay RecipesStay ListenerStays (end.Ended s) = HasEndedAs h d CapabilitiesStay RecipesStay ListenerStays s
HasEnded h d CapabilitiesStay RecipesStay ListenerStays (end.Recipes f) = WithBoth h (λ c _. AreRefused h.recipes c f) × ListenerStays
