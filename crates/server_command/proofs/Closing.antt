-- How a server ends whose links were served.
use Rattle.std.proofs.Common.{ℕ, ◌≡◌, List, subst, sym}
use Rattle.atomic_table.specs.Seated.{TableId}
use Rattle.cabinet.specs.State.{State}
use Rattle.catalog.specs.declared.catalogue.Catalogue.{Catalogue}
use Rattle.command_setup.specs.Setup.{AreRead}
use Rattle.command_status.specs.declared.status.Status.{Status}
use Rattle.layer_recipes.specs.declared.book.RecipeBook.{RecipeBook}
use Rattle.server_workers.specs.Served.{HasEndedOver, HasServedOver}
use Rattle.server_workers.specs.declared.ends.ServiceEnd.{ServiceEnd}
use Rattle.server_workers.specs.declared.ends.ServiceEnd.TheVariants as service
use Rattle.server_command.specs.Ends.{status_of_service}
use Rattle.server_command.specs.Opened.{IsOpenedFromDisk, ServerDisk}
use Rattle.server_command.specs.Recipes.{Recites}
use Rattle.server_command.specs.Served.{HasEndedAs, HasOpenedAndServed, ServerChange, listened, service_of}

module _ {L S D : Type 0} (h : ServerChange L S) (d : ServerDisk D) (c : Catalogue) (document : List ℕ) (book : RecipeBook) (table board : TableId) (opened : State) where
  abbrev served_over : IsOpenedFromDisk d c h.clock opened → HasServedOver (service_of h c document book table board opened) (listened h) → HasOpenedAndServed h d c document book
  served_over is o = record { opened = opened; is_opened = is; table = table; board = board; over = o }

  module _ (CapabilitiesStay RecipesStay ListenerStays : Type 0) where
    of_service : (e : ServiceEnd) → AreRead h.catalogue h.capabilities c document → Recites h.recipes c book → IsOpenedFromDisk d c h.clock opened → HasEndedOver (service_of h c document book table board opened) (listened h) ListenerStays e
        → HasEndedAs h d CapabilitiesStay RecipesStay ListenerStays (status_of_service e)
    of_service service.Done read says is ended = (c, document, read, (book, says, (served_over is ended.0, ended.1)))
    of_service service.ListenFault read says is ended = ((c, document, read, (book, says, served_over is ended.0)), ended.1)
    of_service service.OutOfMemory read says is ended = ended
    of_service service.NoThreads read says is ended = ended

    pub ended_over : (e : ServiceEnd) (told : Status) → told ≡ status_of_service e → AreRead h.catalogue h.capabilities c document → Recites h.recipes c book → IsOpenedFromDisk d c h.clock opened
        → HasEndedOver (service_of h c document book table board opened) (listened h) ListenerStays e → HasEndedAs h d CapabilitiesStay RecipesStay ListenerStays told
    ended_over e told is_told read says is ended = subst (HasEndedAs h d CapabilitiesStay RecipesStay ListenerStays) (sym is_told) (of_service e read says is ended)
