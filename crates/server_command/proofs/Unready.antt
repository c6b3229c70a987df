-- What the end of a server says that was not made ready.
use Rattle.std.proofs.Common.{ℕ, ◌≡◌, List, inl, inr, subst, sym}
use Rattle.catalog.specs.declared.catalogue.Catalogue.{Catalogue}
use Rattle.command_setup.specs.Refusals.{status_of_refusal}
use Rattle.command_setup.specs.Setup.{AreRead, IsRefused}
use Rattle.command_setup.specs.declared.configuration.Unconfigured.{Unconfigured}
use Rattle.command_setup.specs.declared.configuration.Unconfigured.TheVariants as unconfigured
use Rattle.command_status.specs.Statuses.{status_of_opening}
use Rattle.command_status.specs.declared.status.Status.{Status}
use Rattle.gate_journal.specs.declared.fault.OpenFault.{OpenFault}
use Rattle.gate_journal.specs.declared.fault.OpenFault.TheVariants as fault
use Rattle.layer_recipes.specs.declared.book.RecipeBook.{RecipeBook}
use Rattle.server_command.specs.Ends.{end_of_recipes}
use Rattle.server_command.specs.Opened.{IsUnopened, ServerDisk}
use Rattle.server_command.specs.Recipes.{AreUnread, Recites}
use Rattle.server_command.specs.Served.{HasEnded, ServerChange}
use Rattle.server_command.specs.Setup.{IsUnready}
use Rattle.server_command.specs.declared.ends.ServerEnd.{ServerEnd}
use Rattle.server_command.specs.declared.ends.ServerEnd.TheVariants as end
use Rattle.server_command.specs.declared.recipes.UnreadRecipes.{UnreadRecipes}
use Rattle.server_command.specs.declared.recipes.UnreadRecipes.TheVariants as unread

module _ {L S D : Type 0} (h : ServerChange L S) (d : ServerDisk D) (CapabilitiesStay RecipesStay ListenerStays : Type 0) (stays : ListenerStays) where
  of_refusal : (r : Unconfigured) → IsRefused h.catalogue h.capabilities CapabilitiesStay r → RecipesStay → HasEnded h d CapabilitiesStay RecipesStay ListenerStays (end.Ended (status_of_refusal r))
  of_refusal unconfigured.ReadFault is same = (inl (is, same), stays)
  of_refusal unconfigured.TooLong is same = (inl (is, same), stays)
  of_refusal (unconfigured.Fault f) is same = (is, same, stays)
  of_refusal unconfigured.OutOfMemory is same = stays

  module _ (c : Catalogue) (document : List ℕ) (read : AreRead h.catalogue h.capabilities c document) where
    of_recipes : (u : UnreadRecipes) → AreUnread h.recipes c u → HasEnded h d CapabilitiesStay RecipesStay ListenerStays (end_of_recipes u)
    of_recipes unread.ReadFault is = (inr (c, document, read, is), stays)
    of_recipes unread.TooLong is = (inr (c, document, read, is), stays)
    of_recipes (unread.Fault f) is = ((c, document, read, is), stays)
    of_recipes unread.OutOfMemory is = stays

    of_opening : (book : RecipeBook) → Recites h.recipes c book → (f : OpenFault) → IsUnopened d f c → HasEnded h d CapabilitiesStay RecipesStay ListenerStays (end.Ended (status_of_opening f))
    of_opening book says fault.DiskFault is = ((c, document, read, (book, says, is)), stays)
    of_opening book says fault.OutOfMemory is = stays
    of_opening book says fault.NotACache is = ((c, document, read, (book, says, is)), stays)
    of_opening book says (fault.CatalogueDiffers found asked) is = ((c, document, read, (book, says, is)), stays)
    of_opening book says (fault.BadRecord slot) is = ((c, document, read, (book, says, is)), stays)
    of_opening book says fault.Spent is = ((c, document, read, (book, says, is)), stays)

  pub unready_ended : (e : ServerEnd) → IsUnready h.catalogue h.capabilities h.recipes d CapabilitiesStay RecipesStay e → HasEnded h d CapabilitiesStay RecipesStay ListenerStays e
  unready_ended e (inl (r, is, refused, same)) = subst (HasEnded h d CapabilitiesStay RecipesStay ListenerStays) (sym is) (of_refusal r refused same)
  unready_ended e (inr (c, document, read, inl (u, is, unread))) = subst (HasEnded h d CapabilitiesStay RecipesStay ListenerStays) (sym is) (of_recipes c document read u unread)
  unready_ended e (inr (c, document, read, inr (book, says, s, is, inl none))) =
      subst (HasEnded h d CapabilitiesStay RecipesStay ListenerStays) (sym (subst (λ (t : Status). e ≡ end.Ended t) none is)) stays
  unready_ended e (inr (c, document, read, inr (book, says, s, is, inr (f, of, unopened)))) =
      subst (HasEnded h d CapabilitiesStay RecipesStay ListenerStays) (sym (subst (λ (t : Status). e ≡ end.Ended t) of is)) (of_opening c document read book says f unopened)
