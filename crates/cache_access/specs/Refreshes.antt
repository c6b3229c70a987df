-- What a refresh does: it asks for a metatile until no render of it runs elsewhere, and then leaves what is kept, or renders it and
-- hands it in. With force it asks for a render, whether the metatile is kept or not.
use Rattle.std.specs.Prelude.{ℕ, ◌≡◌, ◌⊎◌, Bool, true, false, List, [], ◌∷◌, ◌++◌, length, Result, Ok, Err, ⊤}
use Rattle.cabinet.specs.declared.replies.Asked.TheVariants as asked
use Rattle.cabinet.specs.declared.replies.Finished.{Finished}
use Rattle.cabinet.specs.declared.replies.Finished.TheVariants as finished
use Rattle.cabinet.specs.declared.replies.Forced.TheVariants as forced
use Rattle.cabinet_chest.specs.declared.command.Command.TheVariants as command
use Rattle.cabinet_chest.specs.declared.command.Reply.TheVariants as reply
use Rattle.cabinet_chest.specs.declared.shown.Note.{Note}
use Rattle.catalog.specs.declared.catalogue.Catalogue.{Catalogue}
use Rattle.catalog.specs.LookUp.{IsTile}
use Rattle.matrix_geometry.specs.declared.address.Address.{Address}
use Rattle.metatile_locks.specs.Tickets.{Ticketed}
use Rattle.metatile_plan.specs.declared.metatile.MetaKey.{MetaKey}
use Rattle.raster_field.specs.Blocks.{blob_size, block_of, block_text, first_tile}
use Rattle.source_render.specs.Renders.{GivenImage}
use Rattle.truncation_list.specs.declared.book.FrontedBook.{FrontedBook}
use Rattle.turnstile.specs.declared.view.Made.{Made}
use Rattle.cache_access.specs.declared.fault.GetFault.{GetFault}
use Rattle.cache_access.specs.declared.fault.GetFault.TheVariants.{SourceFault, Spent, OutOfMemory}
use Rattle.cache_access.specs.declared.refreshed.Refreshed.{Refreshed}
use Rattle.cache_access.specs.declared.refreshed.Refreshed.TheVariants.{AlreadyKept, Made as Remade, Unkept}
use Rattle.cache_access.specs.Gets.{IsAbandon, IsNewerThanBook}
use Rattle.cache_access.specs.Sourced.{AreFromSource}
use Rattle.cache_access.specs.Turned.{IsOf}
use Rattle.cache_access.specs.Waits.{AreBusyAsks, AreBusyForces, IsAsk, IsForce}

-- REQUESTS: asks for the metatile's first tile, or with force for a render of it

-- while another render of the metatile runs
abbrev pub AreBusyRequests : Catalogue → MetaKey → Bool → List (Made Note) → Type 0
AreBusyRequests c m false asks = AreBusyAsks (first_tile c m) asks
AreBusyRequests c m true asks = AreBusyForces m asks

-- one that gave this ticket
abbrev pub GivesTicket : Catalogue → MetaKey → Bool → Ticketed → Made Note → Type 0
GivesTicket c m false t ask = IsAsk (first_tile c m) (asked.Ticket t) ask
GivesTicket c m true t ask = IsForce m (forced.Ticket t) ask

-- one that found no number left
abbrev pub MeetsSpent : Catalogue → MetaKey → Bool → Made Note → Type 0
MeetsSpent c m false ask = IsAsk (first_tile c m) asked.Spent ask
MeetsSpent c m true ask = IsForce m forced.Spent ask

-- WHAT BECAME OF THE METATILE

-- it is kept, and was not asked for with force: nothing follows
pub record IsLeft (c : Catalogue) (m : MetaKey) (force : Bool) (ask : Made Note) (ends : List (Made Note)) (k : ℕ) : Type 0 where
  pub without_force : force ≡ false
  pub bytes : List ℕ
  pub answer : IsAsk (first_tile c m) (asked.Hit k bytes) ask
  pub nothing : ends ≡ []

-- the request gave a ticket, whose render was handed in and answered so; `Sound` is what makes its blob that of the metatile in the
-- picture of its number
pub record IsRendered (c : Catalogue) (Sound : Type 0) (m : MetaKey) (force : Bool) (ask : Made Note) (ends : List (Made Note)) (k : ℕ) (r : Finished) : Type 0 where
  pub ticket : Ticketed
  pub number : k ≡ ticket.number
  pub meta : ticket.meta ≡ m
  pub answer : GivesTicket c m force ticket ask
  pub blob : List ℕ
  pub long : length blob ≡ blob_size c m
  pub truth : Sound → blob ≡ block_text c k m
  pub end : Made Note
  pub handed : IsOf (command.Finish ticket blob) (reply.Finished r) end
  pub one : ends ≡ end ∷ []

abbrev pub IsUnkept : Finished → Type 0
IsUnkept finished.Kept = ⊥
IsUnkept finished.Stranger = ⊤
IsUnkept (finished.Overtaken cut) = ⊤
IsUnkept finished.Full = ⊤
IsUnkept finished.NoRoom = ⊤
IsUnkept (finished.DiskFault b a) = ⊤

abbrev pub BecameOf : Catalogue → Type 0 → MetaKey → Bool → Made Note → List (Made Note) → Refreshed → Type 0
BecameOf c Sound m force ask ends (AlreadyKept k) = IsLeft c m force ask ends k
BecameOf c Sound m force ask ends (Remade k) = IsRendered c Sound m force ask ends k finished.Kept
BecameOf c Sound m force ask ends (Unkept k) = (r : Finished) × IsUnkept r × IsRendered c Sound m force ask ends k r

-- the number of its render
abbrev pub number_of : Refreshed → ℕ
number_of (AlreadyKept k) = k
number_of (Remade k) = k
number_of (Unkept k) = k

-- the number is above that of each truncation that covers a tile of the metatile and for which the book answers
abbrev pub IsNewerOnAll : Catalogue → MetaKey → ℕ → FrontedBook → Type 0
IsNewerOnAll c m k book = (a : Address) → IsTile c a → block_of c a ≡ m → IsNewerThanBook c a k book

-- THE METATILE of a refresh by who had seen this book, and the turns that were made
pub record HasRefreshed (c : Catalogue) (Sound : Type 0) (m : MetaKey) (force : Bool) (seen : FrontedBook) (gained : List (Made Note)) (x : Refreshed) : Type 0 where
  pub busy : List (Made Note)
  pub ask : Made Note
  pub ends : List (Made Note)
  pub all : gained ≡ busy ++ ask ∷ ends
  pub waited : AreBusyRequests c m force busy
  pub became : BecameOf c Sound m force ask ends x
  pub newer_than_seen : IsNewerOnAll c m (number_of x) seen
  pub newer_than_found : IsNewerOnAll c m (number_of x) ask.found

-- A REFUSAL

-- the last request found no number left
pub record HasMetNoNumber (c : Catalogue) (m : MetaKey) (force : Bool) (gained : List (Made Note)) : Type 0 where
  pub busy : List (Made Note)
  pub ask : Made Note
  pub all : gained ≡ busy ++ ask ∷ []
  pub waited : AreBusyRequests c m force busy
  pub answer : MeetsSpent c m force ask

-- the last request gave a ticket, which was abandoned
pub record HasGivenUp (c : Catalogue) (m : MetaKey) (force : Bool) (gained : List (Made Note)) : Type 0 where
  pub busy : List (Made Note)
  pub ask : Made Note
  pub end : Made Note
  pub all : gained ≡ busy ++ ask ∷ end ∷ []
  pub waited : AreBusyRequests c m force busy
  pub ticket : Ticketed
  pub answer : GivesTicket c m force ticket ask
  pub ended : IsAbandon ticket end

-- the turns of a refresh that came to this
abbrev pub CameTo : Catalogue → Type 0 → MetaKey → Bool → FrontedBook → List (Made Note) → Result Refreshed GetFault → Type 0
CameTo c Sound m force seen gained (Ok x) = HasRefreshed c Sound m force seen gained x
CameTo c Sound m force seen gained (Err SourceFault) = HasGivenUp c m force gained
CameTo c Sound m force seen gained (Err Spent) = HasMetNoNumber c m force gained
CameTo c Sound m force seen gained (Err OutOfMemory) = AreBusyRequests c m force gained ⊎ HasGivenUp c m force gained

-- THE WHOLE: the turns that a refresh made, and what it came to; what they handed in is cut out of what the source has given
module _ {C : Type 0} (leads : C → C → List (Made Note) → Type 0) where
  pub record Refreshes (c : Catalogue) (gave : List GivenImage) (Sound : Type 0) (m : MetaKey) (force : Bool) (seen : FrontedBook) (before after : C) (result : Result Refreshed GetFault) : Type 0 where
    pub gained : List (Made Note)
    pub gains : leads before after gained
    pub from_source : AreFromSource c gave gained
    pub came_to : CameTo c Sound m force seen gained result
