-- How the request of a refresh is answered.
-- A tie between the code and its definitions: the promise can be read without it.
use Rattle.std.specs.Prelude.{ℕ, ◌≡◌, Bool, false, List, [], ◌∷◌, ◌++◌, Result, Ok, Err}
use Rattle.cabinet.specs.declared.replies.Asked.TheVariants as asked
use Rattle.cabinet_chest.specs.declared.shown.Note.{Note}
use Rattle.catalog.specs.declared.catalogue.Catalogue.{Catalogue}
use Rattle.metatile_locks.specs.Tickets.{Ticketed}
use Rattle.metatile_plan.specs.declared.metatile.MetaKey.{MetaKey}
use Rattle.raster_field.specs.Blocks.{first_tile}
use Rattle.turnstile.specs.declared.view.Made.{Made}
use Rattle.cache_access.specs.declared.requesting.Requested.{Requested}
use Rattle.cache_access.specs.declared.requesting.Requested.TheVariants as requested
use Rattle.cache_access.specs.Refreshes.{AreBusyRequests, GivesTicket, MeetsSpent}
use Rattle.cache_access.specs.Waits.{IsAsk}

-- a request that comes to this
abbrev pub IsRequest : Catalogue → MetaKey → Bool → Requested → Made Note → Type 0
IsRequest c m force (requested.Kept k) ask = (force ≡ false) × ((bytes : List ℕ) × IsAsk (first_tile c m) (asked.Hit k bytes) ask)
IsRequest c m force (requested.Ticket t) ask = GivesTicket c m force t ask
IsRequest c m force requested.Spent ask = MeetsSpent c m force ask

module _ {C : Type 0} (leads : C → C → List (Made Note) → Type 0) where
  -- after requests while another render ran the last one was answered otherwise
  pub record HasAwaited (c : Catalogue) (m : MetaKey) (force : Bool) (before after : C) (x : Requested) : Type 0 where
    pub busy : List (Made Note)
    pub ask : Made Note
    pub gains : leads before after (busy ++ ask ∷ [])
    pub waited : AreBusyRequests c m force busy
    pub answer : IsRequest c m force x ask

  -- requests while another render ran, and nothing else
  pub record IsAwaiting (c : Catalogue) (m : MetaKey) (force : Bool) (before after : C) : Type 0 where
    pub busy : List (Made Note)
    pub gains : leads before after busy
    pub waited : AreBusyRequests c m force busy

  abbrev pub AwaitsRender : {E : Type 0} → Catalogue → MetaKey → Bool → C → C → Result Requested E → Type 0
  AwaitsRender c m force before after (Ok x) = HasAwaited c m force before after x
  AwaitsRender c m force before after (Err fault) = IsAwaiting c m force before after

-- whether a render may run after a request: that of the ticket that was given, and otherwise none
abbrev pub RunsAfterRequest : {E : Type 0} → Type 0 → (Ticketed → Type 0) → Result Requested E → Type 0
RunsAfterRequest Rests Holds (Ok (requested.Kept k)) = Rests
RunsAfterRequest Rests Holds (Ok (requested.Ticket t)) = Holds t
RunsAfterRequest Rests Holds (Ok requested.Spent) = Rests
RunsAfterRequest Rests Holds (Err fault) = Rests
