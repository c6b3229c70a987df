-- Settled asks and forces: repeated while another render of the metatile runs.
use Rattle.std.specs.Prelude.{ℕ, List, [], ◌∷◌, ◌++◌, Result, Ok, Err, ⊤}
use Rattle.std.specs.List.{AllByRecursion}
use Rattle.cabinet.specs.declared.replies.Asked.{Asked}
use Rattle.cabinet.specs.declared.replies.Asked.TheVariants as asked
use Rattle.cabinet.specs.declared.replies.Forced.{Forced}
use Rattle.cabinet.specs.declared.replies.Forced.TheVariants as forced
use Rattle.cabinet_chest.specs.declared.command.Command.TheVariants as command
use Rattle.cabinet_chest.specs.declared.command.Reply.TheVariants as reply
use Rattle.cabinet_chest.specs.declared.shown.Note.{Note}
use Rattle.matrix_geometry.specs.declared.address.Address.{Address}
use Rattle.metatile_plan.specs.declared.metatile.MetaKey.{MetaKey}
use Rattle.turnstile.specs.declared.view.Made.{Made}
use Rattle.cache_access.specs.Turned.{IsOf}

-- an ask for the tile that was answered so
abbrev pub IsAsk : Address → Asked → Made Note → Type 0
IsAsk a r m = IsOf (command.Ask a) (reply.Asked r) m

-- asks for the tile while another render of its metatile runs
abbrev pub AreBusyAsks : Address → List (Made Note) → Type 0
AreBusyAsks a asks = AllByRecursion (λ m. (k : ℕ) × IsAsk a (asked.Busy k) m) asks

-- a force of the metatile that was answered so
abbrev pub IsForce : MetaKey → Forced → Made Note → Type 0
IsForce m r x = IsOf (command.Force m) (reply.Forced r) x

abbrev pub AreBusyForces : MetaKey → List (Made Note) → Type 0
AreBusyForces m forces = AllByRecursion (λ x. (k : ℕ) × IsForce m (forced.Busy k) x) forces

abbrev pub IsSettled : Asked → Type 0
IsSettled (asked.Hit k bytes) = ⊤
IsSettled (asked.Ticket t) = ⊤
IsSettled (asked.Busy k) = ⊥
IsSettled asked.Spent = ⊤

abbrev pub IsForceSettled : Forced → Type 0
IsForceSettled (forced.Ticket t) = ⊤
IsForceSettled (forced.Busy k) = ⊥
IsForceSettled forced.Spent = ⊤

module _ {C : Type 0} (leads : C → C → List (Made Note) → Type 0) where
  -- after asks while another render ran the last one was answered otherwise
  pub record HasWaited (a : Address) (before after : C) (r : Asked) : Type 0 where
    pub busy : List (Made Note)
    pub ask : Made Note
    pub gains : leads before after (busy ++ ask ∷ [])
    pub waited : AreBusyAsks a busy
    pub answer : IsAsk a r ask
    pub over : IsSettled r

  -- asks while another render ran, and nothing else
  pub record IsWaiting (a : Address) (before after : C) : Type 0 where
    pub busy : List (Made Note)
    pub gains : leads before after busy
    pub waited : AreBusyAsks a busy

  abbrev pub Waits : {E : Type 0} → Address → C → C → Result Asked E → Type 0
  Waits a before after (Ok r) = HasWaited a before after r
  Waits a before after (Err fault) = IsWaiting a before after

  -- the same of forces
  pub record HasWaitedForced (m : MetaKey) (before after : C) (r : Forced) : Type 0 where
    pub busy : List (Made Note)
    pub force : Made Note
    pub gains : leads before after (busy ++ force ∷ [])
    pub waited : AreBusyForces m busy
    pub answer : IsForce m r force
    pub over : IsForceSettled r

  pub record IsWaitingForced (m : MetaKey) (before after : C) : Type 0 where
    pub busy : List (Made Note)
    pub gains : leads before after busy
    pub waited : AreBusyForces m busy

  abbrev pub WaitsForced : {E : Type 0} → MetaKey → C → C → Result Forced E → Type 0
  WaitsForced m before after (Ok r) = HasWaitedForced m before after r
  WaitsForced m before after (Err fault) = IsWaitingForced m before after
