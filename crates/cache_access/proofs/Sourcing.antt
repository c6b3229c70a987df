-- The blobs that the turns of a get or of a refresh hand in are cut out of what the source gave.
use Rattle.std.proofs.Common.{ℕ, Bool, true, false, List, [], ◌∷◌, ◌++◌, sym, subst}
use Rattle.cabinet.specs.declared.replies.Asked.{Asked}
use Rattle.cabinet.specs.declared.replies.Asked.TheVariants as asked
use Rattle.cabinet.specs.declared.replies.Forced.{Forced}
use Rattle.cabinet.specs.declared.replies.Forced.TheVariants as forced
use Rattle.cabinet_chest.specs.declared.command.Command.{Command}
use Rattle.cabinet_chest.specs.declared.shown.Note.{Note}
use Rattle.cache_core.specs.Given.{IsCutOf}
use Rattle.catalog.specs.declared.catalogue.Catalogue.{Catalogue}
use Rattle.matrix_geometry.specs.declared.address.Address.{Address}
use Rattle.metatile_locks.specs.Tickets.{Ticketed}
use Rattle.metatile_locks.proofs.Lists.{all_joined}
use Rattle.metatile_plan.specs.declared.metatile.MetaKey.{MetaKey}
use Rattle.source_render.specs.Renders.{GivenImage}
use Rattle.turnstile.specs.declared.view.Made.{Made}
use Rattle.cache_access.specs.Gets.{IsAbandon, IsFinish}
use Rattle.cache_access.specs.Refreshes.{AreBusyRequests, GivesTicket, MeetsSpent}
use Rattle.cache_access.specs.Sourced.{AreFromSource, IsFromSource}
use Rattle.cache_access.specs.Waits.{AreBusyAsks, AreBusyForces, IsAsk, IsForce}

module _ (c : Catalogue) (gave : List GivenImage) where
  -- ONE TURN

  pub by_ask : (a : Address) (r : Asked) (m : Made Note) → IsAsk a r m → IsFromSource c gave m.note.command
  by_ask a r m is = subst (λ (d : Command). IsFromSource c gave d) (sym is.command) tt

  by_force : (k : MetaKey) (r : Forced) (m : Made Note) → IsForce k r m → IsFromSource c gave m.note.command
  by_force k r m is = subst (λ (d : Command). IsFromSource c gave d) (sym is.command) tt

  pub by_ticket : (k : MetaKey) (force : Bool) (t : Ticketed) (m : Made Note) → GivesTicket c k force t m → IsFromSource c gave m.note.command
  by_ticket k false t m is = by_ask _ (asked.Ticket t) m is
  by_ticket k true t m is = by_force k (forced.Ticket t) m is

  pub by_spent : (k : MetaKey) (force : Bool) (m : Made Note) → MeetsSpent c k force m → IsFromSource c gave m.note.command
  by_spent k false m is = by_ask _ asked.Spent m is
  by_spent k true m is = by_force k forced.Spent m is

  pub by_abandon : (t : Ticketed) (m : Made Note) → IsAbandon t m → IsFromSource c gave m.note.command
  by_abandon t m is = subst (λ (d : Command). IsFromSource c gave d) (sym is) tt

  pub by_finish : (t : Ticketed) (blob : List ℕ) (m : Made Note) → IsFinish t blob m → IsCutOf c gave t blob → IsFromSource c gave m.note.command
  by_finish t blob m is cut = subst (λ (d : Command). IsFromSource c gave d) (sym is) cut

  -- REQUESTS while another render runs

  pub busy_asks : (a : Address) (busy : List (Made Note)) → AreBusyAsks a busy → AreFromSource c gave busy
  busy_asks a [] h = tt
  busy_asks a (m ∷ ms) h = (by_ask a (asked.Busy h.0.0) m h.0.1, busy_asks a ms h.1)

  busy_forces : (k : MetaKey) (busy : List (Made Note)) → AreBusyForces k busy → AreFromSource c gave busy
  busy_forces k [] h = tt
  busy_forces k (m ∷ ms) h = (by_force k (forced.Busy h.0.0) m h.0.1, busy_forces k ms h.1)

  pub busy_requests : (k : MetaKey) (force : Bool) (busy : List (Made Note)) → AreBusyRequests c k force busy → AreFromSource c gave busy
  busy_requests k false busy h = busy_asks _ busy h
  busy_requests k true busy h = busy_forces k busy h

  -- WHAT FOLLOWS on them

  pub with_one : (busy : List (Made Note)) (m : Made Note) → AreFromSource c gave busy → IsFromSource c gave m.note.command → AreFromSource c gave (busy ++ m ∷ [])
  with_one busy m some one = all_joined (λ (x : Made Note). IsFromSource c gave x.note.command) busy (m ∷ []) some (one, tt)

  pub with_two : (busy : List (Made Note)) (m n : Made Note) → AreFromSource c gave busy → IsFromSource c gave m.note.command → IsFromSource c gave n.note.command → AreFromSource c gave (busy ++ m ∷ n ∷ [])
  with_two busy m n some one other = all_joined (λ (x : Made Note). IsFromSource c gave x.note.command) busy (m ∷ n ∷ []) some (one, (other, tt))

  pub sourced_more : (ms ns : List (Made Note)) → AreFromSource c gave ms → AreFromSource c gave ns → AreFromSource c gave (ms ++ ns)
  sourced_more ms ns some others = all_joined (λ (x : Made Note). IsFromSource c gave x.note.command) ms ns some others
