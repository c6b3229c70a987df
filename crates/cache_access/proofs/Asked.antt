-- What asks and forces were answered.
use Rattle.std.proofs.Common.{◌≡◌, Bool, false, [], ap, sym, subst, ◌∙◌, List}
use Rattle.cabinet.specs.declared.replies.Asked.{Asked}
use Rattle.cabinet.specs.declared.replies.Asked.TheVariants as asked
use Rattle.cabinet.specs.declared.replies.Forced.{Forced}
use Rattle.cabinet_chest.specs.declared.command.Command.{Command}
use Rattle.cabinet_chest.specs.declared.command.Command.TheVariants as command
use Rattle.cabinet_chest.specs.declared.command.Reply.{Reply}
use Rattle.cabinet_chest.specs.declared.command.Reply.TheVariants as reply
use Rattle.cabinet_chest.specs.declared.shown.Note.{Note}
use Rattle.cabinet_chest.specs.declared.shown.Shown.{Shown}
use Rattle.cabinet_chest.specs.Replies.{IsAnswered, IsForcedAnswered, IsReplyTo, MayReply}
use Rattle.cache_core.specs.Fits.{IsTicketFor}
use Rattle.catalog.specs.declared.catalogue.Catalogue.{Catalogue}
use Rattle.matrix_geometry.specs.declared.address.Address.{Address}
use Rattle.metatile_locks.specs.Tickets.{Ticketed}
use Rattle.metatile_plan.specs.declared.metatile.MetaKey.{MetaKey}
use Rattle.raster_field.specs.Blocks.{block_of}
use Rattle.truncation_list.specs.declared.book.FrontedBook.{FrontedBook}
use Rattle.turnstile.specs.declared.view.Made.{Made}
use Rattle.cache_access.specs.Turned.{AreTurns}
use Rattle.cache_access.specs.Waits.{HasWaited}
use Rattle.cache_access.proofs.Turning.{turn_among}

answer_same : (x y : Asked) → reply.Asked x ≡ reply.Asked y → y ≡ x
answer_same x y e = cc

module _ (c : Catalogue) (told : Bool) (b a : Shown) (t : Address) (x : Asked) where
  answered_to : IsReplyTo c told b a (command.Ask t) (reply.Asked x) → IsAnswered c told b a t x
  answered_to h = subst (λ (y : Asked). IsAnswered c told b a t y) (answer_same x h.0 h.1) h.2

  pub answered_by : (does : Command) (r : Reply) → does ≡ command.Ask t → r ≡ reply.Asked x → MayReply c told b a does r → IsAnswered c told b a t x
  answered_by does r is_ask is_asked may =
      answered_to (subst (λ (z : Reply). IsReplyTo c told b a (command.Ask t) z) is_asked (subst (λ (d : Command). IsReplyTo c told b a d r) is_ask may.answer))

force_same : (x y : Forced) → reply.Forced x ≡ reply.Forced y → y ≡ x
force_same x y e = cc

module _ (c : Catalogue) (told : Bool) (b a : Shown) (m : MetaKey) (x : Forced) where
  forced_to : IsReplyTo c told b a (command.Force m) (reply.Forced x) → IsForcedAnswered c b a m x
  forced_to h = subst (λ (y : Forced). IsForcedAnswered c b a m y) (force_same x h.0 h.1) h.2

  pub forced_by : (does : Command) (r : Reply) → does ≡ command.Force m → r ≡ reply.Forced x → MayReply c told b a does r → IsForcedAnswered c b a m x
  forced_by does r is_force is_forced may =
      forced_to (subst (λ (z : Reply). IsReplyTo c told b a (command.Force m) z) is_forced (subst (λ (d : Command). IsReplyTo c told b a d r) is_force may.answer))

-- a ticket is for the tile's metatile
ticket_of : (c : Catalogue) (told : Bool) (b a : Shown) (t : Address) (k : Ticketed) → b.state.catalogue ≡ c → IsAnswered c told b a t (asked.Ticket k) → IsTicketFor c t k
ticket_of c told b a t k same answer = answer.row.1.meta ∙ ap (λ (d : Catalogue). block_of d t) same

-- also by the catalogue as it is after the ask
pub ticket_for : {C : Type 0} (leads : C → C → List (Made Note) → Type 0) (seen : C → FrontedBook) (c d : Catalogue) (t : Address) (p q : C) (k : Ticketed) → d ≡ c
    → ((ms : List (Made Note)) → leads p q ms → AreTurns c false (seen p) ms (seen q)) → HasWaited leads t p q (asked.Ticket k) → IsTicketFor d t k
ticket_for leads seen c d t p q k same turns_of h =
    let turn = turn_among c false (seen p) (seen q) h.busy h.ask [] (turns_of _ h.gains) in
    ticket_of c false h.ask.note.before h.ask.note.after t k turn.1.catalogue (answered_by c false h.ask.note.before h.ask.note.after t (asked.Ticket k) h.ask.note.command h.ask.note.reply h.answer.command h.answer.reply turn.1)
    ∙ ap (λ (e : Catalogue). block_of e t) (sym same)
