-- Turns at one cabinet, as whoever made them sees them, and what a call through an access leaves as it was.
use Rattle.std.specs.Prelude.{◌≡◌, Bool, List, [], ◌∷◌, Result, Ok, Err, ⊤}
use Rattle.cabinet.specs.declared.replies.Asked.{Asked}
use Rattle.cabinet.specs.declared.replies.Asked.TheVariants as asked
use Rattle.cabinet.specs.declared.replies.Forced.{Forced}
use Rattle.cabinet.specs.declared.replies.Forced.TheVariants as forced
use Rattle.cabinet.specs.State.{fronted, now}
use Rattle.cabinet_chest.specs.declared.command.Command.{Command}
use Rattle.cabinet_chest.specs.declared.command.Reply.{Reply}
use Rattle.cabinet_chest.specs.declared.shown.Note.{Note}
use Rattle.cabinet_chest.specs.Replies.{MayReply}
use Rattle.catalog.specs.declared.catalogue.Catalogue.{Catalogue}
use Rattle.metatile_locks.specs.Tickets.{Ticketed}
use Rattle.truncation_list.specs.declared.book.FrontedBook.{FrontedBook}
use Rattle.truncation_list.specs.Books.{AnswersForFronted}
use Rattle.turnstile.specs.declared.view.Made.{Made}

-- the book that a turn left
abbrev pub left_by : Made Note → FrontedBook
left_by m = fronted (now m.note.after.state)

-- one turn at a cabinet of the catalogue, known to be sound or not, by who had seen this book: it found a book that answers for
-- that one, and its command has a reply that it may have; what is noted of it is the book that it found, and the one that it left
pub record IsTurn (c : Catalogue) (told : Bool) (seen : FrontedBook) (m : Made Note) : Type 0 where
  pub found : m.found ≡ fronted (now m.note.before.state)
  pub left : m.left ≡ left_by m
  pub answers : AnswersForFronted m.found seen
  pub reply : MayReply c told m.note.before m.note.after m.note.command m.note.reply

-- turns one after the other, of who had seen one book at first, and sees the other one at last; between them others may have theirs
abbrev pub AreTurns : Catalogue → Bool → FrontedBook → List (Made Note) → FrontedBook → Type 0
AreTurns c told seen [] left = AnswersForFronted left seen
AreTurns c told seen (m ∷ ms) left = IsTurn c told seen m × AreTurns c told (left_by m) ms left

-- a turn of this command, with this reply
pub record IsOf (does : Command) (answer : Reply) (m : Made Note) : Type 0 where
  pub command : m.note.command ≡ does
  pub reply : m.note.reply ≡ answer

-- by what is commanded, and which turns lead from one to another
module _ {C : Type 0} (leads : C → C → List (Made Note) → Type 0) where
  -- a call made one turn, of this command and with this reply
  pub record GainsOne (before after : C) (does : Command) (answer : Reply) : Type 0 where
    pub turn : Made Note
    pub gains : leads before after (turn ∷ [])
    pub of : IsOf does answer turn

-- what each call through an access keeps: it still reaches a cache of this catalogue, it owes no more truth than before, and a crash
-- between leaves what it may
module _ {C : Type 0} (catalogue : C → Catalogue) (Reached Owing : C → Type 0) (Lasting : C → C → Type 0) where
  pub record Goes (before after : C) : Type 0 where
    pub reaches : Reached after
    pub same : catalogue after ≡ catalogue before
    pub owes : Owing after → Owing before
    pub lasts : Lasting before after

-- whether a render may run after an ask or a force: that of the ticket that was given, and otherwise none
abbrev pub RunsAfterAsk : {E : Type 0} → Type 0 → (Ticketed → Type 0) → Result Asked E → Type 0
RunsAfterAsk Rests Holds (Ok (asked.Hit k bytes)) = Rests
RunsAfterAsk Rests Holds (Ok (asked.Ticket t)) = Holds t
RunsAfterAsk Rests Holds (Ok (asked.Busy k)) = ⊤
RunsAfterAsk Rests Holds (Ok asked.Spent) = Rests
RunsAfterAsk Rests Holds (Err fault) = Rests

abbrev pub RunsAfterForce : {E : Type 0} → Type 0 → (Ticketed → Type 0) → Result Forced E → Type 0
RunsAfterForce Rests Holds (Ok (forced.Ticket t)) = Holds t
RunsAfterForce Rests Holds (Ok (forced.Busy k)) = ⊤
RunsAfterForce Rests Holds (Ok forced.Spent) = Rests
RunsAfterForce Rests Holds (Err fault) = Rests
