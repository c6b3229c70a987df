-- Turns one after the other.
use Rattle.std.proofs.Common.{◌≡◌, Bool, false, List, [], ◌∷◌, ◌++◌, sym, subst}
use Rattle.std.proofs.lemmas.Bool.{false≢true}
use Rattle.cabinet.specs.declared.replies.Asked.{Asked}
use Rattle.cabinet.specs.State.{fronted, now}
use Rattle.cabinet_chest.specs.declared.command.Command.{Command}
use Rattle.cabinet_chest.specs.declared.command.Command.TheVariants as command
use Rattle.cabinet_chest.specs.declared.command.Reply.{Reply}
use Rattle.cabinet_chest.specs.declared.shown.Note.{Note}
use Rattle.cabinet_chest.specs.declared.shown.Shown.{Shown}
use Rattle.cabinet_chest.specs.Replies.{IsAnswered, IsReplyTo, MayReply}
use Rattle.catalog.specs.declared.catalogue.Catalogue.{Catalogue}
use Rattle.matrix_geometry.specs.declared.address.Address.{Address}
use Rattle.truncation_list.specs.declared.book.FrontedBook.{FrontedBook}
use Rattle.truncation_list.specs.Books.{AnswersForFronted}
use Rattle.truncation_list.proofs.Answering.{fronted_through}
use Rattle.turnstile.specs.declared.view.Made.{Made}
use Rattle.cache_access.specs.Turned.{AreTurns, IsTurn, left_by}

-- turns of who had seen a book are those of one that had seen less
pub older_turns : (c : Catalogue) (told : Bool) (older seen left : FrontedBook) (ms : List (Made Note)) → AnswersForFronted seen older → AreTurns c told seen ms left → AreTurns c told older ms left
older_turns c told older seen left [] answers turns = fronted_through left seen older turns answers
older_turns c told older seen left (m ∷ ms) answers turns = (record { found = turns.0.found; left = turns.0.left; answers = fronted_through m.found seen older turns.0.answers answers; reply = turns.0.reply }, turns.1)

pub turns_more : (c : Catalogue) (told : Bool) (seen between left : FrontedBook) (ms ns : List (Made Note)) → AreTurns c told seen ms between → AreTurns c told between ns left → AreTurns c told seen (ms ++ ns) left
turns_more c told seen between left [] ns first then = older_turns c told seen between left ns first then
turns_more c told seen between left (m ∷ ms) ns first then = (first.0, turns_more c told (left_by m) between left ms ns first.1 then)

-- what was left answers for what was found
pub left_answers : (c : Catalogue) (told : Bool) (seen : FrontedBook) (m : Made Note) → IsTurn c told seen m → AnswersForFronted (left_by m) seen
left_answers c told seen m turn =
    fronted_through (left_by m) m.found seen (subst (λ (b : FrontedBook). AnswersForFronted (left_by m) b) (sym turn.found) turn.reply.goes_on.answers) turn.answers

-- a turn among others: it found a book that answers for what had been seen at first
pub turn_among : (c : Catalogue) (told : Bool) (seen left : FrontedBook) (before : List (Made Note)) (m : Made Note) (ends : List (Made Note)) → AreTurns c told seen (before ++ m ∷ ends) left
    → AnswersForFronted m.found seen × MayReply c told m.note.before m.note.after m.note.command m.note.reply × (m.found ≡ fronted (now m.note.before.state))
turn_among c told seen left [] m ends turns = (turns.0.answers, turns.0.reply, turns.0.found)
turn_among c told seen left (n ∷ before) m ends turns =
    let later = turn_among c told (left_by n) left before m ends turns.1 in
    (fronted_through m.found (left_by n) seen later.0 (left_answers c told seen n turns.0), later.1, later.2)

-- TURNS AT A SOUND CABINET, by who need not know that it is

unsure_answered : (c : Catalogue) (told : Bool) (b a : Shown) (t : Address) (x : Asked) → IsAnswered c told b a t x → IsAnswered c false b a t x
unsure_answered c told b a t x h = record { row = h.row; fresh = h.fresh; above = h.above; truth = λ sure. absurd (false≢true sure) }

unsure_reply : (c : Catalogue) (told : Bool) (b a : Shown) (does : Command) (r : Reply) → IsReplyTo c told b a does r → IsReplyTo c false b a does r
unsure_reply c told b a (command.Ask t) r (x, is, h) = (x, is, unsure_answered c told b a t x h)
unsure_reply c told b a (command.Force m) r h = h
unsure_reply c told b a (command.Finish t blob) r h = h
unsure_reply c told b a (command.Abandon t) r h = h
unsure_reply c told b a (command.Cut cover) r h = h
unsure_reply c told b a command.Expire r h = h
unsure_reply c told b a command.SaveUses r h = h
unsure_reply c told b a (command.Usage layer) r h = h

unsure_turn : (c : Catalogue) (told : Bool) (seen : FrontedBook) (m : Made Note) → IsTurn c told seen m → IsTurn c false seen m
unsure_turn c told seen m turn = record {
  found = turn.found;
  left = turn.left;
  answers = turn.answers;
  reply = record {
    catalogue = turn.reply.catalogue;
    known = turn.reply.known;
    goes_on = turn.reply.goes_on;
    later = turn.reply.later;
    answer = unsure_reply c told m.note.before m.note.after m.note.command m.note.reply turn.reply.answer;
  };
}

pub unsure_turns : (c : Catalogue) (told : Bool) (seen left : FrontedBook) (ms : List (Made Note)) → AreTurns c told seen ms left → AreTurns c false seen ms left
unsure_turns c told seen left [] turns = turns
unsure_turns c told seen left (m ∷ ms) turns = (unsure_turn c told seen m turns.0, unsure_turns c told (left_by m) left ms turns.1)
