-- Turns at the chest of a hall.
use Rattle.std.proofs.Common.{ℕ, ◌≡◌, [], ◌∷◌, Some, refl, sym, ap, subst, ◌∙◌}
use Rattle.atomic_table.specs.Seated.{TableId}
use Rattle.cabinet.specs.State.{IsSound, State, fronted, now}
use Rattle.cabinet_chest.specs.declared.command.Command.{Command}
use Rattle.cabinet_chest.specs.declared.command.Reply.{Reply}
use Rattle.cabinet_chest.specs.declared.shown.Note.{Note}
use Rattle.cabinet_chest.specs.declared.shown.Shown.{Shown}
use Rattle.cabinet_chest.specs.Acts.{seen}
use Rattle.cabinet_chest.specs.Replies.{MayReply}
use Rattle.catalog.specs.declared.catalogue.Catalogue.{Catalogue}
use Rattle.truncation_list.specs.declared.book.FrontedBook.{FrontedBook}
use Rattle.truncation_list.specs.Books.{AnswersForFronted}
use Rattle.truncation_list.proofs.Answering.{fronted_itself}
use Rattle.turnstile.specs.declared.view.Made.{Made}
use Rattle.turnstile.specs.Passes.{Stays, Turned, Unturned, seen_by}
use Rattle.cache_hall.specs.Turned.{GainsOne, GainsTurns, HallPass, IsPassOf}

-- THE PASS

pub still_of : (table : TableId) (c : Catalogue) (before after : HallPass) → Stays before after → IsPassOf table c before → IsPassOf table c after
still_of table c before after stays of = record { same_table = stays.table ∙ of.same_table; charter = stays.charter ∙ of.charter }

some_same : (a b : Catalogue) → Some a ≡ Some b → a ≡ b
some_same a b e = cc

-- ONE TURN

abbrev noted : Command → Reply → Shown → Shown → Note
noted does r b a = record { command = does; reply = r; before = b; after = a }

module _ {C : Type 0} (state : C → State) (faults : C → ℕ) where
  abbrev the_charter : C → Catalogue
  the_charter x = (state x).catalogue

  abbrev the_sound : C → Type 0
  the_sound x = IsSound (state x)

  abbrev the_book : C → FrontedBook
  the_book x = fronted (now (state x))

  abbrev the_shown : C → Shown
  the_shown x = seen (faults x) (state x)

  pub one_turn : (table : TableId) (c : Catalogue) (before after : HallPass) (does : Command) (r : Reply) → IsPassOf table c before
      → Turned the_charter the_sound the_book the_shown noted MayReply before after does r → GainsOne c before after does r
  one_turn table c before after does r of t =
      let m : Made Note = record { note = noted does r (the_shown t.found) (the_shown t.left); found = the_book t.found; left = the_book t.left } in
      let book : after.book ≡ the_book t.left = ap (λ (p : HallPass). p.book) t.is in
      let same : the_charter t.found ≡ c = some_same (the_charter t.found) c (sym t.finds.charter_is ∙ of.charter) in
      record {
        turn = m;
        gains = record {
          is = t.is ∙ ap (λ b. seen_by before b (m ∷ [])) (sym book);
          turns = (
            record { found = refl; left = refl; answers = t.finds.answers; reply = subst (λ (d : Catalogue). MayReply d before.told (the_shown t.found) (the_shown t.left) does r) same t.replies },
            subst (λ (b : FrontedBook). AnswersForFronted b (the_book t.left)) (sym book) (fronted_itself (the_book t.left)),
          );
        };
        of = record { command = refl; reply = refl };
      }

  pub no_turn : (as_before : C → C → Type 0) (c : Catalogue) (before after : HallPass) → Unturned the_charter the_sound the_book as_before before after → GainsTurns c before after []
  no_turn as_before c before after t =
      let book : after.book ≡ the_book t.found = ap (λ (p : HallPass). p.book) t.is in
      record {
        is = t.is ∙ ap (λ b. seen_by before b []) (sym book);
        turns = subst (λ (b : FrontedBook). AnswersForFronted b before.book) (sym book) t.finds.answers;
      }

-- WHAT STAYS

pub stays_itself : (p : HallPass) → Stays p p
stays_itself p = record { table = refl; charter = refl; told = refl }

pub stays_on : (p q r : HallPass) → Stays p q → Stays q r → Stays p r
stays_on p q r first then = record { table = then.table ∙ first.table; charter = then.charter ∙ first.charter; told = then.told ∙ first.told }
