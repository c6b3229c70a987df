-- What a get comes to.
use Rattle.std.proofs.Common.{ℕ, ◌≡◌, true, false, List, [], ◌∷◌, ◌++◌, Result, Ok, Err, length, inl, inr, refl, sym, ap, subst, append_assoc}
use Rattle.cabinet.specs.declared.replies.Asked.{Asked}
use Rattle.cabinet.specs.declared.replies.Asked.TheVariants as asked
use Rattle.cabinet.specs.Fresh.{IsFresh}
use Rattle.cabinet_chest.specs.declared.shown.Note.{Note}
use Rattle.cabinet_chest.specs.Above.{IsAboveCovering}
use Rattle.cabinet_chest.specs.Replies.{IsAnswered, book_in}
use Rattle.cabinet_chest.proofs.Numbering.{all_covering, answered_below, older_below}
use Rattle.cache_core.specs.declared.outcome.Tile.{Tile}
use Rattle.catalog.specs.declared.catalogue.Catalogue.{Catalogue}
use Rattle.catalog.specs.LookUp.{IsTile}
use Rattle.catalog.specs.Valid.{IsValid}
use Rattle.matrix_geometry.specs.declared.address.Address.{Address}
use Rattle.metatile_locks.specs.Tickets.{Ticketed}
use Rattle.raster_field.specs.TileText.{tile_text}
use Rattle.source_render.specs.Renders.{GivenImage}
use Rattle.truncation_list.specs.declared.book.Book.{Book}
use Rattle.truncation_list.specs.declared.book.FrontedBook.{FrontedBook}
use Rattle.truncation_list.specs.Books.{AnswersForFronted}
use Rattle.turnstile.specs.declared.view.Made.{Made}
use Rattle.cache_access.specs.declared.fault.GetFault.{GetFault}
use Rattle.cache_access.specs.declared.fault.GetFault.TheVariants as fault
use Rattle.cache_access.specs.Gets.{Gets, HasAbandoned, HasGot, IsNewerThanBook}
use Rattle.cache_access.specs.Made.{GivesBack, HandsIn, Makes}
use Rattle.cache_access.specs.Sourced.{AreFromSource, IsFromSource}
use Rattle.cache_access.specs.Turned.{AreTurns}
use Rattle.cache_access.specs.Waits.{HasWaited, IsAsk, IsWaiting}
use Rattle.cache_access.proofs.Asked.{answered_by}
use Rattle.cache_access.proofs.Sourcing.{busy_asks, by_abandon, by_ask, by_finish, with_one, with_two}
use Rattle.cache_access.proofs.Turning.{turn_among}

-- NEWER than what the book answers for that the ask found, and than what had been seen before

module _ (c : Catalogue) (a : Address) (valid : IsValid c) (tile : IsTile c a) where
  -- what is known of the ask that was answered, among the turns of a get
  record AskFacts (seen : FrontedBook) (ask : Made Note) (k : ℕ) : Type 0 where
    newer_than_seen : IsNewerThanBook c a k seen
    newer_than_found : IsNewerThanBook c a k ask.found
    fresh : IsFresh c ask.note.after.state.history (length ask.note.before.state.history) a k

  pub newer_by : (seen found : FrontedBook) (book : Book) (k : ℕ) → found.book ≡ book → AnswersForFronted found seen → IsAboveCovering c book a k → IsNewerThanBook c a k seen × IsNewerThanBook c a k found
  newer_by seen found book k is answers above =
      let here : IsAboveCovering c found.book a k = subst (λ (b : Book). IsAboveCovering c b a k) (sym is) above in (
        λ cut covered for. older_below c a valid tile found.book seen.book k cut here answers.book for covered,
        λ cut covered for. answered_below c a valid tile found.book k cut here for covered,
      )

  module _ (seen left : FrontedBook) (busy : List (Made Note)) (ask : Made Note) (ends : List (Made Note)) (turns : AreTurns c false seen (busy ++ ask ∷ ends) left) where
    answer_of : (r : Asked) → IsAsk a r ask → IsAnswered c false ask.note.before ask.note.after a r
    answer_of r is = answered_by c false ask.note.before ask.note.after a r ask.note.command ask.note.reply is.command is.reply (turn_among c false seen left busy ask ends turns).1

    facts_at : (k : ℕ) → IsAboveCovering c (book_in ask.note.before) a k → IsFresh ask.note.before.state.catalogue ask.note.after.state.history (length ask.note.before.state.history) a k → AskFacts seen ask k
    facts_at k above fresh =
        let turn = turn_among c false seen left busy ask ends turns in
        let newer = newer_by seen ask.found (book_in ask.note.before) k (ap (λ b. b.book) turn.2) turn.0 above in
        record {
          newer_than_seen = newer.0;
          newer_than_found = newer.1;
          fresh = subst (λ (d : Catalogue). IsFresh d ask.note.after.state.history (length ask.note.before.state.history) a k) turn.1.catalogue fresh;
        }

    hit_facts : (k : ℕ) (bytes : List ℕ) → IsAsk a (asked.Hit k bytes) ask → AskFacts seen ask k
    hit_facts k bytes is = let x = answer_of (asked.Hit k bytes) is in facts_at k x.above x.fresh

    ticket_facts : (t : Ticketed) → IsAsk a (asked.Ticket t) ask → AskFacts seen ask t.number
    ticket_facts t is = let x = answer_of (asked.Ticket t) is in facts_at t.number (all_covering c (book_in ask.note.before) a t.number x.above) x.fresh

  module _ {C : Type 0} (leads : C → C → List (Made Note) → Type 0) (seen : C → FrontedBook) (gave : List GivenImage) (Sound : Type 0) (p : C) (turns_of : (q : C) (ms : List (Made Note)) → leads p q ms → AreTurns c false (seen p) ms (seen q)) where
    -- NO TILE
    pub got_no_memory : (q : C) → IsWaiting leads a p q → Gets leads c gave Sound a (seen p) p q (Err fault.OutOfMemory)
    got_no_memory q h = record { gained = h.busy; gains = h.gains; from_source = busy_asks c gave a h.busy h.waited; got = inl h.waited }

    pub got_spent : (q : C) → HasWaited leads a p q asked.Spent → Gets leads c gave Sound a (seen p) p q (Err fault.Spent)
    got_spent q h = record {
      gained = h.busy ++ h.ask ∷ [];
      gains = h.gains;
      from_source = with_one c gave h.busy h.ask (busy_asks c gave a h.busy h.waited) (by_ask c gave a asked.Spent h.ask h.answer);
      got = record { busy = h.busy; ask = h.ask; all = refl; waited = h.waited; answer = h.answer };
    }

    -- A HIT
    pub got_kept : (q : C) (k : ℕ) (bytes : List ℕ) → HasWaited leads a p q (asked.Hit k bytes) → (Sound → bytes ≡ tile_text c k a)
        → Gets leads c gave Sound a (seen p) p q (Ok (record { hit = true; number = k; bytes = bytes }))
    got_kept q k bytes h truth =
        let facts = hit_facts (seen p) (seen q) h.busy h.ask [] (turns_of q (h.busy ++ h.ask ∷ []) h.gains) k bytes h.answer in
        let tile_is : Tile = record { hit = true; number = k; bytes = bytes } in
        let all : HasGot c Sound a (seen p) (h.busy ++ h.ask ∷ []) tile_is = record {
          busy = h.busy;
          ask = h.ask;
          ends = [];
          all = refl;
          waited = h.waited;
          from = inl (record { hit = refl; answer = h.answer; nothing = refl });
          newer_than_seen = facts.newer_than_seen;
          newer_than_found = facts.newer_than_found;
          fresh = facts.fresh;
          truth = truth;
        } in
        record { gained = h.busy ++ h.ask ∷ []; gains = h.gains; from_source = with_one c gave h.busy h.ask (busy_asks c gave a h.busy h.waited) (by_ask c gave a (asked.Hit k bytes) h.ask h.answer); got = all }

    -- A RENDER
    module _ (True : Type 0) (sure : Sound → True) (q r : C) (on : (xs ys : List (Made Note)) → leads p q xs → leads q r ys → leads p r (xs ++ ys)) (t : Ticketed) (h : HasWaited leads a p q (asked.Ticket t)) where
      whole : (end : Made Note) → leads q r (end ∷ []) → leads p r (h.busy ++ h.ask ∷ end ∷ [])
      whole end gains = subst (λ (ms : List (Made Note)). leads p r ms) (append_assoc h.busy (h.ask ∷ []) (end ∷ [])) (on (h.busy ++ h.ask ∷ []) (end ∷ []) h.gains gains)

      sourced : (end : Made Note) → IsFromSource c gave end.note.command → AreFromSource c gave (h.busy ++ h.ask ∷ end ∷ [])
      sourced end from = with_two c gave h.busy h.ask end (busy_asks c gave a h.busy h.waited) (by_ask c gave a (asked.Ticket t) h.ask h.answer) from

      abandoned : (back : GivesBack leads t q r) → HasAbandoned a (h.busy ++ h.ask ∷ back.end ∷ [])
      abandoned back = record { busy = h.busy; ask = h.ask; end = back.end; all = refl; waited = h.waited; ticket = t; answer = h.answer; ended = back.ended }

      handed : (got : Tile) → HandsIn leads c gave True a t q r got → Gets leads c gave Sound a (seen p) p r (Ok got)
      handed got made =
          let gains = whole made.end made.gains in
          let facts = ticket_facts (seen p) (seen r) h.busy h.ask (made.end ∷ []) (turns_of r (h.busy ++ h.ask ∷ made.end ∷ []) gains) t h.answer in
          record {
            gained = h.busy ++ h.ask ∷ made.end ∷ [];
            gains = gains;
            from_source = sourced made.end (by_finish c gave t made.blob made.end made.handed made.cut);
            got = record {
              busy = h.busy;
              ask = h.ask;
              ends = made.end ∷ [];
              all = refl;
              waited = h.waited;
              from = inr (record { miss = made.miss; ticket = t; number = made.number; answer = h.answer; blob = made.blob; long = made.long; part = made.part; end = made.end; handed = made.handed; one = refl });
              newer_than_seen = subst (λ (k : ℕ). IsNewerThanBook c a k (seen p)) (sym made.number) facts.newer_than_seen;
              newer_than_found = subst (λ (k : ℕ). IsNewerThanBook c a k h.ask.found) (sym made.number) facts.newer_than_found;
              fresh = subst (λ (k : ℕ). IsFresh c h.ask.note.after.state.history (length h.ask.note.before.state.history) a k) (sym made.number) facts.fresh;
              truth = λ e. made.truth (sure e);
            };
          }

      pub got_made : (result : Result Tile GetFault) → Makes leads c gave True a t q r result → Gets leads c gave Sound a (seen p) p r result
      got_made (Ok got) made = handed got made
      got_made (Err fault.SourceFault) back = record { gained = h.busy ++ h.ask ∷ back.end ∷ []; gains = whole back.end back.gains; from_source = sourced back.end (by_abandon c gave t back.end back.ended); got = abandoned back }
      got_made (Err fault.Spent) none = absurd none
      got_made (Err fault.OutOfMemory) back = record { gained = h.busy ++ h.ask ∷ back.end ∷ []; gains = whole back.end back.gains; from_source = sourced back.end (by_abandon c gave t back.end back.ended); got = inr (abandoned back) }
