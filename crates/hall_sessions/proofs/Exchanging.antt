-- A session that was served over a hall and a board: what its exchanges come to.
use Rattle.std.proofs.Common.{ℕ, ◌≡◌, ◌+◌, Bool, List, [], ◌∷◌, refl, sym, ap, subst, ◌∙◌, append_assoc, append-nil}
use Rattle.std.specs.Io.KnownBytes.{prepend_known}
use Rattle.catalog.specs.declared.catalogue.Catalogue.{Catalogue}
use Rattle.http_wire.specs.declared.message.Message.{Message}
use Rattle.http_wire.specs.Streams.{StandIn}
use Rattle.job_board.specs.Calls.{BoardHolding}
use Rattle.layer_recipes.specs.declared.book.RecipeBook.{RecipeBook}
use Rattle.truncation_list.specs.declared.book.FrontedBook.{FrontedBook}
use Rattle.cabinet_chest.specs.declared.shown.Note.{Note}
use Rattle.turnstile.specs.declared.view.Made.{Made}
use Rattle.turnstile.specs.Passes.{seen_by}
use Rattle.cache_hall.specs.Turned.{HallPass}
use Rattle.source_render.specs.Renders.{Renders}
use Rattle.sessions.specs.declared.session.SessionEnd.{SessionEnd}
use Rattle.sessions.specs.Exchanges.{AreServed, ServerStanding, responses_of}
use Rattle.sessions.specs.Exchanges as sessions
use Rattle.sessions.specs.Outside.{InputChange, OutputChange}
use Rattle.sessions.specs.SessionEnds.{Ends}
use Rattle.sessions.specs.Sessions.{IsHeld}
use Rattle.tile_requests.specs.declared.outcome.Outcome.{Outcome}
use Rattle.tile_service.specs.Session.{responses}
use Rattle.hall_sessions.specs.Exchanges.{AreExchanges, HallExchange, answers_of, messages_of, turns_of}
use Rattle.hall_sessions.specs.Served.{ServesLater, ServesOverHall}
use Rattle.hall_sessions.specs.Sessions.{HasHallSession}
use Rattle.hall_sessions.proofs.Causing.{have_answers}

-- how a hall and a board stand between two messages
abbrev Hall : Type 0
Hall = ServerStanding HallPass BoardHolding

-- the mark of being told stays
pub marked : {c : Catalogue} {recipes : RecipeBook} {before after : Renders} {m : Message} {p q : HallPass} {board board_after : BoardHolding} {o : Outcome} → ServesOverHall c recipes before after m p q board board_after o → q.told ≡ p.told
marked serves = ap (λ (x : HallPass). x.told) serves.gains.is

-- the pass with these turns
abbrev with_turns : HallPass → FrontedBook → List (Made Note) → HallPass
with_turns p book turns = record { table = p.table; charter = p.charter; told = p.told; book = book; made = turns }

-- what these exchanges of a session came to at the hall and at the board, the first of which is that at this place
pub record HaveExchanged (c : Catalogue) (recipes : RecipeBook) (document : List ℕ) (i : ℕ) (now last : Hall) (es : List (sessions.Exchange HallPass BoardHolding)) : Type 0 where
  pub exchanges : List HallExchange
  pub made : last.cache ≡ seen_by now.cache last.cache.book (turns_of exchanges)
  pub served : AreExchanges c recipes now.cache.told now.cache.book now.jobs now.renders exchanges last.cache.book last.jobs last.renders
  pub are_messages : sessions.messages_of es ≡ messages_of exchanges
  pub are_responses : responses_of document i es ≡ responses document (answers_of i exchanges)

module _ (c : Catalogue) (recipes : RecipeBook) (document : List ℕ) where
  none_exchanged : (i : ℕ) (now : Hall) → HaveExchanged c recipes document i now now []
  none_exchanged i now = record {
    exchanges = [];
    made = ap (λ turns. with_turns now.cache now.cache.book turns) (sym (append-nil now.cache.made));
    served = (refl, refl, refl);
    are_messages = refl;
    are_responses = refl;
  }

  pub exchanged : (i : ℕ) (now last : Hall) (es : List (sessions.Exchange HallPass BoardHolding)) → AreServed (ServesLater c recipes) now es last → HaveExchanged c recipes document i now last es
  exchanged i now last [] are = subst (λ (s : Hall). HaveExchanged c recipes document i now s []) (sym are) (none_exchanged i now)
  exchanged i now last (e ∷ es) are =
      let serves = subst (λ (s : Hall). ServesLater c recipes e.message e.outcome s e.after) are.0 are.1 in
      let first = serves.0 in
      let others = exchanged (i + 1) e.after last es are.2 in
      let it : HallExchange = record { message = e.message; request = first.request; gained = first.gained; came_to = e.outcome; left = e.left; seen = now.cache.book; sees = e.after.cache.book; board_before = now.jobs; board_after = e.after.jobs; renders_before = now.renders; renders_after = e.after.renders } in
      record {
        exchanges = it ∷ others.exchanges;
        made =
            others.made
            ∙ ap (λ (p : HallPass). seen_by p last.cache.book (turns_of others.exchanges)) first.gains.is
            ∙ ap (λ turns. with_turns now.cache last.cache.book turns) (append_assoc now.cache.made first.gained (turns_of others.exchanges));
        served = (
          refl,
          refl,
          refl,
          record { served = first.served; turns = first.gains.turns; from_source = first.from_source; goes_on = serves.1; cause = first.cause },
          subst (λ (told : Bool). AreExchanges c recipes told e.after.cache.book e.after.jobs e.after.renders others.exchanges last.cache.book last.jobs last.renders) (marked first) others.served,
        );
        are_messages = ap (λ ms. e.message ∷ ms) others.are_messages;
        are_responses = ap (λ them. sessions.response_at document i e ∷ them) others.are_responses;
      }

  -- a session that was held by such a server is one over the hall and the board
  pub has_session : {i : InputChange} {o : OutputChange} {start last : Hall} {end : SessionEnd} → IsHeld (ServesLater c recipes) i o document start last end
      → HasHallSession i o (record { before = start.renders; after = last.renders }) document c recipes start.cache last.cache start.jobs last.jobs end
  has_session {i = i} {o = o} {start = start} {last = last} {end = end} x =
      let h = exchanged 1 start last x.exchanges x.served in
      record {
        exchanges = h.exchanges;
        held = x.held;
        stand = subst (λ (ms : List Message). StandIn i.from ms (prepend_known x.held i.to)) h.are_messages x.stand;
        made = h.made;
        served = h.served;
        answered = have_answers c recipes start.cache.told start.cache.book start.jobs start.renders h.exchanges last.cache.book last.jobs last.renders h.served;
        ends =
            subst (λ (ms : List Message). Ends i o ms (responses document (answers_of 1 h.exchanges)) x.held (prepend_known x.held i.to) end) h.are_messages
            (subst (λ (them : List (List ℕ)). Ends i o (sessions.messages_of x.exchanges) them x.held (prepend_known x.held i.to) end) h.are_responses x.ends);
      }
