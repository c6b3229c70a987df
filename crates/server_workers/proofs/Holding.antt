-- Sessions that a worker held, and one more.
use Rattle.std.proofs.Common.{◌≡◌, ◌∙◌, ◌<◌, ℕ, List, [], ◌∷◌, ◌++◌, append_assoc, refl, sym, ap, subst, arith}
use Rattle.std.proofs.lemmas.List.{map-append}
use Rattle.std.specs.Prelude.{Option, Some}
use Rattle.atomic_table.specs.Seated.{TableId}
use Rattle.cache_hall.specs.Turned.{HallPass, IsPassOf}
use Rattle.catalog.specs.declared.catalogue.Catalogue.{Catalogue}
use Rattle.crossbeam_queue.specs.Passes.{Pass, view}
use Rattle.job_board.specs.Calls.{BoardHolding, IsBoardPass}
use Rattle.link_queue.specs.Hands.{IsHand, hand, with_taken}
use Rattle.link_queue.specs.declared.hand.QueueHand.{QueueHand}
use Rattle.server_workers.specs.Crew.{HasHeldSessions, IsNew, IsWorkerReady}
use Rattle.server_workers.specs.Stints.{AreHeld, HeldSession, IsHeld, IsStint, Service, done_by, links_of}
use Rattle.source_render.specs.Renders.{Renders}

module _ {L S : Type 0} (s : Service L S) where
  -- a session more at the end
  held_then : (pass : HallPass) (board : BoardHolding) (renders : Renders) (hs : List (HeldSession L)) (pass' : HallPass) (board' : BoardHolding) (renders' : Renders) (h : HeldSession L) → AreHeld s pass board renders hs pass' board' renders' → h.pass ≡ pass' → h.board ≡ board'
      → h.renders.before ≡ renders' → IsHeld s h → AreHeld s pass board renders (hs ++ h ∷ []) h.pass_after h.board_after h.renders.after
  held_then pass board renders [] pass' board' renders' h held p b r is = (p ∙ held.0, b ∙ held.1, r ∙ held.2, is, (refl, refl, refl))
  held_then pass board renders (x ∷ xs) pass' board' renders' h held p b r is =
      (held.0, held.1, held.2, held.3, held_then x.pass_after x.board_after x.renders.after xs pass' board' renders' h held.4 p b r is)

  pub worked_once_more : (before : QueueHand L) (pass : HallPass) (board : BoardHolding) (source source' : S) (mine later : Pass L (QueueHand L)) (h : HeldSession L) → HasHeldSessions s before pass board source mine → view later ≡ with_taken (view mine) h.link → h.pass ≡ pass → h.board ≡ board
      → h.renders.before ≡ done_by s.sources source → h.renders.after ≡ done_by s.sources source' → IsHeld s h → HasHeldSessions s before h.pass_after h.board_after source' later
  worked_once_more before pass board source source' mine later h w took p b r r' is = record {
    sessions = w.sessions ++ h ∷ [];
    board_before = w.board_before;
    at_board = w.at_board;
    source_before = w.source_before;
    held = subst (AreHeld s s.first w.board_before (done_by s.sources w.source_before) (w.sessions ++ h ∷ []) h.pass_after h.board_after) r' (held_then s.first w.board_before (done_by s.sources w.source_before) w.sessions pass board (done_by s.sources source) h w.held p b r is);
    took = took ∙ ap (λ (v : QueueHand L). with_taken v h.link) w.took
        ∙ ap (hand before.parts before.put) (append_assoc before.taken (links_of w.sessions) (h.link ∷ []) ∙ ap (λ (xs : List L). before.taken ++ xs) (sym (map-append (λ (x : HeldSession L). x.link) w.sessions (h ∷ []))));
  }

  -- nothing at first
  pub new_has_worked : (queue : TableId) (tells : Option ℕ) (pass : HallPass) (board : BoardHolding) (source : S) (mine : Pass L (QueueHand L)) → IsNew queue s tells pass board mine → HasHeldSessions s (hand 1 [] []) pass board source mine
  new_has_worked queue tells pass board source mine new =
      record { sessions = []; board_before = board; at_board = new.at_board; source_before = source; held = (new.pass_is, refl, refl); took = new.hand_is.knows }

  -- what a worker held from its first hand on is a stint
  pub stint_of : (before : QueueHand L) (pass : HallPass) (board : BoardHolding) (source : S) (mine : Pass L (QueueHand L)) (w : HasHeldSessions s before pass board source mine) → IsStint s (record { sessions = w.sessions; pass = pass; board = board })
  stint_of before pass board source mine w =
      record { board_before = w.board_before; at_board = w.at_board; source_before = w.source_before; source_after = source; held = w.held }

  -- a new worker may serve
  pub new_is_ready : (queue table : TableId) (tells : Option ℕ) (pass : HallPass) (board : BoardHolding) (mine : Pass L (QueueHand L)) → s.first.table ≡ table → s.first.charter ≡ Some s.catalogue → IsNew queue s tells pass board mine → IsWorkerReady queue table s.board s.catalogue tells pass board mine
  new_is_ready queue table tells pass board mine at charter new = record {
    of = record { same_table = ap (λ (p : HallPass). p.table) new.pass_is ∙ at; charter = ap (λ (p : HallPass). p.charter) new.pass_is ∙ charter };
    at_board = new.at_board.of;
    source = λ told. new.source (sym (ap (λ (p : HallPass). p.told) new.pass_is) ∙ told);
    at_queue = record { of = new.hand_is.of; carries = new.hand_is.carries; knows = refl };
    parts = subst (λ (v : QueueHand L). 0 < v.parts) (sym new.hand_is.knows) (omega arith);
  }

-- after a session over a link that it took a worker may serve again
pub ready_after : {L : Type 0} (queue table at : TableId) (c : Catalogue) (tells tells' : Option ℕ) (pass pass' : HallPass) (board board' : BoardHolding) (link : L) (mine later : Pass L (QueueHand L)) → IsWorkerReady queue table at c tells pass board mine → IsPassOf table c pass' → IsBoardPass at board'
    → pass'.told ≡ pass.told → tells' ≡ tells → IsHand queue (with_taken (view mine) link) later → IsWorkerReady queue table at c tells' pass' board' later
ready_after queue table at c tells tells' pass pass' board board' link mine later ready of at_board mark same took = record {
  of = of;
  at_board = at_board;
  source = λ told. same ∙ ready.source (sym mark ∙ told);
  at_queue = record { of = took.of; carries = took.carries; knows = refl };
  parts = subst (λ v. 0 < v.parts) (sym took.knows) ready.parts;
}
