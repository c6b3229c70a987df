-- An ask that found what a truncation left gives a render that is newer.
use Rattle.std.proofs.Common.{arith, ◌≡◌, ◌∙◌, ℕ, ◌<◌, ◌⊎◌, inl, inr, ⊎_elim, Bool, List, [], ◌∷◌, ◌++◌, sym, ap, subst}
use Rattle.std.proofs.lemmas.List.Elements.{Contains-append_cases}
use Rattle.std.specs.List.{AllByRecursion, Contains}
use Rattle.std.specs.Prelude.{IsTrue}
use Rattle.cabinet.specs.Hits.{covers_in}
use Rattle.cabinet.specs.State.{fronted, now}
use Rattle.cabinet.specs.declared.replies.Asked.{Asked}
use Rattle.cabinet.specs.declared.replies.Asked.TheVariants as asked
use Rattle.cabinet.specs.declared.replies.CutReply.{CutReply}
use Rattle.cabinet.specs.declared.replies.CutReply.TheVariants.{Done}
use Rattle.cabinet_chest.specs.declared.command.Command.{Command}
use Rattle.cabinet_chest.specs.declared.command.Command.TheVariants as command
use Rattle.cabinet_chest.specs.declared.command.Reply.{Reply}
use Rattle.cabinet_chest.specs.declared.command.Reply.TheVariants as reply
use Rattle.cabinet_chest.specs.declared.shown.Note.{Note}
use Rattle.cabinet_chest.specs.declared.shown.Shown.{Shown}
use Rattle.cabinet_chest.specs.Above.{IsAboveCovering}
use Rattle.cabinet_chest.specs.Replies.{IsAskedAbove, IsCutAnswered, IsReplyTo, MayReply, book_in}
use Rattle.cabinet_chest.proofs.Numbering.{all_covering, answered_below}
use Rattle.cache_access.specs.Turned.{AreTurns, IsTurn, left_by}
use Rattle.cache_hall.specs.Turned.{HallPass}
use Rattle.cache_access.proofs.Asked.{answered_by}
use Rattle.catalog.specs.declared.catalogue.Catalogue.{Catalogue}
use Rattle.catalog.specs.LookUp.{IsTile}
use Rattle.catalog.specs.Valid.{IsValid}
use Rattle.hall_sessions.specs.Exchanges.{AreExchanges, HallExchange, turns_of}
use Rattle.job_board.specs.Calls.{BoardHolding}
use Rattle.layer_recipes.specs.declared.book.RecipeBook.{RecipeBook}
use Rattle.matrix_geometry.specs.declared.address.Address.{Address}
use Rattle.truncation_list.specs.declared.book.Cut.{Cut}
use Rattle.truncation_list.specs.declared.book.FrontedBook.{FrontedBook}
use Rattle.truncation_list.specs.Books.{AnswersForFronted}
use Rattle.truncation_list.proofs.Answering.{answers_for_cut}
use Rattle.turnstile.specs.Line.{AreInLine, InLine, IsBefore}
use Rattle.turnstile.specs.declared.view.Made.{Made}
use Rattle.turnstile.proofs.Notes.{the_one}
use Rattle.server_workers.specs.Between.{AreNewer, GivesRender, IsAskFor, IsCutOf}
use Rattle.source_render.specs.Renders.{Renders}
use Rattle.server_workers.specs.Stints.{AreHeld, HeldSession, IsStint, Service, Stint, done_by, passes_of}

-- what is in a list is its first thing, or after it
first_or_later : {A : Type 0} (x y : A) (xs : List A) → Contains (x ∷ xs) y → (x ≡ y) ⊎ Contains xs y
first_or_later x y xs c = ⊎_elim (λ (d : Contains (x ∷ []) y). inl (the_one x y d)) (λ (d : Contains xs y). inr d) (Contains-append_cases (x ∷ []) xs y c)

-- TURNS AT A CABINET OF THE CATALOGUE

pub record IsTurnAt (c : Catalogue) (turn : Made Note) : Type 0 where
  pub told : Bool
  pub seen : FrontedBook
  pub is : IsTurn c told seen turn

-- all turns of a pass are such
abbrev pub HasTurnsAt : Catalogue → HallPass → Type 0
HasTurnsAt c pass = (turn : Made Note) → Contains pass.made turn → IsTurnAt c turn

-- a pass that has made nothing has none
pub no_turns : (c : Catalogue) (pass : HallPass) → pass.made ≡ [] → HasTurnsAt c pass
no_turns c pass none turn at = absurd (empty (subst (λ (ms : List (Made Note)). Contains ms turn) none at))
  where
    empty : Contains {X = Made Note} [] turn → ⊥
    empty (k, lt, _) = omega (arith, lt)

module _ (c : Catalogue) where
  pub of_turns : (told : Bool) (seen left : FrontedBook) (ms : List (Made Note)) → AreTurns c told seen ms left → (m : Made Note) → Contains ms m → IsTurnAt c m
  of_turns told seen left [] turns m (k, lt, _) = absurd (omega (arith, lt))
  of_turns told seen left (x ∷ xs) turns m at = ⊎_elim (λ (e : x ≡ m). subst (IsTurnAt c) e record { told = told; seen = seen; is = turns.0 }) (λ (d : Contains xs m). of_turns told (left_by x) left xs turns.1 m d) (first_or_later x m xs at)

  of_exchanges : (book : RecipeBook) (told : Bool) (seen : FrontedBook) (board : BoardHolding) (renders : Renders) (es : List HallExchange) (sees : FrontedBook) (board_after : BoardHolding) (after : Renders) → AreExchanges c book told seen board renders es sees board_after after
      → (m : Made Note) → Contains (turns_of es) m → IsTurnAt c m
  of_exchanges book told seen board renders [] sees board_after after are m (k, lt, _) = absurd (omega (arith, lt))
  of_exchanges book told seen board renders (e ∷ es) sees board_after after are m at =
      ⊎_elim (λ (mine : Contains e.gained m). of_turns told e.seen e.sees e.gained are.3.turns m mine)
      (λ (later : Contains (turns_of es) m). of_exchanges book told e.sees e.board_after e.renders_after es sees board_after after are.4 m later)
      (Contains-append_cases e.gained (turns_of es) m at)

  -- a pass that made more of them
  pub more_turns : (before after : HallPass) (gained : List (Made Note)) → after.made ≡ before.made ++ gained → HasTurnsAt c before → ((m : Made Note) → Contains gained m → IsTurnAt c m) → HasTurnsAt c after
  more_turns before after gained is had new m at =
      ⊎_elim (λ (old : Contains before.made m). had m old) (λ (d : Contains gained m). new m d) (Contains-append_cases before.made gained m (subst (λ (ms : List (Made Note)). Contains ms m) is at))

-- the turns of a stint
module _ {L S : Type 0} (s : Service L S) where
  of_sessions : (pass : HallPass) (board : BoardHolding) (renders : Renders) (hs : List (HeldSession L)) (left : HallPass) (board_after : BoardHolding) (after : Renders) → AreHeld s pass board renders hs left board_after after → HasTurnsAt s.catalogue pass → HasTurnsAt s.catalogue left
  of_sessions pass board renders [] left board_after after held had = subst (HasTurnsAt s.catalogue) (sym held.0) had
  of_sessions pass board renders (h ∷ hs) left board_after after held had =
      let session = held.3 in
      of_sessions h.pass_after h.board_after h.renders.after hs left board_after after held.4
      (more_turns s.catalogue h.pass h.pass_after (turns_of session.exchanges) (ap (λ (p : HallPass). p.made) session.made) (subst (HasTurnsAt s.catalogue) (sym held.0) had)
      (of_exchanges s.catalogue s.recipes h.pass.told h.pass.book h.board h.renders.before session.exchanges h.pass_after.book h.board_after h.renders.after session.served))

  pub of_stints : (ts : List (Stint L)) → s.first.made ≡ [] → AllByRecursion (IsStint s) ts → (p : HallPass) → Contains (passes_of ts) p → HasTurnsAt s.catalogue p
  of_stints [] none are p (k, lt, _) = absurd (omega (arith, lt))
  of_stints (t ∷ ts) none are p among = ⊎_elim
      (λ (e : t.pass ≡ p). subst (HasTurnsAt s.catalogue) e (of_sessions s.first are.0.board_before (done_by s.sources are.0.source_before) t.sessions t.pass t.board (done_by s.sources are.0.source_after) are.0.held (no_turns s.catalogue s.first none)))
      (λ (later : Contains (passes_of ts) p). of_stints ts none are.1 p later) (first_or_later t.pass p (passes_of ts) among)

-- NEWER, OR BEFORE

-- a truncation that was made is in the book that its turn left
cut_same : (x y : CutReply) → reply.Cut x ≡ reply.Cut y → y ≡ x
cut_same x y e = cc

module _ (c : Catalogue) (told : Bool) (b a : Shown) (t : Cut) where
  listed_in : IsReplyTo c told b a (command.Cut t.cover) (reply.Cut (Done t.number)) → Contains (book_in a).cuts t
  listed_in h =
      let answered : IsCutAnswered b a t.cover (Done t.number) = subst (λ (y : CutReply). IsCutAnswered b a t.cover y) (cut_same (Done t.number) h.0 h.1) h.2 in
      answered.above.1

  listed_by : (does : Command) (r : Reply) → does ≡ command.Cut t.cover → r ≡ reply.Cut (Done t.number) → MayReply c told b a does r → Contains (book_in a).cuts t
  listed_by does r is_cut is_done may = listed_in (subst (λ (z : Reply). IsReplyTo c told b a (command.Cut t.cover) z) is_done (subst (λ (d : Command). IsReplyTo c told b a d r) is_cut may.answer))

-- the render that an ask gives is above the truncations of the book that it found which cover the tile
above_covering : (c : Catalogue) (b : Shown) (a : Address) (answer : Asked) (number : ℕ) → IsAskedAbove c (book_in b) a answer → GivesRender answer number → IsAboveCovering c (book_in b) a number
above_covering c b a (asked.Hit k bytes) number above gives = subst (IsAboveCovering c (book_in b) a) gives above
above_covering c b a (asked.Ticket t) number above gives = subst (IsAboveCovering c (book_in b) a) gives (all_covering c (book_in b) a t.number above)
above_covering c b a (asked.Busy k) number above gives = absurd gives
above_covering c b a asked.Spent number above gives = absurd gives

other_command : (a : Address) (t : Cut) → command.Ask a ≡ command.Cut t.cover → ⊥
other_command a t e = absurd (cc)

newer_or_before : (c : Catalogue) → IsValid c → (ask cut : Made Note) (a : Address) (number : ℕ) (t : Cut) → IsTile c a → IsTurnAt c ask → IsTurnAt c cut → InLine ask cut → IsAskFor a number ask → IsCutOf t cut → IsTrue (covers_in c t.cover a)
    → (t.number < number) ⊎ IsBefore ask cut
newer_or_before c valid ask cut a number t tile at at' (inl before) for of covers = inr before
newer_or_before c valid ask cut a number t tile at at' (inr (inr same)) for of covers = absurd (other_command a t (sym for.of.command ∙ (ap (λ (m : Made Note). m.note.command) same ∙ of.command)))
newer_or_before c valid ask cut a number t tile at at' (inr (inl after)) for of covers =
    let answered = answered_by c at.told ask.note.before ask.note.after a for.answer ask.note.command ask.note.reply for.of.command for.of.reply at.is.reply in
    let above = above_covering c ask.note.before a for.answer number answered.above for.gives in
    let listed : Contains (book_in cut.note.after).cuts t = listed_by c at'.told cut.note.before cut.note.after t cut.note.command cut.note.reply of.command of.reply at'.is.reply in
    let left : AnswersForFronted ask.found (fronted (now cut.note.after.state)) = subst (AnswersForFronted ask.found) at'.is.left after in
    let found : AnswersForFronted (fronted (now ask.note.before.state)) (fronted (now cut.note.after.state)) = subst (λ (f : FrontedBook). AnswersForFronted f (fronted (now cut.note.after.state))) at.is.found left in
    inl (answered_below c a valid tile (book_in ask.note.before) number t above (answers_for_cut (book_in ask.note.before) (book_in cut.note.after) t found.book (inl listed)) covers)

-- passes whose turns stand in one line
pub are_newer : (c : Catalogue) (passes : List HallPass) → IsValid c → ((p : HallPass) → Contains passes p → HasTurnsAt c p) → AreInLine passes → AreNewer c passes
are_newer c passes valid turns line p q cp cq ask cut ca cc' a number t tile for of covers =
    newer_or_before c valid ask cut a number t tile (turns p cp ask ca) (turns q cq cut cc') (line p q cp cq ask cut ca cc') for of covers
