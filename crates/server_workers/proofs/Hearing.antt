-- What who runs jobs has heard of the board.
use Rattle.std.proofs.Common.{◌∙◌, List, [], ◌∷◌, ◌++◌, append-nil, refl, sym, ap, subst}
use Rattle.std.proofs.lemmas.List.Elements.{All-cons, All-head, All-nil, All-tail, All-weaker}
use Rattle.std.specs.List.{All}
use Rattle.atomic_table.specs.Seated.{TableId}
use Rattle.catalog.specs.declared.catalogue.Catalogue.{Catalogue}
use Rattle.job_board.specs.declared.shown.BoardNote.{BoardNote}
use Rattle.job_board.specs.Calls.{BoardHolding}
use Rattle.seed_jobs.specs.Idles.{HasHeard, Idle, IsStandbyReady, MayJoin, Standby}
use Rattle.truncation_list.specs.Books.{AnswersForFronted}
use Rattle.truncation_list.specs.declared.book.FrontedBook.{FrontedBook}
use Rattle.truncation_list.proofs.Answering.{fronted_itself, fronted_through}
use Rattle.turnstile.specs.declared.view.Made.{Made}
use Rattle.turnstile.specs.Passes.{seen_by}

abbrev as_pass : BoardHolding → FrontedBook → List (Made BoardNote) → BoardHolding
as_pass p book made = record { table = p.table; charter = p.charter; told = p.told; book = book; made = made }

-- nothing at first
pub hears_none : (r : Standby) → HasHeard r r []
hears_none r = record {
  idle = refl;
  is = ap (as_pass r.board r.board.book) (sym (append-nil r.board.made));
  mine = fronted_itself r.board.book;
  theirs = All-nil (λ (p : BoardHolding). AnswersForFronted r.board.book p.book);
}

-- and what one pass more knows
pub hears_one : (before mid after : Standby) (other : BoardHolding) (others : List BoardHolding) → HasHeard before mid others → HasHeard mid after (other ∷ []) → HasHeard before after (other ∷ others)
hears_one before mid after other others had more =
    let knows : BoardHolding → Type 0 = λ p. AnswersForFronted after.board.book p.book in
    record {
      idle = more.idle ∙ had.idle;
      is = more.is ∙ ap (λ (p : BoardHolding). seen_by p after.board.book []) had.is ∙ ap (as_pass before.board after.board.book) (append-nil (before.board.made ++ []));
      mine = fronted_through after.board.book mid.board.book before.board.book more.mine had.mine;
      theirs = All-cons knows other others (All-head knows other [] more.theirs)
          (All-weaker (λ (p : BoardHolding). AnswersForFronted mid.board.book p.book) knows (λ p h. fronted_through after.board.book mid.board.book p.book more.mine h) others had.theirs);
    }

-- what it had heard it knows after it heard one pass more
pub hears_on : (before mid after : Standby) (other : BoardHolding) (others : List BoardHolding) → HasHeard before mid others → HasHeard mid after (other ∷ []) → HasHeard before after others
hears_on before mid after other others had more =
    let all = hears_one before mid after other others had more in
    record { idle = all.idle; is = all.is; mine = all.mine; theirs = All-tail (λ (p : BoardHolding). AnswersForFronted after.board.book p.book) other others all.theirs }

-- whom it told then knows all that it had heard
pub tells_on : (mid : Standby) (told : BoardHolding) (others : List BoardHolding) → All (λ (p : BoardHolding). AnswersForFronted mid.board.book p.book) others → AnswersForFronted told.book mid.board.book → All (λ (p : BoardHolding). AnswersForFronted told.book p.book) others
tells_on mid told others heard more =
    All-weaker (λ (p : BoardHolding). AnswersForFronted mid.board.book p.book) (λ (p : BoardHolding). AnswersForFronted told.book p.book) (λ p h. fronted_through told.book mid.board.book p.book more h) others heard

-- it may run jobs as before
pub ready_heard : (boards table : TableId) (c : Catalogue) (before after : Standby) (others : List BoardHolding) → IsStandbyReady boards table c before → HasHeard before after others → IsStandbyReady boards table c after
ready_heard boards table c before after others ready heard = record {
  of_board = record { same_table = ap (λ (p : BoardHolding). p.table) heard.is ∙ ready.of_board.same_table; charter = ap (λ (p : BoardHolding). p.charter) heard.is ∙ ready.of_board.charter };
  idle = subst (λ (is : List Idle). All (MayJoin table c) is) (sym heard.idle) ready.idle;
}
