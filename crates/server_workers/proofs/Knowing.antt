-- What a place at the board knows of the jobs that were submitted from it.
use Rattle.std.proofs.Common.{arith, ◌≡◌, ◌∙◌, ℕ, suc, ◌+◌, ◌≤◌, ◌-◌, inl, inr, ⊎_elim, Bool, List, [], ◌∷◌, ◌++◌, length, length-append, append-nil, Option, Some, None, sym, ap, subst}
use Rattle.std.proofs.lemmas.List.Elements.{All-contains, Contains-append_cases}
use Rattle.std.specs.List.{All, AllByRecursion, Contains}
use Rattle.std.specs.Prelude.{◌⊎◌, MatchOption}
use Rattle.cabinet_chest.specs.declared.shown.Note as hall
use Rattle.cache_hall.specs.Turned.{HallPass}
use Rattle.catalog.specs.declared.catalogue.Catalogue.{Catalogue}
use Rattle.hall_sessions.specs.Exchanges.{AreExchanges, HallExchange}
use Rattle.hall_sessions.specs.Served.{IsCacheMessageServed, IsJobMessageServed, IsMessageServed}
use Rattle.http_wire.specs.declared.message.Message.{Message}
use Rattle.job_board.specs.declared.shown.BoardCommand.{BoardCommand}
use Rattle.job_board.specs.declared.shown.BoardCommand.TheVariants as command
use Rattle.job_board.specs.declared.shown.BoardNote.{BoardNote}
use Rattle.job_board.specs.declared.shown.BoardReply.{BoardReply}
use Rattle.job_board.specs.declared.shown.BoardReply.TheVariants as reply
use Rattle.job_board.specs.declared.shown.BoardShown.{BoardShown}
use Rattle.job_board.specs.Boards.{BoardMayReply, Submits, book_of}
use Rattle.job_board.specs.Calls.{BoardHolding, MakesNone, MakesOne}
use Rattle.job_requests.specs.declared.request.JobRequest.{JobRequest}
use Rattle.job_requests.specs.declared.request.JobRequest.TheVariants as request
use Rattle.job_requests.specs.Routes.{request_for}
use Rattle.job_requests.specs.Served.{AreAllJobs, AreLooks, IsLookServed, ServesJob}
use Rattle.job_board.specs.declared.status.JobStatus.{JobStatus}
use Rattle.layer_recipes.specs.declared.book.RecipeBook.{RecipeBook}
use Rattle.seed_jobs.proofs.History.{turn_knows}
use Rattle.tile_requests.specs.declared.outcome.Outcome.{Outcome}
use Rattle.tile_requests.specs.declared.request.Request.{Request}
use Rattle.truncation_list.specs.declared.book.FrontedBook.{FrontedBook}
use Rattle.truncation_list.specs.Books.{AnswersForFronted}
use Rattle.truncation_list.proofs.Answering.{fronted_itself, fronted_through}
use Rattle.turnstile.specs.declared.view.Made.{Made}
use Rattle.turnstile.proofs.Notes.{the_one}
use Rattle.server_workers.specs.Cancelled.{AreCancelled, HasStoppedTo, IsSubmit}
use Rattle.source_render.specs.Renders.{GivenImage, Renders}
use Rattle.server_workers.specs.Stints.{AreHeld, HeldSession, IsStint, Service, Stint, boards_of, done_by}
use Rattle.server_workers.proofs.Stopping.{stop_of}

-- THE TURNS OF A PLACE

-- the turn was answered by its row, and this book knows the jobs of the board that it left
pub record IsKnown (seen : FrontedBook) (turn : Made BoardNote) : Type 0 where
  pub answer : BoardMayReply turn.note.before turn.note.command turn.note.reply turn.note.after
  pub knows : AnswersForFronted seen (book_of turn.note.after)

abbrev KnowsOwn : BoardHolding → Type 0
KnowsOwn p = (turn : Made BoardNote) → Contains p.made turn → IsKnown p.book turn

known_later : (seen later : FrontedBook) (turn : Made BoardNote) → AnswersForFronted later seen → IsKnown seen turn → IsKnown later turn
known_later seen later turn more is = record { answer = is.answer; knows = fronted_through later seen (book_of turn.note.after) more is.knows }

no_turns : (p : BoardHolding) → p.made ≡ [] → KnowsOwn p
no_turns p none turn at = absurd (empty (subst (λ (ms : List (Made BoardNote)). Contains ms turn) none at))
  where
    empty : Contains {X = Made BoardNote} [] turn → ⊥
    empty (k, lt, _) = omega (arith, lt)

none_more : (before after : BoardHolding) → MakesNone before after → KnowsOwn before → KnowsOwn after
none_more before after makes had turn at =
    known_later before.book after.book turn makes.answers (had turn (subst (λ (ms : List (Made BoardNote)). Contains ms turn) (ap (λ (p : BoardHolding). p.made) makes.is ∙ append-nil before.made) at))

one_more : (before after : BoardHolding) (does : BoardCommand) (answer : BoardReply) → MakesOne before after does answer → KnowsOwn before → KnowsOwn after
one_more before after does answer one had turn at =
    let left : FrontedBook = book_of one.turn.note.after in
    let there : after.book ≡ left = ap (λ (p : BoardHolding). p.book) one.is in
    let mine : IsKnown left one.turn = record { answer = one.may.reply; knows = fronted_itself left } in
    subst (λ (b : FrontedBook). IsKnown b turn) (sym there)
    (⊎_elim
    (λ (old : Contains before.made turn). known_later before.book left turn (turn_knows before.book one.turn one.may) (had turn old))
    (λ (new : Contains (one.turn ∷ []) turn). subst (IsKnown left) (the_one one.turn turn new) mine)
    (Contains-append_cases before.made (one.turn ∷ []) turn (subst (λ (ms : List (Made BoardNote)). Contains ms turn) (ap (λ (p : BoardHolding). p.made) one.is) at)))

same_place : (before after : BoardHolding) → after ≡ before → KnowsOwn before → KnowsOwn after
same_place before after same had = subst KnowsOwn (sym same) had

-- MESSAGES

after_look : (n : ℕ) (before after : BoardHolding) (o : Outcome) → IsLookServed n before after o → KnowsOwn before → KnowsOwn after
after_look n before after o look had = one_more before after (command.Look n) (reply.Look look.0) look.2 had

after_looks : (n : ℕ) (found : List JobStatus) (before after : BoardHolding) → AreLooks n found before after → KnowsOwn before → KnowsOwn after
after_looks n [] before after same had = same_place before after same had
after_looks n (s ∷ found) before after looks had = after_looks (suc n) found looks.0 after looks.2 (one_more before looks.0 (command.Look n) (reply.Look (Some s)) looks.1 had)

after_all : (found : List JobStatus) (before after : BoardHolding) → AreAllJobs found before after → KnowsOwn before → KnowsOwn after
after_all found before after (inl one) had = one_more before after (command.Look (length found + 1)) (reply.Look None) one had
after_all found before after (inr same) had = same_place before after same.1 had

after_statuses : (found : List JobStatus) (before between after : BoardHolding) (Told Untold : Type 0) → AreLooks 1 found before between → (AreAllJobs found between after × Told) ⊎ ((after ≡ between) × Untold) → KnowsOwn before → KnowsOwn after
after_statuses found before between after Told Untold looks (inl all) had = after_all found between after all.0 (after_looks 1 found before between looks had)
after_statuses found before between after Told Untold looks (inr none) had = same_place between after none.0 (after_looks 1 found before between looks had)

after_request : (c : Catalogue) (r : JobRequest) (before after : BoardHolding) (o : Outcome) → ServesJob c r before after o → KnowsOwn before → KnowsOwn after
after_request c (request.Submission job) before after o (inl one) had = one_more before after _ _ one.2 had
after_request c (request.Submission job) before after o (inr none) had = none_more before after none.0 had
after_request c (request.Unformed fault) before after o none had = same_place before after none.0 had
after_request c (request.Look n) before after o look had = after_look n before after o look had
after_request c (request.Stop n) before after o (inl one) had = one_more before after _ _ one.0 had
after_request c (request.Stop n) before after o (inr two) had = after_look n two.0 after o two.2 (one_more before two.0 _ _ two.1 had)
after_request c (request.Status n) before after o look had = one_more before after (command.Look n) (reply.Look look.0) look.2 had
after_request c request.Statuses before after o all had = after_statuses all.found before all.between after _ _ all.looks all.told had
after_request c request.NotFound before after o none had = same_place before after none.0 had
after_request c request.WrongMethod before after o none had = same_place before after none.0 had

after_job_message : (c : Catalogue) (r : JobRequest) (gained : List (Made hall.Note)) (before after : BoardHolding) (o : Outcome) → IsJobMessageServed c r gained before after o → KnowsOwn before → KnowsOwn after
after_job_message c r gained before after o (inl served) had = after_request c r before after o served.1 had
after_job_message c r gained before after o (inr unread) had = same_place before after unread.1 had

-- one for jobs, or another one
after_either : (c : Catalogue) (r : Option JobRequest) (gained : List (Made hall.Note)) (before after : BoardHolding) (o : Outcome) (Other Unasked : Type 0) → MatchOption r (Other × (after ≡ before)) (λ j. IsJobMessageServed c j gained before after o × Unasked) → KnowsOwn before
    → KnowsOwn after
after_either c None gained before after o Other Unasked served had = same_place before after served.1 had
after_either c (Some r) gained before after o Other Unasked served had = after_job_message c r gained before after o served.0 had

after_message : (c : Catalogue) (gave : List GivenImage) (book : RecipeBook) (told : Bool) (seen : FrontedBook) (m : Message) (asked : Option Request) (gained : List (Made hall.Note)) (before after : BoardHolding) (o : Outcome) → IsMessageServed c gave book told seen m asked gained before after o → KnowsOwn before → KnowsOwn after
after_message c gave book told seen m asked gained before after o served had = after_either c (request_for c m) gained before after o (IsCacheMessageServed c gave book told seen m asked gained o) (asked ≡ None) served had

-- SESSIONS

after_exchanges : (c : Catalogue) (book : RecipeBook) (told : Bool) (seen : FrontedBook) (board : BoardHolding) (renders : Renders) (es : List HallExchange) (sees : FrontedBook) (board_after : BoardHolding) (after : Renders) → AreExchanges c book told seen board renders es sees board_after after → KnowsOwn board → KnowsOwn board_after
after_exchanges c book told seen board renders [] sees board_after after are had = same_place board board_after are.1 had
after_exchanges c book told seen board renders (e ∷ es) sees board_after after are had =
    after_exchanges c book told e.sees e.board_after e.renders_after es sees board_after after are.4 (after_message c e.renders_after.gave book told e.seen e.message e.request e.gained e.board_before e.board_after e.came_to are.3.served (same_place board e.board_before are.1 had))

module _ {L S : Type 0} (s : Service L S) where
  after_sessions : (pass : HallPass) (board : BoardHolding) (renders : Renders) (hs : List (HeldSession L)) (left : HallPass) (board_after : BoardHolding) (after : Renders) → AreHeld s pass board renders hs left board_after after → KnowsOwn board → KnowsOwn board_after
  after_sessions pass board renders [] left board_after after held had = same_place board board_after held.1 had
  after_sessions pass board renders (h ∷ hs) left board_after after held had =
      let session = held.3 in
      after_sessions h.pass_after h.board_after h.renders.after hs left board_after after held.4
      (after_exchanges s.catalogue s.recipes h.pass.told h.pass.book h.board h.renders.before session.exchanges h.pass_after.book h.board_after h.renders.after session.served (same_place board h.board held.1 had))

  of_stints : (ts : List (Stint L)) → AllByRecursion (IsStint s) ts → (p : BoardHolding) → Contains (boards_of ts) p → KnowsOwn p
  of_stints [] are p (k, lt, _) = absurd (omega (arith, lt))
  of_stints (t ∷ ts) are p among = ⊎_elim
      (λ (mine : Contains (t.board ∷ []) p). subst KnowsOwn (the_one t.board p mine)
      (after_sessions s.first are.0.board_before (done_by s.sources are.0.source_before) t.sessions t.pass t.board (done_by s.sources are.0.source_after) are.0.held (no_turns are.0.board_before are.0.at_board.nothing)))
      (λ (later : Contains (boards_of ts) p). of_stints ts are.1 p later) (Contains-append_cases (t.board ∷ []) (boards_of ts) p among)

-- THE JOBS THAT WERE SUBMITTED

-- the number of such a job, as a board that knows it has it
pub record IsOfKnown (seen : FrontedBook) (n : ℕ) : Type 0 where
  pub least : 1 ≤ n
  pub most : n ≤ 1024
  pub known : n ≤ seen.front

same_submit : (x y : Option ℕ) → reply.Submit x ≡ reply.Submit y → y ≡ x
same_submit x y e = cc

submitted : (seen : FrontedBook) (turn : Made BoardNote) (n : ℕ) → IsKnown seen turn → IsSubmit n turn → IsOfKnown seen n
submitted seen turn n is submit =
    let b = turn.note.before in
    let a = turn.note.after in
    let may : BoardMayReply b (command.Submit submit.job submit.places) (reply.Submit (Some n)) a =
    subst (λ (r : BoardReply). BoardMayReply b (command.Submit submit.job submit.places) r a) submit.gets (subst (λ (d : BoardCommand). BoardMayReply b d turn.note.reply a) submit.does is.answer) in
    let row : Submits b submit.job submit.places (Some n) a = subst (λ (x : Option ℕ). Submits b submit.job submit.places x a) (same_submit (Some n) may.0 may.1) may.2 in
    let room = row.1 in
    let next = row.2 in
    let left : length a.watches ≡ length (b.watches ++ row.3.1 ∷ []) = ap (λ (x : BoardShown). length x.watches) row.3.3 in
    let front = is.knows.front in
    record { least = omega (arith, next); most = omega (arith, room, next); known = omega (arith, next, left, front, length-append b.watches (row.3.1 ∷ [])) }

-- who has heard of all that these places know, and then stops all jobs, has cancelled each that was submitted from them
pub all_cancelled : {L S : Type 0} (s : Service L S) (ts : List (Stint L)) (heard after : BoardHolding) → AllByRecursion (IsStint s) ts → All (λ (p : BoardHolding). AnswersForFronted heard.book p.book) (boards_of ts) → (again : HasStoppedTo 1024 heard after) → AreCancelled (boards_of ts) again.turns
all_cancelled s ts heard after held knows again p at submit made n is =
    let job = submitted p.book submit n (of_stints s ts held p at submit made) is in
    let least = job.least in
    let most = job.most in
    let known = job.known in
    let count = again.count in
    let front = (All-contains (λ (q : BoardHolding). AnswersForFronted heard.book q.book) (boards_of ts) p knows at).front in
    stop_of n 1 (n - 1) again.turns heard.book after.book (omega (arith, least)) again.each again.makes.are_turns (omega (arith, least, most, count)) least (omega (arith, known, front))
