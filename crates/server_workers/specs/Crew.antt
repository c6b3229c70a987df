-- The workers of a server.
-- A tie between the code and its definitions: the promise can be read without it.
use Rattle.std.specs.Prelude.{All, ℕ, ◌≡◌, ◌<◌, ◌++◌, Bool, true, List, [], length, MatchBool, Option, Some}
use Rattle.std.specs.List.{AllByRecursion, Contains}
use Rattle.atomic_table.specs.Seated.{TableId}
use Rattle.cache_hall.specs.Turned.{HallPass, IsPassOf}
use Rattle.catalog.specs.declared.catalogue.Catalogue.{Catalogue}
use Rattle.base.specs.Causes.{Rose}
use Rattle.crossbeam_queue.specs.Passes.{Pass, view}
use Rattle.job_board.specs.Calls.{BoardHolding, IsBoardPass, IsFirstBoardPass}
use Rattle.seed_jobs.specs.Idles.{HasHeard, Standby}
use Rattle.link_queue.specs.Hands.{IsHand, hand}
use Rattle.link_queue.specs.declared.hand.QueueHand.{QueueHand}
use Rattle.truncation_list.specs.Books.{AnswersForFronted}
use Rattle.server_workers.specs.Stints.{AreHeld, AreServed, HeldSession, IsStint, Service, Stint, boards_of, done_by, links_in, links_of, passes_of}

-- a worker of this queue, of this turnstile and of this board may serve: where its pass is told, its source tells the catalogue's number
pub record IsWorkerReady {L : Type 0} (queue table at : TableId) (c : Catalogue) (tells : Option ℕ) (pass : HallPass) (board : BoardHolding) (mine : Pass L (QueueHand L)) : Type 0 where
  pub of : IsPassOf table c pass
  pub at_board : IsBoardPass at board
  pub source : pass.told ≡ true → tells ≡ Some c.source
  pub at_queue : IsHand queue (view mine) mine
  pub parts : 0 < (view mine).parts

-- passes of what is served which have made nothing yet, at the hall and at the board; and where the hall is told, sources of the
-- catalogue's pictures
pub record AreSupplies {L S : Type 0} (s : Service L S) (tells : S → Option ℕ) (passes : List HallPass) (boards : List BoardHolding) (sources : List S) : Type 0 where
  pub passes_are : All (λ p. p ≡ s.first) passes
  pub boards_are : All (IsFirstBoardPass s.board) boards
  pub sources_tell : All (λ x. s.first.told ≡ true → tells x ≡ Some s.catalogue.source) sources

-- a worker that has made nothing yet, and has no link
pub record IsNew {L S : Type 0} (queue : TableId) (s : Service L S) (tells : Option ℕ) (pass : HallPass) (board : BoardHolding) (mine : Pass L (QueueHand L)) : Type 0 where
  pub pass_is : pass ≡ s.first
  pub at_board : IsFirstBoardPass s.board board
  pub source : s.first.told ≡ true → tells ≡ Some s.catalogue.source
  pub hand_is : IsHand queue (hand 1 [] []) mine

-- a worker has held a session over each link that it took since its hand was as before
pub record HasHeldSessions {L S : Type 0} (s : Service L S) (before : QueueHand L) (pass : HallPass) (board : BoardHolding) (source : S) (mine : Pass L (QueueHand L)) : Type 0 where
  pub sessions : List (HeldSession L)
  pub board_before : BoardHolding
  pub at_board : IsFirstBoardPass s.board board_before
  pub source_before : S
  pub held : AreHeld s s.first board_before (done_by s.sources source_before) sessions pass board (done_by s.sources source)
  pub took : view mine ≡ hand before.parts before.put (before.taken ++ links_of sessions)

-- the passes that these stints left are among those
abbrev pub AreKept : {L : Type 0} → List (Stint L) → List HallPass → Type 0
AreKept stints passes = (p : HallPass) → Contains (passes_of stints) p → Contains passes p

-- the worker has taken over the hands of others, and with them the links of the stints that those held; its hand has so many parts, the
-- passes of the others are among these, and who runs jobs has heard what they know of the board
pub record HasGathered {L S : Type 0} (s : Service L S) (parts : ℕ) (pass : HallPass) (board : BoardHolding) (source : S) (mine : Pass L (QueueHand L)) (passes : List HallPass) (before after : Standby) : Type 0 where
  pub stints : List (Stint L)
  pub held : AllByRecursion (IsStint s) stints
  pub last : HasHeldSessions s (hand parts [] (links_in stints)) pass board source mine
  pub kept : AreKept stints passes
  pub heard : HasHeard before after (boards_of stints)

-- each of these links was served in one session of one stint, whose passes are among these, and who runs jobs has heard what they know of
-- the board
pub record AreServedBy {L S : Type 0} (s : Service L S) (links : List L) (passes : List HallPass) (before after : Standby) : Type 0 where
  pub served : AreServed s links
  pub kept : AreKept served.stints passes
  pub heard : HasHeard before after (boards_of served.stints)

-- so many links were asked for; the listener gave these, each of which was served, by passes that are among these; and where it gave
-- fewer, an accept had failed. Who cancels jobs has heard what those that served know of the board
pub record HasServedLinks {L S : Type 0} (s : Service L S) (asked : ℕ) (given_before given_after : List L) (faults_before faults_after : ℕ) (passes : List HallPass) (before after : Standby) (cancels : BoardHolding) (all : Bool) : Type 0 where
  pub links : List L
  pub given : given_after ≡ given_before ++ links
  pub served : AreServedBy s links passes before after
  pub knows : All (λ (p : BoardHolding). AnswersForFronted cancels.book p.book) (boards_of served.served.stints)
  pub each : MatchBool all (length links ≡ asked) (Rose faults_before faults_after)
