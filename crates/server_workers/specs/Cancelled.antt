-- How the jobs of a server are cancelled at its end.
use Rattle.std.specs.Prelude.{All, ℕ, ◌≡◌, ◌+◌, true, List, [], ◌∷◌, length, Some, ⊤}
use Rattle.std.specs.List.{Contains}
use Rattle.atomic_table.specs.Seated.{TableId}
use Rattle.job_board.specs.declared.shown.BoardCommand.TheVariants as command
use Rattle.job_board.specs.declared.shown.BoardNote.{BoardNote}
use Rattle.job_board.specs.declared.shown.BoardReply.TheVariants as reply
use Rattle.job_board.specs.Calls.{BoardHolding, IsFirstBoardPass}
use Rattle.seed_jobs.specs.Turns.{MakesTurns}
use Rattle.job_forms.specs.declared.job.Job.{Job}
use Rattle.truncation_list.specs.Books.{AnswersForFronted}
use Rattle.turnstile.specs.declared.view.Made.{Made}
use Rattle.turnstile.specs.Passes.{seen_by}

-- THE TURNS THAT CANCEL

-- turns that cancel jobs, one after the other, from this number on
abbrev pub StopFrom : ℕ → List (Made BoardNote) → Type 0
StopFrom n [] = ⊤
StopFrom n (m ∷ ms) = (m.note.command ≡ command.Stop n) × StopFrom (n + 1) ms

-- a place at the board was used to cancel the jobs from 1 to this number, one turn each, and for nothing else
pub record HasStoppedTo (most : ℕ) (before after : BoardHolding) : Type 0 where
  pub turns : List (Made BoardNote)
  pub makes : MakesTurns before after turns
  pub each : StopFrom 1 turns
  pub count : length turns ≡ most

-- it was used so for all jobs that a board takes; and once more after it had heard more of the board
pub record HasCancelledOn (before : BoardHolding) : Type 0 where
  pub between : BoardHolding
  pub stops : HasStoppedTo 1024 before between
  pub heard : BoardHolding
  pub hears : heard ≡ seen_by between heard.book []
  pub after : BoardHolding
  pub stops_again : HasStoppedTo 1024 heard after

-- WHAT THEY COME TO

-- the turn submitted a job, which got this number
pub record IsSubmit (number : ℕ) (turn : Made BoardNote) : Type 0 where
  pub job : Job
  pub places : ℕ
  pub does : turn.note.command ≡ command.Submit job places
  pub gets : turn.note.reply ≡ reply.Submit (Some number)

-- the turn cancelled the job of this number
pub record IsCancel (number : ℕ) (turn : Made BoardNote) : Type 0 where
  pub does : turn.note.command ≡ command.Stop number
  pub finds : turn.note.reply ≡ reply.Stop true

-- each job that was submitted from one of these places was cancelled in one of these turns
abbrev pub AreCancelled : List BoardHolding → List (Made BoardNote) → Type 0
AreCancelled places turns = (p : BoardHolding) → Contains places p → (submit : Made BoardNote) → Contains p.made submit → (n : ℕ) → IsSubmit n submit → (cancel : Made BoardNote) × Contains turns cancel × IsCancel n cancel

-- A place at this board, which had made nothing, was used to cancel jobs and for nothing else. At the end it heard of all jobs that these
-- places know, and from then on each job was cancelled that had been submitted from one of them.
pub record HasCancelledJobs (board : TableId) (places : List BoardHolding) : Type 0 where
  pub before : BoardHolding
  pub new : IsFirstBoardPass board before
  pub on : HasCancelledOn before
  pub knows : All (λ (p : BoardHolding). AnswersForFronted on.heard.book p.book) places
  pub each : AreCancelled places on.stops_again.turns
