-- What the calls of a board do to a pass: one turn each.
use Rattle.std.specs.Prelude.{ℕ, ◌≡◌, [], ◌∷◌, Some, None, Result, Ok, Err}
use Rattle.atomic_table.specs.Seated.{TableId}
use Rattle.job_forms.specs.declared.job.Job.{Job}
use Rattle.truncation_list.specs.declared.book.FrontedBook.{FrontedBook}
use Rattle.truncation_list.specs.Books.{AnswersForFronted}
use Rattle.turnstile.specs.declared.view.Made.{Made}
use Rattle.turnstile.specs.Passes.{Holding, seen_by}
use Rattle.job_board.specs.declared.fault.BoardFault.{BoardFault}
use Rattle.job_board.specs.declared.fault.BoardFault.TheVariants as fault
use Rattle.job_board.specs.declared.shown.BoardCommand.{BoardCommand}
use Rattle.job_board.specs.declared.shown.BoardCommand.TheVariants as command
use Rattle.job_board.specs.declared.shown.BoardNote.{BoardNote}
use Rattle.job_board.specs.declared.shown.BoardReply.{BoardReply}
use Rattle.job_board.specs.declared.shown.BoardReply.TheVariants as reply
use Rattle.job_board.specs.Boards.{BoardMayReply, KeepsOver, book_of}

-- a pass of a board as contracts see it
abbrev pub BoardHolding : Type 0
BoardHolding = Holding ℕ BoardNote

-- the pass is one of this board
pub record IsBoardPass (table : TableId) (pass : BoardHolding) : Type 0 where
  pub same_table : pass.table ≡ table
  pub charter : pass.charter ≡ Some 0

-- a pass of a new board, on which there is no job, and which made nothing
pub record IsFirstBoardPass (table : TableId) (pass : BoardHolding) : Type 0 where
  pub of : IsBoardPass table pass
  pub seen : pass.book ≡ record { book = record { cuts = []; floor = 0 }; front = 0 }
  pub nothing : pass.made ≡ []

-- one turn, by a pass that had seen this book: it found a board with at least as many jobs, its command has a reply that it may have, and
-- what is over stays so
pub record IsBoardTurn (seen : FrontedBook) (m : Made BoardNote) : Type 0 where
  pub found : m.found ≡ book_of m.note.before
  pub left : m.left ≡ book_of m.note.after
  pub answers : AnswersForFronted m.found seen
  pub reply : BoardMayReply m.note.before m.note.command m.note.reply m.note.after
  pub over : KeepsOver m.note.before m.note.command m.note.reply m.note.after

-- a call made one turn, of this command and with this reply, and has seen the board that it left
pub record MakesOne (before after : BoardHolding) (does : BoardCommand) (answer : BoardReply) : Type 0 where
  pub turn : Made BoardNote
  pub is : after ≡ seen_by before (book_of turn.note.after) (turn ∷ [])
  pub may : IsBoardTurn before.book turn
  pub command_is : turn.note.command ≡ does
  pub reply_is : turn.note.reply ≡ answer

-- a call made no turn
pub record MakesNone (before after : BoardHolding) : Type 0 where
  pub is : after ≡ seen_by before after.book []
  pub answers : AnswersForFronted after.book before.book

-- a submission
abbrev pub SubmitsJob : BoardHolding → BoardHolding → Job → ℕ → Result ℕ BoardFault → Type 0
SubmitsJob before after job places (Ok n) = MakesOne before after (command.Submit job places) (reply.Submit (Some n))
SubmitsJob before after job places (Err fault.Full) = MakesOne before after (command.Submit job places) (reply.Submit None)
SubmitsJob before after job places (Err fault.OutOfMemory) = MakesNone before after
