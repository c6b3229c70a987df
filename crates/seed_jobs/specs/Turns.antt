-- Turns at a board, one after the other.
use Rattle.std.specs.Prelude.{◌≡◌, List, [], ◌∷◌}
use Rattle.truncation_list.specs.declared.book.FrontedBook.{FrontedBook}
use Rattle.turnstile.specs.declared.view.Made.{Made}
use Rattle.turnstile.specs.Passes.{seen_by}
use Rattle.job_board.specs.declared.shown.BoardNote.{BoardNote}
use Rattle.job_board.specs.Boards.{book_of}
use Rattle.job_board.specs.Calls.{BoardHolding, IsBoardTurn}

-- each turn by a pass that has seen the board that the one before left; it had seen one book at first, and sees the other one at last
abbrev pub AreBoardTurns : FrontedBook → List (Made BoardNote) → FrontedBook → Type 0
AreBoardTurns seen [] left = left ≡ seen
AreBoardTurns seen (m ∷ ms) left = IsBoardTurn seen m × AreBoardTurns (book_of m.note.after) ms left

-- a pass made these turns at its board and no others
pub record MakesTurns (before after : BoardHolding) (turns : List (Made BoardNote)) : Type 0 where
  pub is : after ≡ seen_by before after.book turns
  pub are_turns : AreBoardTurns before.book turns after.book
