-- The passes of a hall and the places at a board that were just made.
use Rattle.std.specs.Prelude.{All, ℕ, ◌≡◌, Bool, List, [], length, Some}
use Rattle.atomic_table.specs.Seated.{TableId}
use Rattle.cabinet.specs.State.{State, fronted, now}
use Rattle.cache_hall.specs.Turned.{HallPass}
use Rattle.catalog.specs.declared.catalogue.Catalogue.{Catalogue}
use Rattle.job_board.specs.Calls.{BoardHolding, IsFirstBoardPass}

-- a pass that has seen the book of this cabinet and made nothing, with this mark of being told
abbrev pub first_pass : TableId → Catalogue → Bool → State → HallPass
first_pass table c told s = record { table = table; charter = Some c; told = told; book = fronted (now s); made = [] }

-- there are so many passes of this board, on which there is no job, and they have made nothing
pub record AreFirstAtBoard (board : TableId) (many : ℕ) (passes : List BoardHolding) : Type 0 where
  pub count : length passes ≡ many
  pub first : All (IsFirstBoardPass board) passes
