-- The rule of a sheet's table: what holds between any two steps of any threads.
use Rattle.std.specs.Prelude.{◌≡◌, ℕ, ◌<◌, true}
use mathlib.Core.Option.{some}
use lib.ListN.{get_elem?}
use Rattle.atomic_table.specs.Table.{State}
use Rattle.job_board.specs.declared.standing.SheetStanding.{SheetStanding}
use Rattle.job_board.specs.declared.view.SheetSize.{SheetSize}
use Rattle.job_board.specs.declared.view.SeatView.{SeatView}
use Rattle.job_board.specs.Standings.{IsSound, Later, account}
use Rattle.job_board.specs.Views.{Owns, words_of}

-- what a view knows was so by now, and for the numbers that it answers for it knows the account as it is
pub record Fits (size : SheetSize) (now : SheetStanding) (v : SeatView) : Type 0 where
  pub size_is : v.live ≡ true → (v.places ≡ size.places) × (v.hands ≡ size.hands)
  pub saw : Later v.seen now
  pub heard : Later v.heard now
  pub owns : (number : ℕ) → Owns v number → (number < size.hands) × (account v.seen number ≡ account now number)

-- The words are those of one sound standing, which all views fit, and no two views answer for one number
pub record Kept {S : Type 0} (size : SheetSize) (s : State S SeatView) : Type 0 where
  pub now : SheetStanding
  pub sound : IsSound size.places size.hands now
  pub words : s.words ≡ words_of now
  pub each : (at : ℕ) (v : SeatView) → get_elem? s.views at ≡ some v → Fits size now v
  pub alone : (at at' : ℕ) (v v' : SeatView) (number : ℕ) → get_elem? s.views at ≡ some v → get_elem? s.views at' ≡ some v' → Owns v number → Owns v' number → at ≡ at'
