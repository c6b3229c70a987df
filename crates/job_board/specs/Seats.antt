-- What lies behind a hand: its seat, and the places that it reported.
use Rattle.std.specs.Prelude.{◌≡◌, ℕ, ◌<◌, true, List, [], Some}
use Rattle.atomic_table.specs.Table.{Me}
use Rattle.atomic_table.specs.declared.shared.Seat.{Seat}
use Rattle.job_board.specs.declared.view.SeatView.{SeatView}
use Rattle.job_board.specs.Standings.{IsSound}
use Rattle.job_board.specs.Hands.{AreReports, Sheet, SheetHolding, own_of}
use Rattle.job_board.specs.Views.{dealer}

module _ {S : Type 0} where
  abbrev pub sheet_of : Seat S SeatView → Sheet
  sheet_of seat = record { table = seat.table_id; places = seat.me.0.places; hands = seat.me.0.hands }

  abbrev pub holding_of : Seat S SeatView → List ℕ → List ℕ → SheetHolding
  holding_of seat done failed = record { sheet = sheet_of seat; number = seat.me.0.number; seen = seat.me.0.seen; done = done; failed = failed }

-- The seat holds no slot and deals out no hand, its number is one of the sheet's, what it has seen is sound, and so are its reports
pub record IsHand {S : Type 0} (me : Me S SeatView) (done failed : List ℕ) : Type 0 where
  pub live : me.0.live ≡ true
  pub carries : me.1 ≡ []
  pub dealt : me.0.dealt ≡ me.0.hands
  pub numbered : (number : ℕ) → me.0.number ≡ Some number → number < me.0.hands
  pub sound : IsSound me.0.places me.0.hands me.0.seen
  pub reports : AreReports (own_of me.0.number me.0.seen) done failed

-- the first seat of a new sheet, with so many hands dealt out
pub record IsDealer {S : Type 0} (sheet : Sheet) (dealt : ℕ) (seat : Seat S SeatView) : Type 0 where
  pub same_table : seat.table_id ≡ sheet.table
  pub holds : seat.me ≡ (dealer (record { places = sheet.places; hands = sheet.hands }) dealt, [])
