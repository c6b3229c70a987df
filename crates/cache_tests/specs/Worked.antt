-- What a hand has done that claimed until it met None.
use Rattle.std.specs.Prelude.{◌≡◌, ◌≢◌, ℕ, Option, length}
use Rattle.job_board.specs.declared.standing.HandEnd.TheVariants.{Open}
use Rattle.job_board.specs.Hands.{Sheet, SheetHolding, own}

-- it is this hand of the sheet, has met None, and has claimed so many places
pub record HasWorked (sheet : Sheet) (number : Option ℕ) (count : ℕ) (h : SheetHolding) : Type 0 where
  pub of : h.sheet ≡ sheet
  pub number_is : h.number ≡ number
  pub ended : (own h).end ≢ Open
  pub count_is : length (own h).claimed ≡ count
