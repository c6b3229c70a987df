-- What a worker's steps on its sheet do to its hand.
-- A tie between the code and its definitions: the promise can be read without it.
use Rattle.std.specs.Prelude.{◌≡◌, ℕ, Bool, true, false, not, List, [], ◌∷◌, ◌++◌}
use Rattle.job_board.specs.declared.standing.HandAccount.{HandAccount}
use Rattle.job_board.specs.SheetCalls.{one_done, one_failed, one_unkept}
use Rattle.job_board.specs.Hands.{SheetHolding, own}
use Rattle.job_places.specs.declared.place.PlaceEnd.{PlaceEnd}
use Rattle.job_places.specs.declared.place.PlaceEnd.TheVariants.{Done, Failed, Unkept}
use Rattle.job_places.specs.Ends.{is_done}

-- the account after a report of a place that ended so
abbrev pub reporting : PlaceEnd → HandAccount → HandAccount
reporting Done a = one_done a
reporting Unkept a = one_unkept a
reporting (Failed cause) a = one_failed a

-- the place, if it counts
abbrev pub place_if : Bool → ℕ → List ℕ
place_if true place = place ∷ []
place_if false place = []

-- the hand reported the place as it ended
pub record Reports (before after : SheetHolding) (place : ℕ) (end : PlaceEnd) : Type 0 where
  pub same_sheet : after.sheet ≡ before.sheet
  pub same_number : after.number ≡ before.number
  pub account : own after ≡ reporting end (own before)
  pub done : after.done ≡ before.done ++ place_if (is_done end) place
  pub failed : after.failed ≡ before.failed ++ place_if (not (is_done end)) place
