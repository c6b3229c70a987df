-- What a gathering of a crew's hands does.
-- A tie between the code and its definitions: the promise can be read without it.
use Rattle.std.specs.Prelude.{◌≡◌, ◌≢◌, ◌+◌, ℕ, List, [], ◌∷◌, All, Some, length, slice_get, ⊤}
use Rattle.job_board.specs.declared.standing.HandEnd.TheVariants.{Open}
use Rattle.job_board.specs.SheetCalls.{seeing}
use Rattle.job_board.specs.Hands.{Sheet, SheetHolding, own}
use Rattle.job_board.specs.Standings.{Later}
use Rattle.seed_jobs.specs.Workers.{JobWorker}

-- the hand has seen all that these other hands had, and is otherwise as it was
pub record HasHeard (before after : SheetHolding) (others : List SheetHolding) : Type 0 where
  pub is : after ≡ seeing before after.seen
  pub own_is : own after ≡ own before
  pub heard : All (λ (h : SheetHolding). Later h.seen after.seen) others

-- the worker's hand may have seen more, and it is otherwise as it was
pub record IsAlike (before after : JobWorker) : Type 0 where
  pub hand : after.hand ≡ seeing before.hand after.hand.seen
  pub own_is : own after.hand ≡ own before.hand
  pub is : after ≡ record before { hand = after.hand }

abbrev pub AreAlike : List JobWorker → List JobWorker → Type 0
AreAlike [] [] = ⊤
AreAlike [] (a ∷ after) = ⊥
AreAlike (b ∷ before) [] = ⊥
AreAlike (b ∷ before) (a ∷ after) = IsAlike b a × AreAlike before after

-- each hand is of the sheet
abbrev pub AreOf : Sheet → List SheetHolding → Type 0
AreOf sheet hands = All (λ (h : SheetHolding). h.sheet ≡ sheet) hands

-- they are all hands of the sheet, in order, and each has met None, and has reported all that it claimed
pub record AreAll (sheet : Sheet) (hands : List SheetHolding) : Type 0 where
  pub count : length hands ≡ sheet.hands
  pub number : (n : ℕ) (h : SheetHolding) → slice_get hands n ≡ Some h → h.number ≡ Some n
  pub met_none : (n : ℕ) (h : SheetHolding) → slice_get hands n ≡ Some h → (own h).end ≢ Open
  pub reported : (n : ℕ) (h : SheetHolding) → slice_get hands n ≡ Some h → (own h).done + (own h).failed ≡ length (own h).claimed
