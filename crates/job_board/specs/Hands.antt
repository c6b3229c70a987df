-- What contracts see of a sheet and of its hands.
use Rattle.std.specs.Prelude.{◌≡◌, ◌≢◌, ℕ, ◌+◌, ◌<◌, ◌≤◌, false, List, [], Option, Some, None, length, replicate, slice_get, Contains}
use Rattle.atomic_table.specs.Seated.{TableId}
use Rattle.job_board.specs.declared.standing.HandAccount.{HandAccount}
use Rattle.job_board.specs.declared.standing.HandEnd.TheVariants.{Open}
use Rattle.job_board.specs.declared.standing.SheetStanding.{SheetStanding}
use Rattle.job_board.specs.Standings.{LaterAccount, account, fresh, times, with_account}

-- which sheet it is, how many places it gives out, and to how many hands
pub record Sheet : Type 0 where
  pub table : TableId
  pub places : ℕ
  pub hands : ℕ

-- A hand: of which sheet it is, its number, which the watch has none of, how the sheet stood at the last step of the hand, and which places it has reported done
-- and failed
pub record SheetHolding : Type 0 where
  pub sheet : Sheet
  pub number : Option ℕ
  pub seen : SheetStanding
  pub done : List ℕ
  pub failed : List ℕ

-- the account of the hand with this number, if it is one
abbrev pub own_of : Option ℕ → SheetStanding → HandAccount
own_of None s = fresh
own_of (Some number) s = account s number

-- its account becomes f of what it was
abbrev pub change_own : Option ℕ → (HandAccount → HandAccount) → SheetStanding → SheetStanding
change_own None f s = s
change_own (Some number) f s = with_account number (f (account s number)) s

-- the account of a hand: what it has claimed, how many places it has reported, and whether and why it has met None
abbrev pub own : SheetHolding → HandAccount
own h = own_of h.number h.seen

-- the places that were reported are as many as the account counts, each claimed, and each reported once
pub record AreReports (a : HandAccount) (done failed : List ℕ) : Type 0 where
  pub done_is : length done ≡ a.done
  pub failed_is : length failed ≡ a.failed
  pub of_claimed : (place : ℕ) → times place done + times place failed ≤ times place a.claimed

-- NEW HANDS

-- nothing is claimed yet
abbrev pub fresh_standing : ℕ → SheetStanding
fresh_standing hands = record { accounts = replicate hands fresh; cancelled = false }

-- a watch of the sheet that has seen this
abbrev pub watching : Sheet → SheetStanding → SheetHolding
watching sheet s = record { sheet = sheet; number = None; seen = s; done = []; failed = [] }

abbrev pub fresh_holding : Sheet → Option ℕ → SheetHolding
fresh_holding sheet number = record { sheet = sheet; number = number; seen = fresh_standing sheet.hands; done = []; failed = [] }

-- these are all hands of a new sheet, in the order of their numbers, and none has done anything
pub record AreFresh (sheet : Sheet) (hands : List SheetHolding) : Type 0 where
  pub count : length hands ≡ sheet.hands
  pub each : (number : ℕ) → number < sheet.hands → slice_get hands number ≡ Some (fresh_holding sheet (Some number))

-- WHAT A HAND MAY DO

-- it is one of the sheet's hands, and has not met None
abbrev pub MayClaim : SheetHolding → Type 0
MayClaim h = ((number : ℕ) × (h.number ≡ Some number)) × ((own h).end ≡ Open)

-- it has claimed the place, and not reported it
pub record MayReport (h : SheetHolding) (place : ℕ) : Type 0 where
  pub claimed : Contains (own h).claimed place
  pub not_done : ¬ (Contains h.done place)
  pub not_failed : ¬ (Contains h.failed place)

-- HANDS GATHERED

-- two hands that are not one have claimed no place in common
abbrev pub AreApart : SheetHolding → SheetHolding → Type 0
AreApart h h' = h.number ≢ h'.number → (place : ℕ) → Contains (own h).claimed place → ¬ (Contains (own h').claimed place)

-- `gatherer` has seen of each of these hands, which are all hands of its sheet, what the hand had claimed when it met None
pub record HasGathered (gatherer : SheetHolding) (hands : List SheetHolding) : Type 0 where
  pub count : length hands ≡ gatherer.sheet.hands
  pub each : (number : ℕ) (h : SheetHolding) → slice_get hands number ≡ Some h → (h.number ≡ Some number) × LaterAccount (own h) (account gatherer.seen number) × ((own h).end ≢ Open)
