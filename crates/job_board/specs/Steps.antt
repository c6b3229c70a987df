-- What each step on a sheet's table tells the seat that takes it.
use Rattle.std.specs.Prelude.{◌≡◌, ℕ, ◌+◌, ◌<◌, true, if◌then◌else◌, nat_lt, Some, length}
use Rattle.atomic_table.specs.Table.{Me}
use Rattle.job_board.specs.declared.standing.HandAccount.{HandAccount}
use Rattle.job_board.specs.declared.standing.HandEnd.TheVariants.{AllClaimed, Cancelled}
use Rattle.job_board.specs.declared.standing.SheetStanding.{SheetStanding}
use Rattle.job_board.specs.declared.view.SeatView.{SeatView}
use Rattle.job_board.specs.Standings.{IsSound, Later, claimed_count, ending, gaining}
use Rattle.job_board.specs.Hands.{change_own, own_of}
use Rattle.job_board.specs.Views.{claim_word, seeing_now}

-- the standing that a seat finds at a step: a sound one, no earlier than what it saw and heard, with its own account as it left it
pub record Meets (v : SeatView) (found : SheetStanding) : Type 0 where
  pub sound : IsSound v.places v.hands found
  pub later : Later v.seen found
  pub heard : Later v.heard found
  pub own_is : own_of v.number found ≡ own_of v.number v.seen

-- the seat found this standing and left that one
pub record Leaves {S : Type 0} (me : Me S SeatView) (found left : SheetStanding) (after : Me S SeatView) : Type 0 where
  pub meets : Meets me.0 found
  pub sound : IsSound me.0.places me.0.hands left
  pub is : after ≡ (seeing_now me.0 left, me.1)

-- what a claim does to an account: it gains the next place, or meets None
abbrev pub claiming : ℕ → SheetStanding → HandAccount → HandAccount
claiming places found a = if found.cancelled then ending Cancelled a else if nat_lt (claimed_count found) places then gaining (claimed_count found) a else ending AllClaimed a

module _ {S : Type 0} where
  abbrev pub ClaimedBy : Me S SeatView → ℕ → Me S SeatView → Type 0
  ClaimedBy me word after = (found : SheetStanding) × (word ≡ claim_word found) × Leaves me found (change_own me.0.number (claiming me.0.places found) found) after

  -- the own account becomes f of what it was
  abbrev pub ReportedBy : (HandAccount → HandAccount) → Me S SeatView → Me S SeatView → Type 0
  ReportedBy f me after = (found : SheetStanding) × Leaves me found (change_own me.0.number f found) after

  abbrev pub CancelledBy : Me S SeatView → Me S SeatView → Type 0
  CancelledBy me after = (found : SheetStanding) × Leaves me found (record found { cancelled = true }) after

  -- a load of the word that is `word_of` a standing: nothing changes
  abbrev pub ReadBy : (SheetStanding → ℕ) → Me S SeatView → ℕ → Me S SeatView → Type 0
  ReadBy word_of me word after = (found : SheetStanding) × (word ≡ word_of found) × Leaves me found found after

-- a seat heard another one, and has then found a standing no earlier than what either had seen
pub record HeardBy {S : Type 0} (me other after : Me S SeatView) : Type 0 where
  pub found : SheetStanding
  pub sound : IsSound me.0.places me.0.hands found
  pub later : Later me.0.seen found
  pub heard : Later other.0.seen found
  pub own_is : own_of me.0.number found ≡ own_of me.0.number me.0.seen
  pub is : after ≡ (seeing_now me.0 found, me.1)

-- a hand's seat, and one that has claimed more places than it reported
abbrev pub HasSeatNumber : SeatView → Type 0
HasSeatNumber v = (number : ℕ) × (v.number ≡ Some number)

abbrev pub HasUnreported : SeatView → Type 0
HasUnreported v = let a = own_of v.number v.seen in a.done + a.failed < length a.claimed
