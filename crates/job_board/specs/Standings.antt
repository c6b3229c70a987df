-- How a sheet stands at one moment: what each of its hands has claimed and reported, and whether the job is cancelled.
use Rattle.std.specs.Prelude.{◌≡◌, ◌≢◌, ℕ, ◌+◌, ◌<◌, ◌≤◌, ◌==◌, true, List, [], ◌∷◌, ◌++◌, length, count_by, sum_by, slice_index_or, slice_set}
use Rattle.job_board.specs.declared.standing.HandAccount.{HandAccount}
use Rattle.job_board.specs.declared.standing.HandEnd.{HandEnd}
use Rattle.job_board.specs.declared.standing.HandEnd.TheVariants.{AllClaimed, Cancelled, Open}
use Rattle.job_board.specs.declared.standing.SheetStanding.{SheetStanding}

-- ONE HAND'S ACCOUNT

-- the account of a hand that did nothing
abbrev pub fresh : HandAccount
fresh = record { claimed = []; done = 0; unkept = 0; failed = 0; end = Open }

-- the account after a claim of this place, and after a claim that met None
abbrev pub gaining : ℕ → HandAccount → HandAccount
gaining place a = record a { claimed = a.claimed ++ place ∷ [] }

abbrev pub ending : HandEnd → HandAccount → HandAccount
ending end a = record a { end = end }

-- how often the hand has claimed the place
abbrev pub times : ℕ → List ℕ → ℕ
times place places = count_by (λ p. p == place) places

-- whether the hand has met None, as a number
abbrev pub vain : HandEnd → ℕ
vain Open = 0
vain AllClaimed = 1
vain Cancelled = 1

-- a later account of the same hand: a hand only adds to its claims and reports, what it adds to those not kept it adds to those done, too,
-- and it claims no more once it met None
pub record LaterAccount (a b : HandAccount) : Type 0 where
  pub claimed : (more : List ℕ) × (b.claimed ≡ a.claimed ++ more)
  pub done : a.done ≤ b.done
  pub unkept : a.unkept ≤ b.unkept
  pub unkept_done : b.unkept + a.done ≤ a.unkept + b.done
  pub failed : a.failed ≤ b.failed
  pub ended : a.end ≢ Open → (b.claimed ≡ a.claimed) × (b.end ≡ a.end)

-- THE WHOLE SHEET

-- the account of the hand with this number
abbrev pub account : SheetStanding → ℕ → HandAccount
account s number = slice_index_or s.accounts number fresh

-- the standing after the account of the hand with this number became another one
abbrev pub with_account : ℕ → HandAccount → SheetStanding → SheetStanding
with_account number a s = record s { accounts = slice_set s.accounts number a }

-- how many places are claimed, how many of these are reported done, and failed, and how many of those done are not kept
abbrev pub claimed_count : SheetStanding → ℕ
claimed_count s = sum_by (λ (a : HandAccount). length a.claimed) s.accounts

abbrev pub done_count : SheetStanding → ℕ
done_count s = sum_by (λ (a : HandAccount). a.done) s.accounts

abbrev pub failed_count : SheetStanding → ℕ
failed_count s = sum_by (λ (a : HandAccount). a.failed) s.accounts

abbrev pub unkept_count : SheetStanding → ℕ
unkept_count s = sum_by (λ (a : HandAccount). a.unkept) s.accounts

-- how many hands have met None
abbrev pub vain_count : SheetStanding → ℕ
vain_count s = sum_by (λ (a : HandAccount). vain a.end) s.accounts

-- how often the place is claimed, by all hands together
abbrev pub claims_of : ℕ → SheetStanding → ℕ
claims_of place s = sum_by (λ (a : HandAccount). times place a.claimed) s.accounts

-- why a hand may have met None: all places are claimed, or the job is cancelled
abbrev pub HasCause : ℕ → SheetStanding → HandEnd → Type 0
HasCause places s Open = Unit {0}
HasCause places s AllClaimed = claimed_count s ≡ places
HasCause places s Cancelled = s.cancelled ≡ true

-- A standing that a sheet of so many places and hands can have. The places claimed are the numbers below how many they are, each claimed
-- once, by one hand; a hand has met None only for a cause; and it has reported no more places than it claimed, and no more as not kept than as
-- done
pub record IsSound (places hands : ℕ) (s : SheetStanding) : Type 0 where
  pub all : length s.accounts ≡ hands
  pub within : claimed_count s ≤ places
  pub once : (place : ℕ) → place < claimed_count s → claims_of place s ≡ 1
  pub none_else : (place : ℕ) → claimed_count s ≤ place → claims_of place s ≡ 0
  pub cause : (number : ℕ) → HasCause places s (account s number).end
  pub reported : (number : ℕ) → (account s number).done + (account s number).failed ≤ length (account s number).claimed
  pub unkept : (number : ℕ) → (account s number).unkept ≤ (account s number).done

-- a standing of the same sheet at a later moment, or the same one
pub record Later (a b : SheetStanding) : Type 0 where
  pub accounts : (number : ℕ) → LaterAccount (account a number) (account b number)
  pub cancelled : a.cancelled ≡ true → b.cancelled ≡ true
