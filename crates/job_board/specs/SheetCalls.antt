-- What each call of a sheet does to its hand.
use Rattle.std.specs.Prelude.{◌≡◌, ◌≢◌, ℕ, ◌+◌, ◌<◌, ◌≤◌, true, false, min, List, [], ◌∷◌, ◌++◌, Contains, length, sum_by}
use Rattle.job_board.specs.declared.progress.Progress.{Progress}
use Rattle.job_board.specs.declared.standing.HandAccount.{HandAccount}
use Rattle.job_board.specs.declared.standing.HandEnd.{HandEnd}
use Rattle.job_board.specs.declared.standing.HandEnd.TheVariants.{AllClaimed, Cancelled, Open}
use Rattle.job_board.specs.declared.standing.SheetStanding.{SheetStanding}
use Rattle.job_board.specs.Standings.{IsSound, Later, account, claimed_count, done_count, ending, failed_count, gaining, times, unkept_count, vain_count}
use Rattle.job_board.specs.Hands.{MayReport, SheetHolding, change_own, own, own_of}

-- A standing that the hand may find at a step: a sound one, no earlier than what it has seen, in which its own account is as it left it
pub record MayFind (h : SheetHolding) (found : SheetStanding) : Type 0 where
  pub sound : IsSound h.sheet.places h.sheet.hands found
  pub later : Later h.seen found
  pub own_is : own_of h.number found ≡ own h

-- the hand has seen this standing, and nothing else of it changed
abbrev pub seeing : SheetHolding → SheetStanding → SheetHolding
seeing h s = record h { seen = s }

-- CLAIMS

-- The job was not cancelled and not all places were claimed. The hand gains the next place, which is the least one that no hand had claimed, and may report it
pub record Claims (before after : SheetHolding) (place : ℕ) : Type 0 where
  pub found : SheetStanding
  pub finds : MayFind before found
  pub running : found.cancelled ≡ false
  pub next : place ≡ claimed_count found
  pub within : place < before.sheet.places
  pub is : after ≡ seeing before (change_own before.number (gaining place) found)
  pub own_is : own after ≡ gaining place (own before)
  pub is_new : ¬ (Contains (own before).claimed place)
  pub may_report : MayReport after place
  pub sound : IsSound before.sheet.places before.sheet.hands after.seen

-- the job was cancelled, or it was not and all places were claimed
abbrev pub Refuses : ℕ → SheetStanding → HandEnd → Type 0
Refuses places found Open = ⊥
Refuses places found AllClaimed = (found.cancelled ≡ false) × (claimed_count found ≡ places)
Refuses places found Cancelled = found.cancelled ≡ true

-- the hand has met None, for this cause
pub record MeetsNone (before after : SheetHolding) : Type 0 where
  pub found : SheetStanding
  pub finds : MayFind before found
  pub end : HandEnd
  pub why : Refuses before.sheet.places found end
  pub is : after ≡ seeing before (change_own before.number (ending end) found)
  pub own_is : own after ≡ ending end (own before)
  pub sound : IsSound before.sheet.places before.sheet.hands after.seen

-- REPORTS

abbrev pub one_done : HandAccount → HandAccount
one_done a = record a { done = a.done + 1 }

-- done, but not kept
abbrev pub one_unkept : HandAccount → HandAccount
one_unkept a = record a { done = a.done + 1; unkept = a.unkept + 1 }

abbrev pub one_failed : HandAccount → HandAccount
one_failed a = record a { failed = a.failed + 1 }

-- the place joins what the hand has reported done, and nothing else changes
pub record ReportsDone (before after : SheetHolding) (place : ℕ) : Type 0 where
  pub found : SheetStanding
  pub finds : MayFind before found
  pub is : after ≡ record before { seen = change_own before.number one_done found; done = before.done ++ place ∷ [] }
  pub own_is : own after ≡ one_done (own before)
  pub sound : IsSound before.sheet.places before.sheet.hands after.seen

-- the same, and the place counts as not kept
pub record ReportsUnkept (before after : SheetHolding) (place : ℕ) : Type 0 where
  pub found : SheetStanding
  pub finds : MayFind before found
  pub is : after ≡ record before { seen = change_own before.number one_unkept found; done = before.done ++ place ∷ [] }
  pub own_is : own after ≡ one_unkept (own before)
  pub sound : IsSound before.sheet.places before.sheet.hands after.seen

pub record ReportsFailed (before after : SheetHolding) (place : ℕ) : Type 0 where
  pub found : SheetStanding
  pub finds : MayFind before found
  pub is : after ≡ record before { seen = change_own before.number one_failed found; failed = before.failed ++ place ∷ [] }
  pub own_is : own after ≡ one_failed (own before)
  pub sound : IsSound before.sheet.places before.sheet.hands after.seen

-- CANCELLING

-- the job is cancelled, and nothing else changes
pub record Cancels (before after : SheetHolding) : Type 0 where
  pub found : SheetStanding
  pub finds : MayFind before found
  pub is : after ≡ seeing before (record found { cancelled = true })
  pub own_is : own after ≡ own before
  pub sound : IsSound before.sheet.places before.sheet.hands after.seen

-- PROGRESS

-- The numbers done and not kept are those of one standing that the hand found, the number failed is that of one after it, and the others are those of a
-- third one, which it has seen then. Each hand that met None has counted as claimed once in vain, but no more than all places count
pub record Tells (before after : SheetHolding) (p : Progress) : Type 0 where
  pub first : SheetStanding
  pub second : SheetStanding
  pub finds : MayFind before first
  pub then_finds : MayFind (seeing before first) second
  pub then_sees : MayFind (seeing before second) after.seen
  pub is : after ≡ seeing before after.seen
  pub own_is : own after ≡ own before
  pub places : p.places ≡ before.sheet.places
  pub done : p.done ≡ done_count first
  pub unkept : p.unkept ≡ unkept_count first
  pub failed : p.failed ≡ failed_count second
  pub claimed : p.claimed ≡ min (claimed_count after.seen + vain_count after.seen) before.sheet.places
  pub cancelled : p.cancelled ≡ after.seen.cancelled

-- How the numbers stand to one another, and to what the hand has seen before and after: `claimed` is exact while the job is not cancelled, and may after
-- that count one vain claim for each hand.
pub record AddsUp (before after : SheetHolding) (p : Progress) : Type 0 where
  pub reported : p.done + p.failed ≤ claimed_count after.seen
  pub claimed : claimed_count after.seen ≤ p.claimed
  pub exact : p.cancelled ≡ false → p.claimed ≡ claimed_count after.seen
  pub vain : (p.claimed ≤ claimed_count after.seen + vain_count after.seen) × (vain_count after.seen ≤ before.sheet.hands)
  pub within : p.claimed ≤ p.places
  pub at_least : (done_count before.seen ≤ p.done) × (failed_count before.seen ≤ p.failed) × (claimed_count before.seen ≤ p.claimed)
  pub at_most : (p.done ≤ done_count after.seen) × (p.failed ≤ failed_count after.seen)
  pub cancelled : before.seen.cancelled ≡ true → p.cancelled ≡ true
  pub unkept : (unkept_count before.seen ≤ p.unkept) × (p.unkept ≤ p.done)

-- each hand has met None, and has reported all that it claimed
abbrev pub IsSettled : ℕ → SheetStanding → Type 0
IsSettled hands s = (number : ℕ) → number < hands → ((account s number).end ≢ Open) × ((account s number).done + (account s number).failed ≡ length (account s number).claimed)

-- no step changes any of these numbers any more
pub record IsFinal (s : SheetStanding) (p : Progress) : Type 0 where
  pub done : p.done ≡ done_count s
  pub failed : p.failed ≡ failed_count s
  pub unkept : p.unkept ≡ unkept_count s
  pub all : p.done + p.failed ≡ claimed_count s

-- a standing in which nothing is left to do or to report: so many places are done, so many failed, and so many of those done are not kept
pub record HasEnded (hands : ℕ) (s : SheetStanding) (done failed unkept : ℕ) : Type 0 where
  pub settled : IsSettled hands s
  pub done_is : done ≡ done_count s
  pub failed_is : failed ≡ failed_count s
  pub unkept_is : unkept ≡ unkept_count s

-- what has ended with these numbers stays so
abbrev pub StaysEnded : ℕ → SheetStanding → SheetStanding → Type 0
StaysEnded hands before after = (done failed unkept : ℕ) → HasEnded hands before done failed unkept → HasEnded hands after done failed unkept

-- GATHERING

-- the hand has seen all that the other one had
pub record Gathers (before other after : SheetHolding) : Type 0 where
  pub finds : MayFind before after.seen
  pub heard : Later other.seen after.seen
  pub is : after ≡ seeing before after.seen
  pub own_is : own after ≡ own before

-- how many places these hands have claimed, and how often one
abbrev pub claimed_by : List SheetHolding → ℕ
claimed_by hands = sum_by (λ (h : SheetHolding). length (own h).claimed) hands

abbrev pub claims_by : ℕ → List SheetHolding → ℕ
claims_by place hands = sum_by (λ (h : SheetHolding). times place (own h).claimed) hands

-- how many places these hands have reported done, failed and not kept
abbrev pub done_by : List SheetHolding → ℕ
done_by hands = sum_by (λ (h : SheetHolding). (own h).done) hands

abbrev pub failed_by : List SheetHolding → ℕ
failed_by hands = sum_by (λ (h : SheetHolding). (own h).failed) hands

abbrev pub unkept_by : List SheetHolding → ℕ
unkept_by hands = sum_by (λ (h : SheetHolding). (own h).unkept) hands

-- what these hands have claimed is the places below how many they are, each claimed by one of them, once
pub record ShareOut (places : ℕ) (hands : List SheetHolding) : Type 0 where
  pub within : claimed_by hands ≤ places
  pub once : (place : ℕ) → place < claimed_by hands → claims_by place hands ≡ 1
  pub none_else : (place : ℕ) → claimed_by hands ≤ place → claims_by place hands ≡ 0
