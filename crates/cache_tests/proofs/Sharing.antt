-- Two hands of a sheet that worked, the second of which was gathered by the first.
use Rattle.std.proofs.Common.{◌≡◌, ◌∙◌, ◌≢◌, ℕ, zero, suc, ◌+◌, ◌<◌, false, true≢false, List, [], ◌∷◌, Option, Some, None, Contains, length, slice_get, sym, refl, ap, subst, arith}
use Rattle.job_board.specs.declared.progress.Progress.{Progress}
use Rattle.job_board.specs.declared.standing.HandAccount.{HandAccount}
use Rattle.job_board.specs.declared.standing.HandEnd.{HandEnd}
use Rattle.job_board.specs.declared.standing.HandEnd.TheVariants.{AllClaimed, Cancelled, Open}
use Rattle.job_board.specs.Standings.{HasCause, Later, LaterAccount, account}
use Rattle.job_board.specs.Hands.{HasGathered, Sheet, SheetHolding, own, own_of}
use Rattle.job_board.specs.SheetCalls.{Gathers, Tells, claimed_by}
use Rattle.job_board.proofs.Accounts.{later_than, same_account}
use Rattle.cache_tests.specs.Worked.{HasWorked}
use Rattle.cache_tests.proofs.Popped.{some_is}

own_at : (h : SheetHolding) (k : ℕ) → h.number ≡ Some k → own h ≡ account h.seen k
own_at h k e = ap (λ (o : Option ℕ). own_of o h.seen) e

none_some : (h : SheetHolding) → ◌≡◌ {A = Option SheetHolding} None (Some h) → ⊥
none_some h e = absurd (cc)

module _ (sheet : Sheet) (a b c d : SheetHolding) (m n : ℕ) (p : Progress) (two : sheet.hands ≡ 2) (first : HasWorked sheet (Some 0) m a) (second : HasWorked sheet (Some 1) n b) (gathers : Gathers a b c) (tells : Tells c d p) where
  number_is : d.number ≡ Some 0
  number_is = ap (λ (h : SheetHolding). h.number) tells.is ∙ (ap (λ (h : SheetHolding). h.number) gathers.is ∙ first.number_is)

  sheet_is : d.sheet ≡ sheet
  sheet_is = ap (λ (h : SheetHolding). h.sheet) tells.is ∙ (ap (λ (h : SheetHolding). h.sheet) gathers.is ∙ first.of)

  own_is : own d ≡ own a
  own_is = tells.own_is ∙ gathers.own_is

  has_ended : (own d).end ≢ Open
  has_ended e = first.ended (sym (ap (λ (x : HandAccount). x.end) own_is) ∙ e)

  heard : Later b.seen d.seen
  heard = later_than b.seen c.seen d.seen gathers.heard
      (later_than c.seen tells.second d.seen (later_than c.seen tells.first tells.second tells.finds.later tells.then_finds.later) tells.then_sees.later)

  abbrev both : List SheetHolding
  both = d ∷ b ∷ []

  -- what the gatherer knows of each of the two
  abbrev Known : ℕ → SheetHolding → Type 0
  Known k h = (h.number ≡ Some k) × LaterAccount (own h) (account d.seen k) × ((own h).end ≢ Open)

  of_first : Known 0 d
  of_first = (number_is, subst (LaterAccount (own d)) (own_at d 0 number_is) (same_account (own d)), has_ended)

  of_second : Known 1 b
  of_second = (second.number_is, subst (λ (x : HandAccount). LaterAccount x (account d.seen 1)) (sym (own_at b 1 second.number_is)) (heard.accounts 1), second.ended)

  has_gathered : HasGathered d both
  has_gathered = record { count = let s : d.sheet.hands ≡ sheet.hands = ap (λ (x : Sheet). x.hands) sheet_is in omega arith; each = each }
    where
      each : (k : ℕ) (h : SheetHolding) → slice_get both k ≡ Some h → Known k h
      each zero h e = subst (Known 0) (some_is d h e) of_first
      each (suc zero) h e = subst (Known 1) (some_is b h e) of_second
      each (suc (suc k)) h e = absurd (none_some h e)

  -- while the job was not cancelled, a hand met None as all places were claimed
  all_claimed : d.seen.cancelled ≡ false → (own d).end ≡ AllClaimed
  all_claimed running = by (own d).end has_ended (subst (λ (x : HandAccount). HasCause d.sheet.places d.seen x.end) (sym (own_at d 0 number_is)) sound_cause)
    where
      sound_cause : HasCause d.sheet.places d.seen (account d.seen 0).end
      sound_cause = subst (λ (x : ℕ). HasCause x d.seen (account d.seen 0).end) (sym (ap (λ (h : SheetHolding). h.sheet.places) tells.is)) (let s = tells.then_sees.sound in s.cause 0)

      by : (end : HandEnd) → end ≢ Open → HasCause d.sheet.places d.seen end → end ≡ AllClaimed
      by Open ne cause = absurd (ne refl)
      by AllClaimed ne cause = refl
      by Cancelled ne cause = absurd (true≢false (sym cause ∙ running))

  pub shared_out : p.cancelled ≡ false → ((hands : List SheetHolding) (h : SheetHolding) → HasGathered d hands → Contains hands h → (own h).end ≡ AllClaimed → claimed_by hands ≡ sheet.places) → m + n ≡ sheet.places
  shared_out running all =
      let claimed : claimed_by both ≡ sheet.places = all both d has_gathered (0, omega arith, refl) (all_claimed (sym tells.cancelled ∙ running)) in
      let x : length (own d).claimed ≡ m = ap (λ (y : HandAccount). length y.claimed) own_is ∙ first.count_is in
      let y = second.count_is in
      omega arith
