-- A sound standing stays sound: after a claim, a claim that met None, a report and a cancel.
use Rattle.std.proofs.Common.{◌≡◌, ◌∙◌, ℕ, ◌+◌, ◌*◌, ◌<◌, ◌≤◌, true, [], ◌∷◌, length, sum_by, replicate, sym, refl, ap, subst, arith, length-append, length-set}
use Rattle.std.proofs.lemmas.List.{length-replicate}
use Rattle.std.proofs.lemmas.List.Folds.{sum_by-replicate}
use mathlib.Core.Logic.{dite}
use native.Mathlib.Decide.{ℕ_discrete}
use Rattle.job_board.specs.declared.standing.HandAccount.{HandAccount}
use Rattle.job_board.specs.declared.standing.HandEnd.{HandEnd}
use Rattle.job_board.specs.declared.standing.HandEnd.TheVariants.{AllClaimed, Cancelled, Open}
use Rattle.job_board.specs.declared.standing.SheetStanding.{SheetStanding}
use Rattle.job_board.specs.Standings.{HasCause, IsSound, account, claimed_count, claims_of, ending, fresh, gaining, times, with_account}
use Rattle.job_board.specs.Hands.{fresh_standing}
use Rattle.job_board.specs.SheetCalls.{one_done, one_failed, one_unkept}
use Rattle.job_board.proofs.Counting.{at_another, at_itself, one_at, times_push}
use Rattle.job_board.proofs.Accounts.{each_account, fresh_at, sum_same, sum_with}

-- CLAIMS

module _ (places hands : ℕ) (s : SheetStanding) (sound : IsSound places hands s) (k : ℕ) (h : k < hands) where
  inside : k < length s.accounts
  inside = let a = sound.all in omega arith

  -- the next place is claimed
  module _ (room : claimed_count s < places) where
    abbrev next : ℕ
    next = claimed_count s

    abbrev gained : SheetStanding
    gained = with_account k (gaining next (account s k)) s

    pub count_gained : claimed_count gained ≡ next + 1
    count_gained =
        let t = sum_with (λ (a : HandAccount). length a.claimed) s k (gaining next (account s k)) inside in
        let l = length-append (account s k).claimed (next ∷ []) in
        omega arith

    claims_gained : (place : ℕ) → claims_of place gained ≡ claims_of place s + one_at place next
    claims_gained place =
        let t = sum_with (λ (a : HandAccount). times place a.claimed) s k (gaining next (account s k)) inside in
        let l = times_push place next (account s k).claimed in
        omega arith

    cause_gained : (end : HandEnd) → HasCause places s end → HasCause places gained end
    cause_gained Open c = tt
    cause_gained AllClaimed c = absurd (omega arith)
    cause_gained Cancelled c = c

    pub gains_soundly : IsSound places hands gained
    gains_soundly = record {
      all = length-set s.accounts k (gaining next (account s k)) ∙ sound.all;
      within = let c = count_gained in omega arith;
      once = λ place lt.
          let t = claims_gained place in
          let c = count_gained in
          dite (ℕ_discrete next place)
          (λ e. let o = sound.none_else place (omega arith) in let i = at_itself next in let j : one_at place next ≡ one_at next next = ap (λ (x : ℕ). one_at x next) (sym e) in omega arith)
          (λ ne. let o = sound.once place (omega arith) in let i = at_another place next ne in omega arith);
      none_else = λ place le.
          let t = claims_gained place in
          let c = count_gained in
          let o = sound.none_else place (omega arith) in
          let i = at_another place next (λ e. omega arith) in
          omega arith;
      cause = each_account (λ _ a. HasCause places gained a.end) s k (gaining next (account s k)) inside (cause_gained (account s k).end (sound.cause k)) (λ j. cause_gained (account s j).end (sound.cause j));
      reported = each_account (λ _ a. a.done + a.failed ≤ length a.claimed) s k (gaining next (account s k)) inside
          (let r = sound.reported k in let l = length-append (account s k).claimed (next ∷ []) in omega arith) sound.reported;
      unkept = each_account (λ _ a. a.unkept ≤ a.done) s k (gaining next (account s k)) inside (sound.unkept k) sound.unkept;
    }

  -- AN ACCOUNT CHANGES BUT ITS CLAIMS DON'T

  pub soundly_with : (a : HandAccount) → a.claimed ≡ (account s k).claimed → HasCause places s a.end → a.done + a.failed ≤ length a.claimed → a.unkept ≤ a.done → IsSound places hands (with_account k a s)
  soundly_with a same cause reported unkept = record {
    all = length-set s.accounts k a ∙ sound.all;
    within = let c = count in let w = sound.within in omega arith;
    once = λ place lt. let t = claims place in let c = count in let o = sound.once place (omega arith) in omega arith;
    none_else = λ place le. let t = claims place in let c = count in let o = sound.none_else place (omega arith) in omega arith;
    cause = each_account (λ _ b. HasCause places (with_account k a s) b.end) s k a inside (cause_with a.end cause) (λ j. cause_with (account s j).end (sound.cause j));
    reported = each_account (λ _ b. b.done + b.failed ≤ length b.claimed) s k a inside reported sound.reported;
    unkept = each_account (λ _ b. b.unkept ≤ b.done) s k a inside unkept sound.unkept;
  }
    where
      count : claimed_count (with_account k a s) ≡ claimed_count s
      count = sum_same (λ (b : HandAccount). length b.claimed) s k a inside (ap length same)

      claims : (place : ℕ) → claims_of place (with_account k a s) ≡ claims_of place s
      claims place = sum_same (λ (b : HandAccount). times place b.claimed) s k a inside (ap (times place) same)

      cause_with : (end : HandEnd) → HasCause places s end → HasCause places (with_account k a s) end
      cause_with Open c = tt
      cause_with AllClaimed c = count ∙ c
      cause_with Cancelled c = c

  pub ends_soundly : (end : HandEnd) → HasCause places s end → IsSound places hands (with_account k (ending end (account s k)) s)
  ends_soundly end cause = soundly_with (ending end (account s k)) refl cause (sound.reported k) (sound.unkept k)

  pub reports_done_soundly : (account s k).done + (account s k).failed < length (account s k).claimed → IsSound places hands (with_account k (one_done (account s k)) s)
  reports_done_soundly left = soundly_with (one_done (account s k)) refl (sound.cause k) (omega arith) (let u = sound.unkept k in omega arith)

  pub reports_unkept_soundly : (account s k).done + (account s k).failed < length (account s k).claimed → IsSound places hands (with_account k (one_unkept (account s k)) s)
  reports_unkept_soundly left = soundly_with (one_unkept (account s k)) refl (sound.cause k) (omega arith) (let u = sound.unkept k in omega arith)

  pub reports_failed_soundly : (account s k).done + (account s k).failed < length (account s k).claimed → IsSound places hands (with_account k (one_failed (account s k)) s)
  reports_failed_soundly left = soundly_with (one_failed (account s k)) refl (sound.cause k) (omega arith) (sound.unkept k)

-- CANCELLING

pub cancels_soundly : (places hands : ℕ) (s : SheetStanding) → IsSound places hands s → IsSound places hands (record s { cancelled = true })
cancels_soundly places hands s sound = record {
  all = sound.all;
  within = sound.within;
  once = sound.once;
  none_else = sound.none_else;
  cause = λ j. cause_after (account s j).end (sound.cause j);
  reported = sound.reported;
  unkept = sound.unkept;
}
  where
    cause_after : (end : HandEnd) → HasCause places s end → HasCause places (record s { cancelled = true }) end
    cause_after Open c = tt
    cause_after AllClaimed c = c
    cause_after Cancelled c = refl

-- THE START

-- a sum over fresh accounts
pub no_sum : (hands : ℕ) (f : HandAccount → ℕ) → f fresh ≡ 0 → sum_by f (replicate hands fresh) ≡ 0
no_sum hands f e = sum_by-replicate f hands fresh ∙ (ap (λ (n : ℕ). hands * n) e ∙ omega arith)

pub nothing_sound : (places hands : ℕ) → IsSound places hands (fresh_standing hands)
nothing_sound places hands = record {
  all = length-replicate hands fresh;
  within = let c = no_sum hands (λ (a : HandAccount). length a.claimed) refl in omega arith;
  once = λ place lt. let c = no_sum hands (λ (a : HandAccount). length a.claimed) refl in absurd (omega arith);
  none_else = λ place le. no_sum hands (λ (a : HandAccount). times place a.claimed) refl;
  cause = λ j. subst (λ (a : HandAccount). HasCause places (fresh_standing hands) a.end) (sym (fresh_at hands j)) tt;
  reported = λ j. subst (λ (a : HandAccount). a.done + a.failed ≤ length a.claimed) (sym (fresh_at hands j)) (omega arith);
  unkept = λ j. subst (λ (a : HandAccount). a.unkept ≤ a.done) (sym (fresh_at hands j)) (omega arith);
}
