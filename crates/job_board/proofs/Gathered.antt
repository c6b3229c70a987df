-- What a hand knows that gathered all hands of its sheet.
use Rattle.std.proofs.Common.{◌≡◌, ◌∙◌, ◌≢◌, ℕ, zero, suc, ◌+◌, ◌<◌, ◌≤◌, List, [], ◌∷◌, ◌++◌, Option, Some, None, Contains, get_or, length, slice_get, sum_by, sym, refl, ap, subst, arith}
use Rattle.std.proofs.lemmas.List.Sums.{sum_by-cons}
use mathlib.Core.Logic.{dite}
use native.Mathlib.Decide.{dec_lt}
use Rattle.job_board.specs.declared.standing.HandAccount.{HandAccount}
use Rattle.job_board.specs.declared.standing.HandEnd.TheVariants.{AllClaimed, Open}
use Rattle.job_board.specs.declared.standing.SheetStanding.{SheetStanding}
use Rattle.job_board.specs.Standings.{HasCause, IsSound, Later, account, claimed_count, claims_of, done_count, failed_count, fresh, times, unkept_count}
use Rattle.job_board.specs.Hands.{AreApart, HasGathered, SheetHolding, own, own_of}
use Rattle.job_board.specs.SheetCalls.{Gathers, HasEnded, ShareOut, claimed_by, claims_by, done_by, failed_by, unkept_by}
use Rattle.job_board.proofs.Counting.{times_append, times_some}

-- a sum over hands is one over as many accounts, where each two terms are one
sum_over : (f : SheetHolding → ℕ) (g : HandAccount → ℕ) (hs : List SheetHolding) (xs : List HandAccount) → length hs ≡ length xs → ((k : ℕ) (h : SheetHolding) → slice_get hs k ≡ Some h → f h ≡ g (get_or xs k fresh)) → sum_by f hs ≡ sum_by g xs
sum_over f g [] [] e each = refl
sum_over f g [] (x ∷ xs) e each = absurd (omega arith)
sum_over f g (h ∷ hs) [] e each = absurd (omega arith)
sum_over f g (h ∷ hs) (x ∷ xs) e each =
    let first : f h ≡ g x = each 0 h refl in
    let others = sum_over f g hs xs (omega arith) (λ k o s. each (suc k) o s) in
    let a = sum_by-cons f h hs in
    let b = sum_by-cons g x xs in
    omega arith

get_at : {A : Type 0} (xs : List A) (k : ℕ) (d : A) → k < length xs → slice_get xs k ≡ Some (get_or xs k d)
get_at [] k d lt = absurd (omega arith)
get_at (x ∷ xs) zero d lt = refl
get_at (x ∷ xs) (suc k) d lt = get_at xs k d (omega arith)

module _ (gatherer : SheetHolding) (hands : List SheetHolding) (sound : IsSound gatherer.sheet.places gatherer.sheet.hands gatherer.seen) (gathered : HasGathered gatherer hands) where
  same_length : length hands ≡ length gatherer.seen.accounts
  same_length = gathered.count ∙ sym sound.all

  -- each hand's claims are those that the gatherer has seen
  same_claims : (k : ℕ) (h : SheetHolding) → slice_get hands k ≡ Some h → (own h).claimed ≡ (account gatherer.seen k).claimed
  same_claims k h e = let g = gathered.each k h e in let l = g.1 in sym (l.ended g.2).0

  as_many : claimed_by hands ≡ claimed_count gatherer.seen
  as_many = sum_over (λ (h : SheetHolding). length (own h).claimed) (λ (a : HandAccount). length a.claimed) hands gatherer.seen.accounts same_length (λ k h e. ap length (same_claims k h e))

  as_often : (place : ℕ) → claims_by place hands ≡ claims_of place gatherer.seen
  as_often place = sum_over (λ (h : SheetHolding). times place (own h).claimed) (λ (a : HandAccount). times place a.claimed) hands gatherer.seen.accounts same_length (λ k h e. ap (times place) (same_claims k h e))

  pub shares_out : ShareOut gatherer.sheet.places hands
  shares_out = record {
    within = let c = as_many in let w = sound.within in omega arith;
    once = λ place lt. let c = as_many in as_often place ∙ sound.once place (omega arith);
    none_else = λ place le. let c = as_many in as_often place ∙ sound.none_else place (omega arith);
  }

  pub all_places : (h : SheetHolding) → Contains hands h → (own h).end ≡ AllClaimed → claimed_by hands ≡ gatherer.sheet.places
  all_places h (k, lt, is) e =
      let g = gathered.each k h (get_at hands k h lt ∙ ap (λ (x : SheetHolding). Some x) is) in
      let l = g.1 in
      let ended : (account gatherer.seen k).end ≡ AllClaimed = (l.ended g.2).1 ∙ e in
      as_many ∙ subst (HasCause gatherer.sheet.places gatherer.seen) ended (sound.cause k)

  -- where each hand has reported all that it claimed, the gatherer has seen the end
  module _ (reported : (k : ℕ) (h : SheetHolding) → slice_get hands k ≡ Some h → (own h).done + (own h).failed ≡ length (own h).claimed) where
    as_reported : (k : ℕ) (h : SheetHolding) → slice_get hands k ≡ Some h → ((own h).done ≡ (account gatherer.seen k).done) × ((own h).failed ≡ (account gatherer.seen k).failed) × ((own h).unkept ≡ (account gatherer.seen k).unkept)
    as_reported k h e =
        let g = gathered.each k h e in
        let l = g.1 in
        let same = ap length (same_claims k h e) in
        let d = l.done in
        let f = l.failed in
        let all = reported k h e in
        let within = sound.reported k in
        let u = l.unkept in
        let v = l.unkept_done in
        (omega arith, omega arith, omega arith)

    done_as_many : done_by hands ≡ done_count gatherer.seen
    done_as_many = sum_over (λ (h : SheetHolding). (own h).done) (λ (a : HandAccount). a.done) hands gatherer.seen.accounts same_length (λ k h e. (as_reported k h e).0)

    failed_as_many : failed_by hands ≡ failed_count gatherer.seen
    failed_as_many = sum_over (λ (h : SheetHolding). (own h).failed) (λ (a : HandAccount). a.failed) hands gatherer.seen.accounts same_length (λ k h e. (as_reported k h e).1)

    unkept_as_many : unkept_by hands ≡ unkept_count gatherer.seen
    unkept_as_many = sum_over (λ (h : SheetHolding). (own h).unkept) (λ (a : HandAccount). a.unkept) hands gatherer.seen.accounts same_length (λ k h e. (as_reported k h e).2)

    settled_at : (k : ℕ) (h : SheetHolding) → slice_get hands k ≡ Some h → ((account gatherer.seen k).end ≢ Open) × ((account gatherer.seen k).done + (account gatherer.seen k).failed ≡ length (account gatherer.seen k).claimed)
    settled_at k h e =
        let g = gathered.each k h e in
        let l = g.1 in
        let same = ap length (same_claims k h e) in
        let r = as_reported k h e in
        let d = r.0 in
        let f = r.1 in
        let all = reported k h e in
        (λ still. g.2 (sym (l.ended g.2).1 ∙ still), omega arith)

    pub sees_end : HasEnded gatherer.sheet.hands gatherer.seen (done_by hands) (failed_by hands) (unkept_by hands)
    sees_end = record {
      settled = λ k below. let c = gathered.count in settled_at k (get_or hands k gatherer) (get_at hands k gatherer (omega arith));
      done_is = done_as_many;
      failed_is = failed_as_many;
      unkept_is = unkept_as_many;
    }

-- NO PLACE IN COMMON

module _ (f : HandAccount → ℕ) (none : f fresh ≡ 0) where
  -- a term of a sum, and two of them at two places, are within it
  one_of_sum : (xs : List HandAccount) (k : ℕ) → f (get_or xs k fresh) ≤ sum_by f xs
  one_of_sum [] k = omega arith
  one_of_sum (x ∷ xs) zero = let c = sum_by-cons f x xs in omega arith
  one_of_sum (x ∷ xs) (suc k) = let c = sum_by-cons f x xs in let h = one_of_sum xs k in omega arith

  two_of_sum : (xs : List HandAccount) (j k : ℕ) → j ≢ k → f (get_or xs j fresh) + f (get_or xs k fresh) ≤ sum_by f xs
  two_of_sum [] j k ne = omega arith
  two_of_sum (x ∷ xs) zero zero ne = absurd (ne refl)
  two_of_sum (x ∷ xs) zero (suc k) ne = let c = sum_by-cons f x xs in let h = one_of_sum xs k in omega arith
  two_of_sum (x ∷ xs) (suc j) zero ne = let c = sum_by-cons f x xs in let h = one_of_sum xs j in omega arith
  two_of_sum (x ∷ xs) (suc j) (suc k) ne = let c = sum_by-cons f x xs in let h = two_of_sum xs j k (λ e. ne (ap suc e)) in omega arith

module _ (places hands : ℕ) (s : SheetStanding) (sound : IsSound places hands s) where
  once_at_most : (place : ℕ) → claims_of place s ≤ 1
  once_at_most place = dite (dec_lt place (claimed_count s))
      (λ lt. let o = sound.once place lt in omega arith)
      (λ le. let o = sound.none_else place (omega arith) in omega arith)

  -- the accounts of two hands, as the one has left it and as it was seen of the other
  apart_in : (o o' : Option ℕ) (mine theirs : SheetStanding) → own_of o s ≡ own_of o mine → Later theirs s → o ≢ o' → (place : ℕ) → Contains (own_of o mine).claimed place → Contains (own_of o' theirs).claimed place → ⊥
  apart_in None o' mine theirs same later ne place (k, lt, is) c' = absurd (omega arith)
  apart_in (Some j) None mine theirs same later ne place c (k, lt, is) = absurd (omega arith)
  apart_in (Some j) (Some k) mine theirs same later ne place c c' =
      let l = later.accounts k in
      let m = l.claimed in
      let a = times_some (account mine j).claimed place c in
      let a' : times place (account s j).claimed ≡ times place (account mine j).claimed = ap (λ (x : HandAccount). times place x.claimed) same in
      let b = times_some (account theirs k).claimed place c' in
      let b' : times place (account s k).claimed ≡ times place ((account theirs k).claimed ++ m.0) = ap (times place) m.1 in
      let b'' = times_append place (account theirs k).claimed m.0 in
      let t = two_of_sum (λ (x : HandAccount). times place x.claimed) refl s.accounts j k (λ e. ne (ap (λ (n : ℕ). Some n) e)) in
      let o = once_at_most place in
      absurd (omega arith)

pub apart : (before other after : SheetHolding) → Gathers before other after → AreApart before other
apart before other after g ne place c c' =
    apart_in before.sheet.places before.sheet.hands after.seen g.finds.sound before.number other.number before.seen other.seen g.finds.own_is g.heard ne place c c'
