-- The words of a sound standing: how large they are, and what the claim word tells.
use Rattle.std.proofs.Common.{◌≡◌, ◌∙◌, ℕ, ◌+◌, ◌*◌, ◌%◌, ◌^◌, ◌<◌, ◌≤◌, suc, Bool, true, false, List, [], ◌∷◌, bit_and, bit_or, length, sum_by, get_or, sym, ap, arith, mod-eq_of_lt}
use Rattle.std.specs.Int.{bit_at}
use Rattle.std.proofs.lemmas.List.Sums.{sum_by-cons, sum_by-le}
use Rattle.std.proofs.lemmas.Nat.{and_or_self, or_disjoint}
use Rattle.std.proofs.lemmas.Nat.Bits.{and_pow}
use Rattle.std.specs.Int.Bits.{or_add_and}
use Rattle.job_board.specs.declared.standing.HandAccount.{HandAccount}
use Rattle.job_board.specs.declared.standing.HandEnd.{HandEnd}
use Rattle.job_board.specs.declared.standing.HandEnd.TheVariants.{AllClaimed, Cancelled, Open}
use Rattle.job_board.specs.declared.standing.SheetStanding.{SheetStanding}
use Rattle.job_board.specs.Standings.{IsSound, claimed_count, done_count, failed_count, fresh, unkept_count, vain, vain_count}
use Rattle.job_board.specs.Views.{claim_word, done_word, mark_of}

-- two sums are together within a third one, where each two terms are
sum_of_two : (f g h : HandAccount → ℕ) (xs : List HandAccount) → ((k : ℕ) → k < length xs → f (get_or xs k fresh) + g (get_or xs k fresh) ≤ h (get_or xs k fresh)) → sum_by f xs + sum_by g xs ≤ sum_by h xs
sum_of_two f g h [] each = omega arith
sum_of_two f g h (x ∷ xs) each =
    let first : f x + g x ≤ h x = each 0 (omega arith) in
    let others = sum_of_two f g h xs (λ k lt. each (suc k) (omega arith)) in
    let a = sum_by-cons f x xs in
    let b = sum_by-cons g x xs in
    let c = sum_by-cons h x xs in
    omega arith

-- a sum is within another one, where each term is
sum_of_one : (f h : HandAccount → ℕ) (xs : List HandAccount) → ((k : ℕ) → k < length xs → f (get_or xs k fresh) ≤ h (get_or xs k fresh)) → sum_by f xs ≤ sum_by h xs
sum_of_one f h [] each = omega arith
sum_of_one f h (x ∷ xs) each =
    let first : f x ≤ h x = each 0 (omega arith) in
    let others = sum_of_one f h xs (λ k lt. each (suc k) (omega arith)) in
    let a = sum_by-cons f x xs in
    let c = sum_by-cons h x xs in
    omega arith

-- THE MARK

no_bit : (n : ℕ) → n < 2 ^ 63 → bit_and n (2 ^ 63) ≡ 0
no_bit n h = and_pow n 63 ∙ (let e : bit_at n 63 ≡ 0 = omega arith in ap (λ (b : ℕ). b * 2 ^ 63) e)

-- the mark is set where it is not
pub marked : (n : ℕ) (b : Bool) → n < 2 ^ 63 → bit_or (n + mark_of b) (2 ^ 63) ≡ n + 2 ^ 63
marked n false h = ap (λ (m : ℕ). bit_or m (2 ^ 63)) (omega arith) ∙ or_disjoint n (2 ^ 63) (no_bit n h)
marked n true h =
    let e : bit_or n (2 ^ 63) ≡ n + 2 ^ 63 = or_disjoint n (2 ^ 63) (no_bit n h) in
    let s = or_add_and (bit_or n (2 ^ 63)) (2 ^ 63) in
    let t = and_or_self (2 ^ 63) n in
    let same : bit_or (bit_or n (2 ^ 63)) (2 ^ 63) ≡ bit_or n (2 ^ 63) = omega arith in
    ap (λ (m : ℕ). bit_or m (2 ^ 63)) (sym e) ∙ (same ∙ e)

-- THE CLAIM WORD

at_most_one : (end : HandEnd) → vain end ≤ 1
at_most_one Open = omega arith
at_most_one AllClaimed = omega arith
at_most_one Cancelled = omega arith

-- each hand has met None at most once
pub vain_few : (places hands : ℕ) (s : SheetStanding) → IsSound places hands s → vain_count s ≤ hands
vain_few places hands s sound =
    let t = sum_by-le (λ (a : HandAccount). vain a.end) 1 s.accounts (λ k d lt. at_most_one (get_or s.accounts k d).end) in
    let a = sound.all in
    omega arith

module _ (places hands : ℕ) (s : SheetStanding) (sound : IsSound places hands s) (few : places ≤ 10000000) (some_hands : hands ≤ 63) where
  pub count_small : claimed_count s + vain_count s ≤ 10000063
  count_small = let v = vain_few places hands s sound in let w = sound.within in omega arith

  mark_small : (b : Bool) → mark_of b ≤ 2 ^ 63
  mark_small true = omega arith
  mark_small false = omega arith

  -- one more claim keeps the word in its 64 bits
  pub one_more_fits : (claim_word s + 1) % 2 ^ 64 ≡ claim_word s + 1
  one_more_fits = let c = count_small in let m = mark_small s.cancelled in mod-eq_of_lt (omega arith)

-- THE REPORTS

-- no more places are reported than claimed
module _ (places hands : ℕ) (s : SheetStanding) (sound : IsSound places hands s) where
  pub reported_within : done_count s + failed_count s ≤ claimed_count s
  reported_within = let t = sum_of_two (λ (a : HandAccount). a.done) (λ (a : HandAccount). a.failed) (λ (a : HandAccount). length a.claimed) s.accounts (λ k lt. sound.reported k) in t

  pub done_within : done_count s ≤ places
  done_within = let r = reported_within in let w = sound.within in omega arith

  pub failed_within : failed_count s ≤ places
  failed_within = let r = reported_within in let w = sound.within in omega arith

  -- and no more are not kept than done
  pub unkept_within : unkept_count s ≤ done_count s
  unkept_within = sum_of_one (λ (a : HandAccount). a.unkept) (λ (a : HandAccount). a.done) s.accounts (λ k lt. sound.unkept k)

  -- one more place of either kind keeps the word in its 64 bits
  pub one_done_fits : places ≤ 10000000 → (done_word s + 1) % 2 ^ 64 ≡ done_word s + 1
  one_done_fits few = let d = done_within in let u = unkept_within in mod-eq_of_lt (omega arith)

  pub one_unkept_fits : places ≤ 10000000 → (done_word s + 4294967297) % 2 ^ 64 ≡ done_word s + 4294967297
  one_unkept_fits few = let d = done_within in let u = unkept_within in mod-eq_of_lt (omega arith)
