-- Accounts and standings: what a change of one hand's account does to them.
use Rattle.std.proofs.Common.{◌≡◌, ◌∙◌, ◌≢◌, ℕ, ◌+◌, ◌<◌, ◌≤◌, List, [], ◌∷◌, ◌++◌, Option, Some, None, get_or, replicate, length, sum_by, true≢false, sym, refl, ap, subst, arith, append-nil, append_assoc, get_or-set_same, get_or-set_other}
use Rattle.std.proofs.lemmas.List.{get_or-replicate, length-replicate}
use lib.ListN.{get_or-eq_default}
use Rattle.std.proofs.lemmas.List.Sums.{get_or-le-sum_by, sum_by-set}
use mathlib.Core.Logic.{dite}
use native.Mathlib.Decide.{ℕ_discrete, dec_lt}
use Rattle.job_board.specs.declared.standing.HandAccount.{HandAccount}
use Rattle.job_board.specs.declared.standing.HandEnd.{HandEnd}
use Rattle.job_board.specs.declared.standing.HandEnd.TheVariants.{Open}
use Rattle.job_board.specs.declared.standing.SheetStanding.{SheetStanding}
use Rattle.job_board.specs.Standings.{Later, LaterAccount, account, ending, fresh, gaining, with_account}
use Rattle.job_board.specs.Hands.{fresh_standing, own_of}
use Rattle.job_board.specs.SheetCalls.{one_done, one_failed, one_unkept}

-- LATER ACCOUNTS

pub same_account : (a : HandAccount) → LaterAccount a a
same_account a = record { claimed = ([], sym (append-nil a.claimed)); done = omega arith; unkept = omega arith; unkept_done = omega arith; failed = omega arith; ended = λ _. (refl, refl) }

pub after_fresh : (a : HandAccount) → a.unkept ≤ a.done → LaterAccount fresh a
after_fresh a within = record { claimed = (a.claimed, refl); done = omega arith; unkept = omega arith; unkept_done = omega arith; failed = omega arith; ended = λ n. absurd (n refl) }

pub still_later : (a b c : HandAccount) → LaterAccount a b → LaterAccount b c → LaterAccount a c
still_later a b c p q = record {
  claimed =
      let m = p.claimed in
      let n = q.claimed in
      (m.0 ++ n.0, n.1 ∙ (ap (λ (l : List ℕ). l ++ n.0) m.1 ∙ append_assoc a.claimed m.0 n.0));
  done = let m = p.done in let n = q.done in omega arith;
  unkept = let m = p.unkept in let n = q.unkept in omega arith;
  unkept_done = let m = p.unkept_done in let n = q.unkept_done in omega arith;
  failed = let m = p.failed in let n = q.failed in omega arith;
  ended = λ ne.
      let m = p.ended ne in
      let n = q.ended (λ e. ne (sym m.1 ∙ e)) in
      (n.0 ∙ m.0, n.1 ∙ m.1);
}

pub later_gaining : (place : ℕ) (a : HandAccount) → a.end ≡ Open → LaterAccount a (gaining place a)
later_gaining place a is_open = record { claimed = (place ∷ [], refl); done = omega arith; unkept = omega arith; unkept_done = omega arith; failed = omega arith; ended = λ n. absurd (n is_open) }

pub later_ending : (end : HandEnd) (a : HandAccount) → a.end ≡ Open → LaterAccount a (ending end a)
later_ending end a is_open = record { claimed = ([], sym (append-nil a.claimed)); done = omega arith; unkept = omega arith; unkept_done = omega arith; failed = omega arith; ended = λ n. absurd (n is_open) }

pub later_done : (a : HandAccount) → LaterAccount a (one_done a)
later_done a = record { claimed = ([], sym (append-nil a.claimed)); done = omega arith; unkept = omega arith; unkept_done = omega arith; failed = omega arith; ended = λ _. (refl, refl) }

pub later_unkept : (a : HandAccount) → LaterAccount a (one_unkept a)
later_unkept a = record { claimed = ([], sym (append-nil a.claimed)); done = omega arith; unkept = omega arith; unkept_done = omega arith; failed = omega arith; ended = λ _. (refl, refl) }

pub later_failed : (a : HandAccount) → LaterAccount a (one_failed a)
later_failed a = record { claimed = ([], sym (append-nil a.claimed)); done = omega arith; unkept = omega arith; unkept_done = omega arith; failed = omega arith; ended = λ _. (refl, refl) }

-- ONE ACCOUNT OF A STANDING

pub account_here : (s : SheetStanding) (k : ℕ) (a : HandAccount) → k < length s.accounts → account (with_account k a s) k ≡ a
account_here s k a h = get_or-set_same s.accounts k a fresh h

pub account_else : (s : SheetStanding) (k j : ℕ) (a : HandAccount) → j ≢ k → account (with_account k a s) j ≡ account s j
account_else s k j a ne = get_or-set_other s.accounts k j a fresh ne

-- a fact of the new account and of each other one is a fact of each account
pub each_account : (P : ℕ → HandAccount → Type 0) (s : SheetStanding) (k : ℕ) (a : HandAccount) → k < length s.accounts → P k a → ((j : ℕ) → P j (account s j)) → (j : ℕ) → P j (account (with_account k a s) j)
each_account P s k a h new old j = dite (ℕ_discrete j k)
    (λ e. subst (λ (x : ℕ). P x (account (with_account k a s) x)) (sym e) (subst (P k) (sym (account_here s k a h)) new))
    (λ ne. subst (P j) (sym (account_else s k j a ne)) (old j))

pub same_own : (o : Option ℕ) (a b : SheetStanding) → ((k : ℕ) → o ≡ Some k → account a k ≡ account b k) → own_of o a ≡ own_of o b
same_own None a b same = refl
same_own (Some k) a b same = same k refl

-- a sum over all accounts, after one became another
pub sum_with : (f : HandAccount → ℕ) (s : SheetStanding) (k : ℕ) (a : HandAccount) → k < length s.accounts → sum_by f (with_account k a s).accounts + f (account s k) ≡ sum_by f s.accounts + f a
sum_with f s k a h = sum_by-set f s.accounts k a fresh h

pub sum_same : (f : HandAccount → ℕ) (s : SheetStanding) (k : ℕ) (a : HandAccount) → k < length s.accounts → f a ≡ f (account s k) → sum_by f (with_account k a s).accounts ≡ sum_by f s.accounts
sum_same f s k a h e = let t = sum_with f s k a h in omega arith

pub one_of_sum : (f : HandAccount → ℕ) (s : SheetStanding) (k : ℕ) → k < length s.accounts → f (account s k) ≤ sum_by f s.accounts
one_of_sum f s k h = get_or-le-sum_by f s.accounts k fresh h

-- LATER STANDINGS

pub same_standing : (s : SheetStanding) → Later s s
same_standing s = record { accounts = λ j. same_account (account s j); cancelled = λ c. c }

pub later_than : (a b c : SheetStanding) → Later a b → Later b c → Later a c
later_than a b c p q = record { accounts = λ j. still_later (account a j) (account b j) (account c j) (p.accounts j) (q.accounts j); cancelled = λ e. q.cancelled (p.cancelled e) }

pub later_with : (s : SheetStanding) (k : ℕ) (a : HandAccount) → k < length s.accounts → LaterAccount (account s k) a → Later s (with_account k a s)
later_with s k a h p = record { accounts = each_account (λ j b. LaterAccount (account s j) b) s k a h p (λ j. same_account (account s j)); cancelled = λ c. c }

-- no account, and fresh accounts, are fresh accounts at each number
pub fresh_at : (n k : ℕ) → get_or (replicate n fresh) k fresh ≡ fresh
fresh_at n k = dite (dec_lt k n) (λ h. get_or-replicate n k fresh fresh h) (λ h. get_or-eq_default (replicate n fresh) fresh (let l = length-replicate n fresh in omega arith))

pub nothing_yet : (n : ℕ) (now : SheetStanding) → ((k : ℕ) → (account now k).unkept ≤ (account now k).done) → Later (fresh_standing n) now
nothing_yet n now within = record { accounts = λ j. subst (λ a. LaterAccount a (account now j)) (sym (fresh_at n j)) (after_fresh (account now j) (within j)); cancelled = λ e. absurd (true≢false (sym e)) }
