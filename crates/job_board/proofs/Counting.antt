-- How often a number stands in a list.
use Rattle.std.proofs.Common.{◌≡◌, ◌∙◌, ◌≢◌, ℕ, suc, ◌+◌, ◌<◌, ◌≤◌, ◌==◌, cond, List, [], ◌∷◌, ◌++◌, Contains, get_or, length, refl, ap, subst, arith, length-append}
use Rattle.std.proofs.lemmas.List.Sums.{get_or-le-sum_by, sum_by-append, sum_by-cons, sum_by_push}
use mathlib.Core.Logic.{dite}
use native.Mathlib.Decide.{ℕ_discrete}
use Rattle.job_board.specs.declared.standing.HandAccount.{HandAccount}
use Rattle.job_board.specs.Standings.{times}
use Rattle.job_board.specs.Hands.{AreReports}
use Rattle.job_board.specs.SheetCalls.{one_done, one_failed, one_unkept}

-- 1 for the number itself
abbrev pub one_at : ℕ → ℕ → ℕ
one_at x y = cond (y == x) 1 0

pub at_itself : (x : ℕ) → one_at x x ≡ 1
at_itself x = grind arith

pub at_another : (x y : ℕ) → y ≢ x → one_at x y ≡ 0
at_another x y ne = grind arith

pub times_push : (x y : ℕ) (xs : List ℕ) → times x (xs ++ y ∷ []) ≡ times x xs + one_at x y
times_push x y xs = sum_by_push (one_at x) xs y

times_cons : (x y : ℕ) (xs : List ℕ) → times x (y ∷ xs) ≡ one_at x y + times x xs
times_cons x y xs = sum_by-cons (one_at x) y xs

pub times_append : (x : ℕ) (xs ys : List ℕ) → times x (xs ++ ys) ≡ times x xs + times x ys
times_append x xs ys = sum_by-append (one_at x) xs ys

pub times_some : (xs : List ℕ) (x : ℕ) → Contains xs x → 1 ≤ times x xs
times_some xs x (k, lt, is) =
    let t = get_or-le-sum_by (one_at x) xs k x lt in
    let e : one_at x (get_or xs k x) ≡ one_at x x = ap (one_at x) is in
    let i = at_itself x in
    omega arith

times_none : (xs : List ℕ) (x : ℕ) → ¬ (Contains xs x) → times x xs ≡ 0
times_none [] x n = refl
times_none (y ∷ xs) x n = dite (ℕ_discrete y x)
    (λ e. absurd (n (0, omega arith, e)))
    (λ ne. let t = times_cons x y xs in let a = at_another x y ne in let r = times_none xs x (λ c. n (suc c.0, let l = c.1 in omega arith, c.2)) in omega arith)

-- ys without one x
taken : (x : ℕ) (ys : List ℕ) → 1 ≤ times x ys → (zs : List ℕ) × (length ys ≡ suc (length zs)) × ((p : ℕ) → times p ys ≡ one_at p x + times p zs)
taken x [] some = absurd (omega arith)
taken x (y ∷ ys) some = dite (ℕ_discrete y x)
    (λ e. (ys, refl, λ p. times_cons p y ys ∙ ap (λ (z : ℕ). one_at p z + times p ys) e))
    (λ ne.
    let t = times_cons x y ys in
    let a = at_another x y ne in
    let r = taken x ys (omega arith) in (
      y ∷ r.0,
      ap suc r.1,
      λ p. let u = times_cons p y ys in let w = times_cons p y r.0 in let v = r.2 p in omega arith,
    ))

-- a list in which each number stands no more often is no longer
pub no_longer : (xs ys : List ℕ) → ((p : ℕ) → times p xs ≤ times p ys) → length xs ≤ length ys
no_longer [] ys less = omega arith
no_longer (x ∷ xs) ys less =
    let t = times_cons x x xs in
    let i = at_itself x in
    let l = less x in
    let r = taken x ys (omega arith) in
    let h = no_longer xs r.0 (λ p. let a = times_cons p x xs in let b = r.2 p in let c = less p in omega arith) in
    let e = r.1 in
    omega arith

-- A REPORT

module _ (a : HandAccount) (done failed : List ℕ) (reports : AreReports a done failed) (place : ℕ) (claimed : Contains a.claimed place) (not_done : ¬ (Contains done place)) (not_failed : ¬ (Contains failed place)) where
  -- the place can be reported once more
  room : (p : ℕ) → one_at p place + times p done + times p failed ≤ times p a.claimed
  room p = dite (ℕ_discrete place p)
      (λ e.
      let d = times_none done place not_done in
      let f = times_none failed place not_failed in
      let c = times_some a.claimed place claimed in
      let i = at_itself place in
      subst (λ (x : ℕ). one_at x place + times x done + times x failed ≤ times x a.claimed) e (omega arith))
      (λ ne. let n = at_another p place ne in let r = reports.of_claimed p in omega arith)

  pub some_unreported : a.done + a.failed < length a.claimed
  some_unreported =
      let l = no_longer (place ∷ (done ++ failed)) a.claimed (λ p. let t = times_cons p place (done ++ failed) in let u = times_append p done failed in let r = room p in omega arith) in
      let m = length-append done failed in
      let d = reports.done_is in
      let f = reports.failed_is in
      omega arith

  pub reports_after_done : AreReports (one_done a) (done ++ place ∷ []) failed
  reports_after_done = record {
    done_is = let l = length-append done (place ∷ []) in let d = reports.done_is in omega arith;
    failed_is = reports.failed_is;
    of_claimed = λ p. let t = times_push p place done in let r = room p in omega arith;
  }

  pub reports_after_unkept : AreReports (one_unkept a) (done ++ place ∷ []) failed
  reports_after_unkept = record {
    done_is = let l = length-append done (place ∷ []) in let d = reports.done_is in omega arith;
    failed_is = reports.failed_is;
    of_claimed = λ p. let t = times_push p place done in let r = room p in omega arith;
  }

  pub reports_after_failed : AreReports (one_failed a) done (failed ++ place ∷ [])
  reports_after_failed = record {
    done_is = reports.done_is;
    failed_is = let l = length-append failed (place ∷ []) in let d = reports.failed_is in omega arith;
    of_claimed = λ p. let t = times_push p place failed in let r = room p in omega arith;
  }
