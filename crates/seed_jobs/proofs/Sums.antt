-- The counts of a crew's members stay small.
use Rattle.std.proofs.Common.{ℕ, zero, suc, ◌+◌, ◌<◌, ◌≤◌, ◌^◌, All, List, [], ◌∷◌, length, get_or, take, arith}
use Rattle.std.specs.List.{sum_by}
use Rattle.std.proofs.lemmas.List.Sums.{sum_by-le, sum_by_more_le}
use Rattle.job_places.specs.declared.tally.Tally.{Tally}
use Rattle.seed_jobs.specs.declared.member.Member.{Member}
use Rattle.seed_jobs.specs.Members.{tallies_of}

module _ {K S G : Type 0} (count : Tally → ℕ) where
  few_each : (ms : List (Member K S G)) → All (λ (t : Tally). count t ≤ 10000000) (tallies_of ms) → All (λ (m : Member K S G). count m.tally ≤ 10000000) ms
  few_each [] all k d within = absurd (omega (arith, within))
  few_each (m ∷ ms) all zero d within = all 0 m.tally (omega arith)
  few_each (m ∷ ms) all (suc k) d within = few_each ms (λ i e below. all (suc i) e (omega (arith, below))) k d (omega (arith, within))

  pub fits : (ms : List (Member K S G)) → length ms ≤ 63 → All (λ (t : Tally). count t ≤ 10000000) (tallies_of ms) → (i : ℕ) (d : Member K S G) → i < length ms → sum_by (λ m. count m.tally) (take i ms) + count (get_or ms i d).tally < 2 ^ 64
  fits ms few all i d within =
      let part = sum_by_more_le (λ (m : Member K S G). count m.tally) ms i d within in
      let whole = sum_by-le (λ (m : Member K S G). count m.tally) 10000000 ms (few_each ms all) in
      omega (arith, part, whole, few)
