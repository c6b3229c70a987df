-- A crew from its members.
use Rattle.std.proofs.Common.{ℕ, zero, suc, ◌≡◌, ◌<◌, All, List, [], ◌∷◌, length, get_or, Option, arith, subst}
use Rattle.catalog.specs.declared.catalogue.Catalogue.{Catalogue}
use Rattle.job_forms.specs.declared.job.Job.{Job}
use Rattle.source_render.specs.Renders.{GivenImage}
use Rattle.seed_jobs.specs.declared.member.Member.{Member}
use Rattle.seed_jobs.specs.Crews.{HaveWorked}
use Rattle.seed_jobs.specs.Members.{tallies_of, worker_of, workers_of}
use Rattle.seed_jobs.specs.Workers.{JobWorker}
use Rattle.seed_jobs.specs.Works.{Works}

module _ {K S G : Type 0} (tells : S → Option ℕ) (faults : S → ℕ) (gave : S → List GivenImage) where
  -- what holds of each worker holds of the one at a place
  pub each_of : (P : JobWorker → Type 0) (ms : List (Member K S G)) → All P (workers_of tells faults gave ms) → (i : ℕ) (d : Member K S G) → i < length ms → P (worker_of tells faults gave (get_or ms i d))
  each_of P [] all i d within = absurd (omega (arith, within))
  each_of P (m ∷ ms) all zero d within = all 0 (worker_of tells faults gave m) (omega arith)
  each_of P (m ∷ ms) all (suc i) d within = each_of P ms (λ k e below. all (suc k) e (omega (arith, below))) i d (omega (arith, within))

  module _ (c : Catalogue) (job : Job) where
    pub has_worked : (x y p q : Member K S G) → p ≡ x → q ≡ y → Works c job (worker_of tells faults gave p) (worker_of tells faults gave q) q.tally → Works c job (worker_of tells faults gave x) (worker_of tells faults gave y) y.tally
    has_worked x y p q first then works =
        subst (λ (m : Member K S G). Works c job (worker_of tells faults gave m) (worker_of tells faults gave y) y.tally) first (subst (λ (m : Member K S G). Works c job (worker_of tells faults gave p) (worker_of tells faults gave m) m.tally) then works)

    pub have_worked : (before after : List (Member K S G)) → length after ≡ length before
        → ((i : ℕ) (d : Member K S G) → i < length before → Works c job (worker_of tells faults gave (get_or before i d)) (worker_of tells faults gave (get_or after i d)) (get_or after i d).tally)
        → HaveWorked c job (workers_of tells faults gave before) (workers_of tells faults gave after) (tallies_of after)
    have_worked [] [] same each = tt
    have_worked [] (a ∷ after) same each = absurd (omega (arith, same))
    have_worked (b ∷ before) [] same each = absurd (omega (arith, same))
    have_worked (b ∷ before) (a ∷ after) same each =
        (each 0 b (omega arith), have_worked before after (omega (arith, same)) (λ i d within. each (suc i) d (omega (arith, within))))
