-- The members of a crew as workers.
use Rattle.std.specs.Prelude.{ℕ, List, map, Option}
use Rattle.job_places.specs.declared.tally.Tally.{Tally}
use Rattle.source_render.specs.Renders.{GivenImage, renders}
use Rattle.seed_jobs.specs.declared.member.Member.{Member}
use Rattle.seed_jobs.specs.Workers.{JobWorker}

-- by which number a source tells, how often it has failed, and what it gave
module _ {K S G : Type 0} (tells : S → Option ℕ) (faults : S → ℕ) (gave : S → List GivenImage) where
  abbrev pub worker_of : Member K S G → JobWorker
  worker_of m = record { hand = m.hand; pass = m.pass; source = tells m.source; renders = renders (faults m.source) (gave m.source) }

  abbrev pub workers_of : List (Member K S G) → List JobWorker
  workers_of ms = map worker_of ms

module _ {K S G : Type 0} where
  abbrev pub tallies_of : List (Member K S G) → List Tally
  tallies_of ms = map (λ (m : Member K S G). m.tally) ms
