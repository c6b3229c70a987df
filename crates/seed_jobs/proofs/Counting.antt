-- How many members there are while a crew works.
use Rattle.std.proofs.Common.{ℕ, ◌≡◌, ◌+◌, ◌++◌, List, Option, length, arith}
use Rattle.atomic_table.specs.Seated.{TableId}
use Rattle.catalog.specs.declared.catalogue.Catalogue.{Catalogue}
use Rattle.job_forms.specs.declared.job.Job.{Job}
use Rattle.source_render.specs.Renders.{GivenImage}
use Rattle.seed_jobs.specs.declared.member.Member.{Member}
use Rattle.seed_jobs.specs.Crews.{HaveWorked}
use Rattle.seed_jobs.specs.Members.{tallies_of, workers_of}
use Rattle.seed_jobs.specs.declared.runner.IdleMember.{IdleMember}
use Rattle.seed_jobs.specs.Idles.{all_idle}
use Rattle.seed_jobs.proofs.Joining.{same_count}
use Rattle.seed_jobs.proofs.Swapping.{as_many, back, how_many}

-- those who are idle and those who worked are all
pub counts : {K S G : Type 0} (tells : S → Option ℕ) (faults : S → ℕ) (gave : S → List GivenImage) (table : TableId) (c : Catalogue) (job : Job) (all idle : List (IdleMember K S G)) (crew after : List (Member K S G))
    → all_idle tells faults gave all ≡ all_idle tells faults gave idle ++ back tells faults gave crew → HaveWorked c job (workers_of tells faults gave crew) (workers_of tells faults gave after) (tallies_of after)
    → length idle + length after ≡ length all
counts tells faults gave table c job all idle crew after were worked =
    let whole = how_many tells faults gave all idle crew were in
    let same = as_many tells faults gave crew after (same_count table c job (workers_of tells faults gave crew) (workers_of tells faults gave after) (tallies_of after) worked) in
    omega (arith, whole, same)
