use Rattle.std.proofs.Common.{◌≡◌, ◌==◌, drop}
use Rattle.std.specs.List.{list_any}
use Rattle.job_board.specs.declared.posted.Posted.{Posted}
use Rattle.job_board.proofs.rows.is_numbered.Given as goal

abbrev pub invariant-seeking : goal.invariant-seeking
invariant-seeking l = list_any (λ (p : Posted). p.number == l.number) (drop l.job-index l.jobs) ≡ list_any (λ (p : Posted). p.number == l.number) l.jobs
