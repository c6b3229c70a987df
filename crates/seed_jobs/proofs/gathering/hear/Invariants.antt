use Rattle.seed_jobs.proofs.Heard.{IsHearing}
use Rattle.seed_jobs.proofs.gathering.hear.Given as goal

abbrev pub invariant-hearing : goal.invariant-hearing
invariant-hearing g l = IsHearing l.initial.hand l.hand l.initial.members l.members l.i
