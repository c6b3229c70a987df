use Rattle.std.proofs.Common.{◌≡◌, take}
use Rattle.std.specs.List.{sum_by}
use Rattle.seed_jobs.proofs.totals.total.Given as goal

abbrev pub invariant-adding : goal.invariant-adding
invariant-adding g l = (l.places ≡ sum_by (λ m. m.tally.places) (take l.member-index l.crew)) × (l.done ≡ sum_by (λ m. m.tally.done) (take l.member-index l.crew)) × (l.failed ≡ sum_by (λ m. m.tally.failed) (take l.member-index l.crew)) × (l.unkept ≡ sum_by (λ m. m.tally.unkept) (take l.member-index l.crew))
