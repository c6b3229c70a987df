use Rattle.std.proofs.Common.{length, vec_capacity, vec_len, ◌++◌, ◌+◌, ◌≡◌, ◌≤◌}
use Rattle.seed_jobs.specs.Idles.{all_idle}
use Rattle.seed_jobs.proofs.Swapping.{back}
use Rattle.seed_jobs.proofs.crews.disband.Given as goal

abbrev pub invariant-disbanding : goal.invariant-disbanding
invariant-disbanding g l = record {
  room : length l.idle.items + length l.crew.items ≤ vec_capacity l.idle;
  whole : all_idle g.S.Source.told g.S.Source.faults g.S.Source.gave l.idle.items ++ back g.S.Source.told g.S.Source.faults g.S.Source.gave l.crew.items
      ≡ all_idle g.S.Source.told g.S.Source.faults g.S.Source.gave l.initial.idle.items ++ back g.S.Source.told g.S.Source.faults g.S.Source.gave l.initial.crew.items;
  same : (vec_capacity l.crew ≡ vec_capacity l.initial.crew) × (vec_capacity l.idle ≡ vec_capacity l.initial.idle);
}

abbrev pub decreases-disbanding : goal.decreases-disbanding
decreases-disbanding g l = vec_len l.crew
