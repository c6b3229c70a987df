use Rattle.std.proofs.Common.{length, vec_capacity, ◌++◌, ◌+◌, ◌≡◌, ◌≤◌}
use Rattle.seed_jobs.specs.Idles.{all_idle}
use Rattle.seed_jobs.proofs.Swapping.{back}
use Rattle.seed_jobs.specs.Crews.{hands_of}
use Rattle.seed_jobs.specs.Members.{workers_of}
use Rattle.seed_jobs.proofs.crews.assemble.Given as goal

abbrev pub invariant-assembling : goal.invariant-assembling
invariant-assembling g l = record {
  enough : length l.hand-iterator.rest.items ≤ length l.idle.items;
  room : length l.crew.items + length l.hand-iterator.rest.items ≤ vec_capacity l.crew;
  hands : hands_of (workers_of g.S.Source.told g.S.Source.faults g.S.Source.gave l.crew.items) ++ l.hand-iterator.rest.items ≡ l.fn.hands.items;
  whole : all_idle g.S.Source.told g.S.Source.faults g.S.Source.gave l.idle.items ++ back g.S.Source.told g.S.Source.faults g.S.Source.gave l.crew.items ≡ all_idle g.S.Source.told g.S.Source.faults g.S.Source.gave l.initial.idle.items;
  same : (vec_capacity l.crew ≡ vec_capacity l.initial.crew) × (vec_capacity l.idle ≡ vec_capacity l.initial.idle);
}
