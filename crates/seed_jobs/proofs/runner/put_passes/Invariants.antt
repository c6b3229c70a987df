use Rattle.std.proofs.Common.{◌≡◌, ◌+◌, ◌++◌, length, vec_len}
use Rattle.std.specs.Prelude.{reverse, vec_capacity}
use Rattle.seed_jobs.specs.Idles.{all_idle, passes_of}
use Rattle.seed_jobs.proofs.runner.put_passes.Given as goal

abbrev pub invariant-putting : goal.invariant-putting
invariant-putting g l = record {
  items : l.passes.items ++ reverse (passes_of (all_idle g.S.Source.told g.S.Source.faults g.S.Source.gave l.idle.items)) ≡ l.fn.passes.items ++ reverse (passes_of (all_idle g.S.Source.told g.S.Source.faults g.S.Source.gave l.fn.idle.items));
  count : length l.passes.items + length l.idle.items ≡ length l.fn.passes.items + length l.fn.idle.items;
  room : vec_capacity l.passes ≡ vec_capacity l.fn.passes;
}

abbrev pub decreases-putting : goal.decreases-putting
decreases-putting g l = vec_len l.idle
