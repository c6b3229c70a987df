use Rattle.std.proofs.Common.{◌≡◌, length}
use Rattle.summed_disk.specs.Sum.{lane, multiplier, step}
use Rattle.summed_disk.proofs.sum.part_sum.Given as goal

abbrev pub invariant-loop-n : goal.invariant-loop-n
invariant-loop-n l = record {
  a : l.lanes.a ≡ lane l.bytes 0 (step multiplier l.fn.part.number) l.n;
  b : l.lanes.b ≡ lane l.bytes 1 (step multiplier l.fn.part.from) l.n;
  c : l.lanes.c ≡ lane l.bytes 2 (step multiplier (length l.bytes)) l.n;
  d : l.lanes.d ≡ lane l.bytes 3 (step multiplier 0) l.n;
}
