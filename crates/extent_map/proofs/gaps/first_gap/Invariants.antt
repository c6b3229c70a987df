use Rattle.std.proofs.Common.{length, ◌-◌}
use Rattle.extent_map.specs.Holes.{IsPassed}
use Rattle.extent_map.proofs.gaps.first_gap.Given as goal

abbrev pub invariant-loop-index : goal.invariant-loop-index
invariant-loop-index l = IsPassed l.parts l.bytes l.index l.place

abbrev pub decreases-loop-index : goal.decreases-loop-index
decreases-loop-index l = length l.parts - l.index
