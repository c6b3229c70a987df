use Rattle.std.proofs.Common.{◌≡◌, ◌+◌, length, ◌-◌}
use Rattle.extent_map.specs.Holes.{first_start, IsPassed}
use Rattle.extent_map.proofs.gaps.summary_of.Given as goal

abbrev pub invariant-loop-index : goal.invariant-loop-index
invariant-loop-index l = (l.start ≡ first_start l.parts 0) × IsPassed l.parts (l.widest + 1) l.index l.end

abbrev pub decreases-loop-index : goal.decreases-loop-index
decreases-loop-index l = length l.parts - l.index
