use Rattle.std.proofs.Common.{◌≡◌, length, ◌-◌}
use Rattle.extent_map.proofs.edits.refresh.Given as goal

abbrev pub invariant-loop-chunk : goal.invariant-loop-chunk
invariant-loop-chunk l = l.chunks.items ≡ l.fn.chunks.items

abbrev pub decreases-loop-chunk : goal.decreases-loop-chunk
decreases-loop-chunk l = length l.chunks.items - l.chunk
