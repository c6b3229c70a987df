use Rattle.std.proofs.Common.{length, ◌-◌}
use Rattle.extent_map.specs.Chunks.{IsSearched}
use Rattle.extent_map.proofs.chunks.lowest_hole.Given as goal

abbrev pub invariant-loop-chunk : goal.invariant-loop-chunk
invariant-loop-chunk l = IsSearched l.chunks l.bytes l.chunk l.place

abbrev pub decreases-loop-chunk : goal.decreases-loop-chunk
decreases-loop-chunk l = length l.chunks - l.chunk
