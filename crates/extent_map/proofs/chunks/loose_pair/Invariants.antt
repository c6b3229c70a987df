use Rattle.std.proofs.Common.{◌≤◌, length, drop}
use Rattle.extent_map.specs.Chunks.{AreCrowded}
use Rattle.extent_map.proofs.chunks.loose_pair.Given as goal

abbrev pub invariant-loop-chunk : goal.invariant-loop-chunk
invariant-loop-chunk l = (l.chunk ≤ length l.chunks) × AreCrowded (drop l.chunk l.chunks)

abbrev pub decreases-loop-chunk : goal.decreases-loop-chunk
decreases-loop-chunk l = l.chunk
