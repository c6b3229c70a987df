use Rattle.std.proofs.Common.{◌≤◌, length, drop}
use Rattle.kept_areas.specs.Kept.{AreCrowded}
use Rattle.kept_areas.proofs.chunks.loose_pair.Given as goal

abbrev pub invariant-loop-chunk : goal.invariant-loop-chunk
invariant-loop-chunk l = (l.chunk ≤ length l.chunks) × AreCrowded (drop l.chunk l.chunks)

abbrev pub decreases-loop-chunk : goal.decreases-loop-chunk
decreases-loop-chunk l = l.chunk
