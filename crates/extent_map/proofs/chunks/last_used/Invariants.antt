use Rattle.std.proofs.Common.{ℕ, ◌≡◌, ◌<◌, [], length}
use Rattle.extent_map.specs.Chunks.{chunk_at}
use Rattle.extent_map.proofs.chunks.last_used.Given as goal

abbrev pub invariant-loop-chunk : goal.invariant-loop-chunk
invariant-loop-chunk l = (l.chunk < length l.chunks) × ((k : ℕ) → l.chunk < k → chunk_at l.chunks k ≡ [])

abbrev pub decreases-loop-chunk : goal.decreases-loop-chunk
decreases-loop-chunk l = l.chunk
