use Rattle.std.proofs.Common.{ℕ, ◌<◌, ◌≤◌, length, ◌-◌}
use Rattle.extent_map.specs.Holes.{last_end}
use Rattle.extent_map.specs.Chunks.{chunk_at}
use Rattle.extent_map.proofs.chunks.first_behind.Given as goal

abbrev pub invariant-loop-chunk : goal.invariant-loop-chunk
invariant-loop-chunk l = (l.chunk ≤ length l.chunks) × ((k : ℕ) → k < l.chunk → last_end 0 (chunk_at l.chunks k) ≤ l.place)

abbrev pub decreases-loop-chunk : goal.decreases-loop-chunk
decreases-loop-chunk l = length l.chunks - l.chunk
