use Rattle.std.proofs.Common.{ℕ, ◌≡◌, ◌<◌, ◌≤◌, []}
use Rattle.extent_map.specs.Chunks.{chunk_at}
use Rattle.extent_map.proofs.chunks.last_used_in.Given as goal

abbrev pub invariant-loop-used : goal.invariant-loop-used
invariant-loop-used l = record {
  low : l.low ≤ l.used;
  within : l.used ≤ l.chunk;
  others : (k : ℕ) → l.used < k → k ≤ l.chunk → chunk_at l.chunks k ≡ [];
}

abbrev pub decreases-loop-used : goal.decreases-loop-used
decreases-loop-used l = l.used
