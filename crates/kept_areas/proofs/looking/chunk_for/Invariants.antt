use Rattle.std.proofs.Common.{◌<◌, ◌≤◌, ◌-◌, length}
use Rattle.kept_areas.proofs.looking.chunk_for.Given as goal

abbrev pub invariant-halving : goal.invariant-halving
invariant-halving l = (l.low < l.high) × (l.high ≤ length l.chunks)

abbrev pub decreases-halving : goal.decreases-halving
decreases-halving l = l.high - l.low
