use Rattle.std.proofs.Common.{◌≡◌, ℕ, ◌≤◌, length}
use Rattle.extent_map.specs.Chunks.{all_parts, IsUsed}
use Rattle.extent_map.proofs.edits.grow.Given as goal

abbrev pub invariant-growing : goal.invariant-growing
invariant-growing l = (all_parts l.chunks.items ≡ all_parts l.fn.chunks.items) × (length l.fn.chunks.items ≤ length l.chunks.items) × (l._count ≤ length l.chunks.items) × ((used : ℕ) → IsUsed l.fn.chunks.items used → IsUsed l.chunks.items used)
