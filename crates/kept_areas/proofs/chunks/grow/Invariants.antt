use Rattle.std.proofs.Common.{◌≡◌, ℕ, ◌≤◌, length}
use Rattle.kept_areas.specs.Areas.{all_spots}
use Rattle.kept_areas.specs.Kept.{IsUsed}
use Rattle.kept_areas.proofs.chunks.grow.Given as goal

abbrev pub invariant-growing : goal.invariant-growing
invariant-growing l = (all_spots l.chunks.items ≡ all_spots l.fn.chunks.items) × (length l.fn.chunks.items ≤ length l.chunks.items) × (l._count ≤ length l.chunks.items) × ((used : ℕ) → IsUsed l.fn.chunks.items used → IsUsed l.chunks.items used)
