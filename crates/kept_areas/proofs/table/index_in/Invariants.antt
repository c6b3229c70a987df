use Rattle.std.proofs.Common.{◌≡◌, ◌≤◌, None, drop, length}
use Rattle.kept_areas.specs.Areas.{number_in}
use Rattle.kept_areas.proofs.table.index_in.Given as goal

abbrev pub invariant-looking : goal.invariant-looking
invariant-looking l = (l.index ≤ length l.spots) × (number_in (drop l.index l.spots) l.meta ≡ None)

abbrev pub decreases-looking : goal.decreases-looking
decreases-looking l = l.index
