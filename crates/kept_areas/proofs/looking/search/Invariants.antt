use Rattle.std.proofs.Common.{◌≡◌, ◌≤◌, ◌-◌, None, length, take}
use Rattle.kept_areas.specs.Areas.{all_spots, number_in}
use Rattle.kept_areas.proofs.looking.search.Given as goal

abbrev pub invariant-searching : goal.invariant-searching
invariant-searching l = (l.chunk ≤ length l.chunks) × (number_in (all_spots (take l.chunk l.chunks)) l.meta ≡ None)

abbrev pub decreases-searching : goal.decreases-searching
decreases-searching l = length l.chunks - l.chunk
