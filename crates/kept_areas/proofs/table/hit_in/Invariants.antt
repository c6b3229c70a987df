use Rattle.std.proofs.Common.{◌≤◌, drop, length}
use Rattle.kept_areas.specs.Areas.{NoneHit}
use Rattle.metatile_locks.specs.Reach.{IsAimed}
use Rattle.metatile_locks.specs.Running.{hits_in}
use Rattle.kept_areas.proofs.table.hit_in.Given as goal

abbrev pub invariant-looking : goal.invariant-looking
invariant-looking l = (l.at ≤ length l.spots) × NoneHit (hits_in l.f l.grid l.cover) (drop l.at l.spots) × IsAimed l.f l.grid l.cover l.aim

abbrev pub decreases-looking : goal.decreases-looking
decreases-looking l = l.at
