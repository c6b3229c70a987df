use Rattle.std.proofs.Common.{◌≤◌, ◌-◌, length}
use Rattle.kept_areas.specs.Areas.{IsClear}
use Rattle.metatile_locks.specs.Reach.{IsAimed}
use Rattle.metatile_locks.specs.Running.{hits_in}
use Rattle.kept_areas.proofs.walk.hit_among.Given as goal

abbrev pub invariant-walking : goal.invariant-walking
invariant-walking l =
    (l.from ≤ l.at) × (IsClear (hits_in l.f l.grid l.cover) l.from l.chunks → IsClear (hits_in l.f l.grid l.cover) l.at l.chunks) × IsAimed l.f l.grid l.cover l.aim

abbrev pub decreases-walking : goal.decreases-walking
decreases-walking l = length l.chunks - l.at
