use Rattle.std.proofs.Common.{◌≡◌, ◌++◌, map, take, drop}
use Rattle.metatile_locks.specs.Reach.{IsAimed}
use Rattle.metatile_locks.specs.Running.{hits_in, marked}
use Rattle.metatile_locks.proofs.table.mark_each.Given as goal

abbrev pub invariant-marking : goal.invariant-marking
invariant-marking l =
    (l.renders ≡ map (marked (hits_in l.f l.grid l.cover) l.number) (take l.i l.fn.renders) ++ drop l.i l.fn.renders) × IsAimed l.f l.grid l.cover l.aim
