use Rattle.std.proofs.Common.{◌≤◌}
use Rattle.cache_access.specs.KeepsUp.{saving}
use Rattle.cache_access.specs.Turned.{Goes}
use Rattle.cache_access.proofs.KeepingUp.{HasDone}
use Rattle.cache_access.proofs.upkeep.save_uses_of.Given as goal

abbrev pub invariant-saving : goal.invariant-saving
invariant-saving g l =
    let A = g.A.Access in
    let way = l.access in
    let x = l.fn.cache in
    record {
      done : HasDone (A.gains way) saving l.metatiles x l.cache;
      goes : Goes (A.catalogue way) (A.reaches way) (A.owes way) (A.lasts way) x l.cache;
      still : A.sound way x → A.sound way l.cache;
      rests : A.rests way x → A.rests way l.cache;
      within : l.metatiles ≤ l.most;
    }
