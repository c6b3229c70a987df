use Rattle.std.proofs.Common.{◌≡◌, drop, fold}
use Rattle.truncation_list.specs.Purge.{raised}
use Rattle.truncation_list.proofs.purge.floor_after.Given as goal

abbrev pub invariant-rising : goal.invariant-rising
invariant-rising l = record { floor : fold (raised l.least) l.top (drop l.i l.cuts.cuts) ≡ fold (raised l.least) l.floor l.cuts.cuts }
