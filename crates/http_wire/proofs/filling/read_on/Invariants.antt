use Rattle.std.proofs.Common.{◌-◌, true, length, Ok}
use Rattle.http_wire.specs.Looks.{MayHaveHead}
use Rattle.http_wire.specs.Takes.{Takes}
use Rattle.http_wire.proofs.filling.read_on.Given as goal

abbrev pub invariant-reading : goal.invariant-reading
invariant-reading g l = record {
  unsettled : MayHaveHead l.held.items;
  takes : Takes l.initial.held.items l.held.items (g.S.ByteSource.left l.initial.source) (g.S.ByteSource.left l.source) (g.S.ByteSource.faults l.initial.source) (g.S.ByteSource.faults l.source) (g.S.ByteSource.apart l.initial.source) (g.S.ByteSource.apart l.source) (Ok true);
}

abbrev pub decreases-reading : goal.decreases-reading
decreases-reading g l = 16384 - length l.held.items
