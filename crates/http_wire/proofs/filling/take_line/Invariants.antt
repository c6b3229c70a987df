use Rattle.std.proofs.Common.{◌-◌, true, length, Ok}
use Rattle.http_wire.specs.Takes.{Takes}
use Rattle.http_wire.proofs.Searched.{Searched}
use Rattle.http_wire.proofs.filling.take_line.Given as goal

abbrev pub invariant-line : goal.invariant-line
invariant-line g l = record {
  takes : Takes l.fn.held.items l.held.items (g.S.ByteSource.left l.fn.source) (g.S.ByteSource.left l.source) (g.S.ByteSource.faults l.fn.source) (g.S.ByteSource.faults l.source) (g.S.ByteSource.apart l.fn.source) (g.S.ByteSource.apart l.source) (Ok true);
  searched : Searched l.fn.held.items l.held.items l.seen l.blank;
}

abbrev pub decreases-line : goal.decreases-line
decreases-line g l = 16384 - length l.held.items
