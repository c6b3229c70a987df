use Rattle.std.proofs.Common.{◌≡◌, ◌-◌, ◌≤◌, true, length, Ok}
use Rattle.http_wire.specs.Takes.{Takes, Gains}
use Rattle.http_wire.proofs.filling.read_up_to.Given as goal

abbrev pub invariant-reading : goal.invariant-reading
invariant-reading g l = record {
  takes : Takes l.initial.held.items l.held.items (g.S.ByteSource.left l.initial.source) (g.S.ByteSource.left l.source) (g.S.ByteSource.faults l.initial.source) (g.S.ByteSource.faults l.source) (g.S.ByteSource.apart l.initial.source) (g.S.ByteSource.apart l.source) (Ok true);
  grown : length l.initial.held.items ≤ length l.held.items;
  gains : Gains l.need l.initial.held.items l.held.items;
  untouched : l.need ≤ length l.initial.held.items → l.source ≡ l.initial.source;
}

abbrev pub decreases-reading : goal.decreases-reading
decreases-reading g l = l.need - length l.held.items
