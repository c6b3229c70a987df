use Rattle.std.proofs.Common.{◌≡◌, ◌+◌, ◌-◌, ◌≤◌, length}
use Rattle.std.specs.Io.KnownBytes.{Consumes}
use Rattle.http_wire.proofs.inputs.read_all.Given as goal

abbrev pub invariant-reading : goal.invariant-reading
invariant-reading g l = record {
  read : Consumes (g.I.ByteSource.left l.initial.input) (g.I.ByteSource.left l.input) l.text.items;
  later : g.I.ByteSource.faults l.initial.input ≤ g.I.ByteSource.faults l.input;
  apart : g.I.ByteSource.apart l.input ≡ g.I.ByteSource.apart l.initial.input;
  fits : length l.text.items ≤ l.limit + 1;
}

abbrev pub decreases-reading : goal.decreases-reading
decreases-reading g l = l.limit + 1 - length l.text.items
