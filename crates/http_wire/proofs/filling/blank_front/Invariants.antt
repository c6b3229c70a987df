use Rattle.std.proofs.Common.{◌≡◌, ◌+◌}
use Rattle.http_wire.specs.Lines.{IsBlankUpTo}
use Rattle.http_wire.proofs.filling.blank_front.Given as goal

abbrev pub invariant-loop-byte : goal.invariant-loop-byte
invariant-loop-byte l = record {
  at : l.blank ≡ l.fn.known + l.byte-index;
  blank : IsBlankUpTo l.blank l.held;
}
