use Rattle.std.proofs.Common.{◌≡◌, ◌++◌, flat_map, take}
use Rattle.metrics_text.specs.Exposition.{value_byte}
use Rattle.metrics_text.proofs.escapes.push_value.Given as goal

abbrev pub invariant-loop-byte : goal.invariant-loop-byte
invariant-loop-byte l = l.text.items ≡ l.fn.text.items ++ flat_map value_byte (take l.byte-index l.value)
