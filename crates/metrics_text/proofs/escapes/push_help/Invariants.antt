use Rattle.std.proofs.Common.{◌≡◌, ◌++◌, flat_map, take}
use Rattle.metrics_text.specs.Exposition.{help_byte}
use Rattle.metrics_text.proofs.escapes.push_help.Given as goal

abbrev pub invariant-loop-byte : goal.invariant-loop-byte
invariant-loop-byte l = l.text.items ≡ l.fn.text.items ++ flat_map help_byte (take l.byte-index l.help)
