use Rattle.std.proofs.Common.{◌≡◌, ◌++◌, take}
use Rattle.tile_drill.proofs.digest_sink.note.Given as goal

abbrev pub invariant-noting : goal.invariant-noting
invariant-noting l = record {
  noted : l.history.entries ≡ l.initial.history.entries ++ take l.byte-index l.bytes;
}
