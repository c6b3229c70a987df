use Rattle.std.proofs.Common.{◌≡◌, ◌≤◌, ◌++◌, map, length, take}
use Rattle.std.specs.List.{AllByRecursion}
use Rattle.record_text.specs.Fits.{Fits}
use Rattle.record_text.specs.Spelling.{spelling}
use Rattle.cabinet_records.specs.Recorded.{stored_record}
use Rattle.carry_over.proofs.bodies.put_kept.Given as goal

abbrev pub invariant-putting : goal.invariant-putting
invariant-putting l = record {
  bodies : l.bodies.items ≡ l.fn.bodies.items ++ map spelling (map stored_record (take l.at l.kept));
  fits : AllByRecursion Fits (map stored_record (take l.at l.kept));
  within : l.at ≤ length l.kept;
}
