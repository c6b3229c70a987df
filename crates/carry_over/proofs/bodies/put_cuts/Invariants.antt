use Rattle.std.proofs.Common.{◌≡◌, ◌≤◌, ◌++◌, map, length, take}
use Rattle.std.specs.List.{AllByRecursion}
use Rattle.record_text.specs.Fits.{Fits}
use Rattle.record_text.specs.Spelling.{spelling}
use Rattle.durable_cabinet.specs.Drafts.{cut_record}
use Rattle.carry_over.proofs.bodies.put_cuts.Given as goal

abbrev pub invariant-putting : goal.invariant-putting
invariant-putting l = record {
  bodies : l.bodies.items ≡ l.fn.bodies.items ++ map spelling (map cut_record (take l.at l.cuts));
  fits : AllByRecursion Fits (map cut_record (take l.at l.cuts));
  within : l.at ≤ length l.cuts;
}
