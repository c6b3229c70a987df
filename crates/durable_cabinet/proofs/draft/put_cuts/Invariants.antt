use Rattle.std.proofs.Common.{◌≡◌, ◌≤◌, ◌++◌, map, length, take, vec_capacity}
use Rattle.std.specs.List.{AllByRecursion}
use Rattle.record_text.specs.Fits.{Fits}
use Rattle.record_text.specs.Spelling.{spelling}
use Rattle.durable_cabinet.specs.Drafts.{cut_record}
use Rattle.durable_cabinet.proofs.draft.put_cuts.Given as goal

abbrev pub invariant-putting : goal.invariant-putting
invariant-putting l = record {
  bodies : l.bodies.items ≡ l.fn.bodies.items ++ map spelling (map cut_record (take l.at l.cuts.book.cuts));
  fits : AllByRecursion Fits (map cut_record (take l.at l.cuts.book.cuts));
  within : l.at ≤ length l.cuts.book.cuts;
  room : vec_capacity l.bodies ≡ vec_capacity l.fn.bodies;
}
