use Rattle.std.proofs.Common.{drop, ◌≤◌}
use Rattle.carry_over.proofs.Choices.{WillChoose}
use Rattle.carry_over.proofs.choosing.choose.Given as goal

abbrev pub invariant-choosing : goal.invariant-choosing
invariant-choosing l = record {
  will : WillChoose l.from l.to l.kept (drop l.at l.kept) l.chosen.items l.roomless;
  few : l.roomless ≤ l.at;
}
