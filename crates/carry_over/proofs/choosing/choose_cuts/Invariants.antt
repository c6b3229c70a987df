use Rattle.std.proofs.Common.{drop}
use Rattle.carry_over.proofs.Choices.{WillChooseCuts}
use Rattle.carry_over.proofs.choosing.choose_cuts.Given as goal

abbrev pub invariant-choosing : goal.invariant-choosing
invariant-choosing l = WillChooseCuts l.to l.cuts.book.cuts (drop l.at l.cuts.book.cuts) l.chosen.items
