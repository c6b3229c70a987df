use Rattle.std.proofs.Common.{take}
use Rattle.cabinet.specs.Entered.{AreEntered}
use Rattle.cabinet.proofs.shelf.restore.Given as goal

abbrev pub invariant-restoring : goal.invariant-restoring
invariant-restoring l = AreEntered l.fn.shelf.catalogue (take l.at l.kept) l.shelf
