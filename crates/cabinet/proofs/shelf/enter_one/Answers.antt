use Rattle.cabinet.proofs.Entering.{alike_can, alike_enters}
use Rattle.cabinet.proofs.shelf.enter_one.Goals as goal

pub enter-requires-clause-can : goal.enter-requires-clause-can
enter-requires-clause-can c = alike_can c.args.kept c.args.shelf.now c.reserve.new.self c.reserve.ensures.same c.requires

pub returns : goal.returns
returns c = alike_enters c.args.kept c.args.shelf.now c.reserve.new.self c.enter.new.self c.reserve.ensures.same c.enter.ensures.enters
