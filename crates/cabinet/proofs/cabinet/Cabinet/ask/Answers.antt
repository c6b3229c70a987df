use Rattle.std.proofs.Common.{subst}
use Rattle.cabinet.specs.State.{IsKnown}
use Rattle.cabinet.proofs.Answered.{fresh_if}
use Rattle.cabinet.proofs.cabinet.Cabinet.ask.Goals as goal

pub returns-in-Ok-None-clause-fresh : goal.returns-in-Ok-None-clause-fresh
returns-in-Ok-None-clause-fresh c = fresh_if c.args.self.now c.ask_unkept.new.self c.args.address.now c.ask_unkept.result (subst IsKnown c.self.view_is c.known.ensures) c.requires c.ask_unkept.ensures.asked

pub returns-in-Ok-Some-clause-fresh : goal.returns-in-Ok-Some-clause-fresh
returns-in-Ok-Some-clause-fresh c = fresh_if c.args.self.now c.ask_kept.new.self c.args.address.now c.ask_kept.result (subst IsKnown c.self.view_is c.known.ensures) c.requires c.ask_kept.ensures.asked
