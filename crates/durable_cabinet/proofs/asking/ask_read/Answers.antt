use Rattle.std.proofs.Common.{None, Option, subst}
use Rattle.cabinet.specs.declared.replies.Forced.{Forced}
use Rattle.cabinet.specs.Steps.{AsksKept}
use Rattle.durable_cabinet.proofs.AskingTiles.{hit_on}
use Rattle.durable_cabinet.proofs.Heating.{unhit_hot}
use Rattle.durable_cabinet.proofs.asking.ask_read.Goals as goal

pub returns-in-None-clause-asked : goal.returns-in-None-clause-asked
returns-in-None-clause-asked c told seen before after part =
    let s = c.args.core.now.state in
    let u = c.ask_kept.new.self.state in
    let a = c.args.address.now in
    let row : AsksKept s a None u = subst (λ (o : Option Forced). AsksKept s a o u) c.in-None.is c.in-Ok.ensures.asks in
    hit_on s a told seen u u.clock.moment c.args.kept c.args.text c.requires.kept part row.0 row.1

pub returns-in-Some-clause-hot : goal.returns-in-Some-clause-hot
returns-in-Some-clause-hot c =
    let s = c.args.core.now.state in
    let a = c.args.address.now in
    let u = c.ask_kept.new.self.state in
    unhit_hot s u a c.in-Some.forced (subst (λ (o : Option Forced). AsksKept s a o u) c.in-Some.is c.in-Ok.ensures.asks)
