use Rattle.std.proofs.Common.{Contains, rules}
use Rattle.durable_cabinet.specs.Hot.{hot_tile}
use Rattle.std.proofs.lemmas.Result.{IfOk-weaker}
use Rattle.durable_cabinet.proofs.Forcing.{filed_alike}
use Rattle.durable_cabinet.proofs.Heating.{hot_among, hot_part, hot_stays}
use Rattle.durable_cabinet.proofs.asking.ask_either.Goals as goal

pub returns-in-Ok-Some-clause-asked : goal.returns-in-Ok-Some-clause-asked
returns-in-Ok-Some-clause-asked g c =
    let f = c.args.file.now in
    let told = g.D.Disk.told f.disk in
    let seen = (g.D.Disk.state f.disk).seen in
    let faults = g.D.Disk.faults f.disk in
    let found : Contains c.args.hot.now (hot_tile c.args.address.now c.args.kept.number c.in-Ok-Some.text) = search rules in
    let part = hot_part told c.args.core.now.state seen c.args.hot.now c.args.address.now c.args.kept c.in-Ok-Some.text c.requires.hot found c.requires.kept in
    IfOk-weaker c.ask_read.result _ _ (λ asked row. row told seen faults faults part) c.ask_read.ensures.asked

pub returns-in-Ok-Some-clause-filed : goal.returns-in-Ok-Some-clause-filed
returns-in-Ok-Some-clause-filed g c =
    let f = c.args.file.now in
    filed_alike (g.D.Disk.told f.disk) c.args.core.now.state c.ask_read.new.core.state f.start f.journal (g.D.Disk.state f.disk) c.ask_read.ensures.alike c.requires.filed

pub returns-in-Ok-Some-clause-hot : goal.returns-in-Ok-Some-clause-hot
returns-in-Ok-Some-clause-hot g c =
    let f = c.args.file.now in
    let told = g.D.Disk.told f.disk in
    let s = c.args.core.now.state in
    let seen = (g.D.Disk.state f.disk).seen in
    hot_stays told s c.ask_read.new.core.state seen c.text_of.new.self c.ask_read.ensures.hot (hot_among told s seen c.args.hot.now c.text_of.new.self c.text_of.ensures.among c.requires.hot)
