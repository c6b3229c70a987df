use Rattle.std.proofs.Common.{Bool, rules, subst, sym}
use Rattle.durable_cabinet.specs.Hot.{IsHot}
use Rattle.durable_cabinet.specs.Tiles.{IsTilePartOf}
use Rattle.durable_cabinet.proofs.Forcing.{filed_alike}
use Rattle.durable_cabinet.proofs.Heating.{hot_seen, hot_written, part_seen}
use Rattle.durable_cabinet.proofs.Warming.{hot_itself}
use Rattle.durable_cabinet.proofs.asking.ask_disk.Goals as goal

pub returns-in-Err-clause-hot : goal.returns-in-Err-clause-hot
returns-in-Err-clause-hot g c =
    let f = c.args.file.now in
    let n = c.read_part.new.file in
    let s = c.args.core.now.state in
    hot_written (g.D.Disk.told f.disk) (g.D.Disk.told n.disk) s s (g.D.Disk.state f.disk).seen (g.D.Disk.state n.disk).seen c.args.hot.now c.read_part.ensures.told c.read_part.ensures.rests.same (hot_itself s) c.requires.hot

pub returns-in-Ok-None-clause-filed : goal.returns-in-Ok-None-clause-filed
returns-in-Ok-None-clause-filed g c =
    let n = c.read_part.new.file in
    filed_alike (g.D.Disk.told n.disk) c.args.core.now.state c.ask_unread.new.core.state n.start n.journal (g.D.Disk.state n.disk) c.ask_unread.ensures.alike c.read_part.ensures.filed

pub returns-in-Ok-None-clause-hot : goal.returns-in-Ok-None-clause-hot
returns-in-Ok-None-clause-hot g c =
    let f = c.args.file.now in
    let n = c.read_part.new.file in
    let s = c.args.core.now.state in
    hot_written (g.D.Disk.told f.disk) (g.D.Disk.told n.disk) s c.ask_unread.new.core.state (g.D.Disk.state f.disk).seen (g.D.Disk.state n.disk).seen c.args.hot.now c.read_part.ensures.told c.read_part.ensures.rests.same c.ask_unread.ensures.hot
    c.requires.hot

pub returns-in-Ok-Some-clause-filed : goal.returns-in-Ok-Some-clause-filed
returns-in-Ok-Some-clause-filed g c =
    let n = c.read_part.new.file in
    filed_alike (g.D.Disk.told n.disk) c.args.core.now.state c.ask_warming.new.core.state n.start n.journal (g.D.Disk.state n.disk) c.ask_warming.ensures.alike c.read_part.ensures.filed

pub returns-in-Ok-Some-clause-hot : goal.returns-in-Ok-Some-clause-hot
returns-in-Ok-Some-clause-hot g c =
    let told = g.D.Disk.told c.args.file.now.disk in
    let n = c.read_part.new.file in
    let s = c.args.core.now.state in
    let u = c.ask_warming.new.core.state in
    let old = (g.D.Disk.state c.args.file.now.disk).seen in
    let new = (g.D.Disk.state n.disk).seen in
    let same = c.read_part.ensures.rests.same in
    let read : IsTilePartOf told s.catalogue old c.args.address.now c.args.kept c.in-Ok-Some.bytes.items = search rules in
    let part = part_seen told s old new c.args.address.now c.args.kept c.in-Ok-Some.bytes.items same c.requires.kept read in
    subst (λ (b : Bool). IsHot b u new c.ask_warming.new.hot) (sym c.read_part.ensures.told) (c.ask_warming.ensures.hot told new part (hot_seen told s old new c.args.hot.now same c.requires.hot))
