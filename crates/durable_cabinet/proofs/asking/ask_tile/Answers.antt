use Rattle.durable_cabinet.proofs.Forcing.{filed_alike}
use Rattle.durable_cabinet.proofs.Heating.{hot_stays}
use Rattle.durable_cabinet.proofs.asking.ask_tile.Goals as goal

pub returns-in-None-clause-filed : goal.returns-in-None-clause-filed
returns-in-None-clause-filed g c =
    let f = c.args.file.now in
    filed_alike (g.D.Disk.told f.disk) c.args.core.now.state c.ask_unread.new.core.state f.start f.journal (g.D.Disk.state f.disk) c.ask_unread.ensures.alike c.requires.filed

pub returns-in-None-clause-hot : goal.returns-in-None-clause-hot
returns-in-None-clause-hot g c =
    let f = c.args.file.now in
    hot_stays (g.D.Disk.told f.disk) c.args.core.now.state c.ask_unread.new.core.state (g.D.Disk.state f.disk).seen c.args.hot.now c.ask_unread.ensures.hot c.requires.hot
