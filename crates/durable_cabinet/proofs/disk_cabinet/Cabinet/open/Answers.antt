use Rattle.std.proofs.Common.{IsTrue, subst}
use Rattle.durable_cabinet.proofs.OpeningOpened.{ours_then}
use Rattle.durable_cabinet.proofs.disk_cabinet.Cabinet.open.Goals as goal

pub begin-requires-clause-ours : goal.begin-requires-clause-ours
begin-requires-clause-ours g c told =
    let f = c.in-Ok.file in
    ours_then (g.D.Disk.told c.args.disk) c.args.catalogue (g.D.Disk.state c.args.disk) (g.D.Disk.state f.disk) c.in-Ok.ensures.quiet c.requires.ours (subst IsTrue c.in-Ok.ensures.told told)
