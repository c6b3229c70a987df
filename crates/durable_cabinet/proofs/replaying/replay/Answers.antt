use Rattle.durable_cabinet.proofs.OpeningReplayed.{refused_of, replayed_of}
use Rattle.durable_cabinet.proofs.replaying.replay.Goals as goal

pub returns-in-Ok-restore-clause-replayed : goal.returns-in-Ok-restore-clause-replayed
returns-in-Ok-restore-clause-replayed g c =
    let o = c.in-Ok-open.ensures in
    let f = c.in-Ok-open.file in
    let r = c.in-Ok-restore.ensures.ok in
    let x = c.in-Ok-restore.restored in
    replayed_of (g.D.Disk.told c.args.disk) c.args.catalogue.now c.slots_for-slots.result (g.D.Disk.state c.args.disk) (g.D.Disk.state f.disk) c.in-Ok.replay c.open.new.visit f.journal c.slots_for-slots.ensures c.in-Ok.ensures o.opened
    c.version.result r.0 x.opening x.kept.items x.cuts.book c.version.ensures r.1 r.2 o.quiet o.durable

pub returns-in-Err-restore-clause-refused : goal.returns-in-Err-restore-clause-refused
returns-in-Err-restore-clause-refused g c =
    let o = c.in-Ok-open.ensures in
    let f = c.in-Ok-open.file in
    let r = c.in-Err-restore.ensures.err in
    refused_of (g.D.Disk.told c.args.disk) c.args.catalogue.now c.slots_for-slots.result (g.D.Disk.state c.args.disk) (g.D.Disk.state f.disk) c.in-Ok.replay c.open.new.visit f.journal c.slots_for-slots.ensures c.in-Ok.ensures o.opened
    c.version.result r.0 c.in-Err-restore.slot c.version.ensures r.1 r.2
