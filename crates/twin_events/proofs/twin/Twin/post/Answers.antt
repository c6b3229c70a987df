use Rattle.twin_events.specs.Twins.{TwinStanding, standing}
use Rattle.twin_events.proofs.Leading.{posts_lead, still_ready}
use Rattle.twin_events.proofs.twin.Twin.post.Goals as goal

pub returns-clause-leads : goal.returns-clause-leads
returns-clause-leads g c =
    let v = c.args.self.now in let s : TwinStanding = standing v.outbox.out v.feed.stand (g.K.Keeper.state v.cabinet) v.sent.items in
    posts_lead v.outbox.catalogue s c.post.new.self.out c.args.cover.now (g.N.Disk.faults v.outbox.file.disk) (g.N.Disk.faults c.post.new.self.file.disk) c.post.result c.requires.ready c.requires.cover c.post.ensures.row

pub returns-clause-ready : goal.returns-clause-ready
returns-clause-ready g c =
    let v = c.args.self.now in let s : TwinStanding = standing v.outbox.out v.feed.stand (g.K.Keeper.state v.cabinet) v.sent.items in
    still_ready v.outbox.catalogue c.post.new.self.catalogue s c.post.new.self.out c.post.ensures.catalogue c.requires.ready
