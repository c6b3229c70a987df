use Rattle.twin_events.specs.Twins.{TwinStanding, standing}
use Rattle.twin_events.proofs.Leading.{next_leads}
use Rattle.twin_events.proofs.twin.Twin.send.Goals as goal

pub returns-in-Some-clause-leads : goal.returns-in-Some-clause-leads
returns-in-Some-clause-leads g c =
    let v = c.args.self.now in let s : TwinStanding = standing v.outbox.out v.feed.stand (g.K.Keeper.state v.cabinet) v.sent.items in
    next_leads s c.reserve.new.self.items c.push_reserved.new.self.items c.in-Some.packet c.in-Some.ensures.first c.reserve.ensures.items c.push_reserved.ensures.items
