use Rattle.twin_events.specs.Gets.{Failures, failures}
use Rattle.twin_events.specs.Twins.{TwinStanding, standing}
use Rattle.twin_events.proofs.Answering.{gets_of, gets_ready, runs_out}
use Rattle.twin_events.proofs.twin.Twin.ask.Goals as goal

pub returns-clause-gets : goal.returns-clause-gets
returns-clause-gets g c =
    let v = c.args.self.now in let K = g.K.Keeper in let S = g.S.Source in let s : TwinStanding = standing v.outbox.out v.feed.stand (K.state v.cabinet) v.sent.items in
    let before : Failures = failures (S.faults c.args.source.now) (K.faults v.cabinet) in
    let after : Failures = failures (S.faults c.get_tile.new.source) (K.faults c.get_tile.new.cabinet) in
    gets_of (S.told c.args.source.now) v.outbox.catalogue s before after c.args.address.now (K.state c.get_tile.new.cabinet) c.known.ensures c.requires.ready c.requires.tile c.get_tile.result c.get_tile.ensures.gets

pub returns-clause-err : goal.returns-clause-err
returns-clause-err g c =
    let v = c.args.self.now in let K = g.K.Keeper in let S = g.S.Source in let s : TwinStanding = standing v.outbox.out v.feed.stand (K.state v.cabinet) v.sent.items in
    let before : Failures = failures (S.faults c.args.source.now) (K.faults v.cabinet) in
    let after : Failures = failures (S.faults c.get_tile.new.source) (K.faults c.get_tile.new.cabinet) in
    runs_out (S.told c.args.source.now) v.outbox.catalogue s before after c.args.address.now (K.state c.get_tile.new.cabinet) c.known.ensures c.requires.ready c.requires.tile c.get_tile.result c.get_tile.ensures.gets

pub returns-clause-ready : goal.returns-clause-ready
returns-clause-ready g c =
    let v = c.args.self.now in let K = g.K.Keeper in let S = g.S.Source in let s : TwinStanding = standing v.outbox.out v.feed.stand (K.state v.cabinet) v.sent.items in
    let before : Failures = failures (S.faults c.args.source.now) (K.faults v.cabinet) in
    let after : Failures = failures (S.faults c.get_tile.new.source) (K.faults c.get_tile.new.cabinet) in
    gets_ready (S.told c.args.source.now) v.outbox.catalogue s before after c.args.address.now (K.state c.get_tile.new.cabinet) c.known.ensures c.requires.ready c.requires.tile c.get_tile.result c.get_tile.ensures.gets
